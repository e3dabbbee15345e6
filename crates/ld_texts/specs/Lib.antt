pub mod List
pub mod Stats
