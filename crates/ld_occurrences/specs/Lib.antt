pub mod Named
pub mod Occurrences
pub mod Text
pub mod List
