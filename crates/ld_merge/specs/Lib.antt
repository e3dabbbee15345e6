pub mod Order
pub mod Heads
pub mod Merge
