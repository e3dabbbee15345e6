pub mod Kept
pub mod Running
