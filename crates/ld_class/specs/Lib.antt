pub mod Usage
pub mod Names
pub mod Blocks
