pub mod Reduced
pub mod Groups
pub mod Shown
pub mod Faults
pub mod News
pub mod Json
