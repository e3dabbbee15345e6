pub mod Parts
pub mod Lists
pub mod Options
pub mod Recordings
