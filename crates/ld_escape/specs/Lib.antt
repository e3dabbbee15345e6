pub mod Forms
pub mod Messages
pub mod Shown
pub mod Visible
pub mod Written
