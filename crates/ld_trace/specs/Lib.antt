pub mod Lines
pub mod Inner
pub mod Sources
pub mod Events
pub mod First
