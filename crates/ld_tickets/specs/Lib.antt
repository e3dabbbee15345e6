pub mod Draw
pub mod Rule
