pub mod Format
pub mod Place
pub mod Track
