pub mod Comments
pub mod Looks
pub mod Quotes
pub mod Streams
pub mod Homes
pub mod Faults
