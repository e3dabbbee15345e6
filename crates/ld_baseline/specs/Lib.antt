pub mod Said
pub mod Match
pub mod Front
pub mod Known
pub mod News
pub mod Gone
