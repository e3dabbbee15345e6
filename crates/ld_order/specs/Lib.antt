pub mod Orders
pub mod Inner
pub mod Lending
