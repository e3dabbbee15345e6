pub mod Batch
pub mod Inner
