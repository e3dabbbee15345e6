pub mod Trees
pub mod Inner
