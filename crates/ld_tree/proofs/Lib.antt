pub mod TreeLemmas
pub mod PartLemmas
pub mod ClimbLemmas
pub mod ListLemmas
pub mod BuiltLemmas
