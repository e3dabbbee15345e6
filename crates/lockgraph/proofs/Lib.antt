pub mod NewsLemmas
pub mod GroupLemmas
