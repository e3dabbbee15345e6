pub mod DistinctLemmas
pub mod MessageLemmas
pub mod SafeLemmas
