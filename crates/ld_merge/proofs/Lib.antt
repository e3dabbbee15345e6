pub mod HeadLemmas
pub mod LeastLemmas
pub mod MergeLemmas
