pub mod OverviewLemmas
pub mod ReaderLemmas
