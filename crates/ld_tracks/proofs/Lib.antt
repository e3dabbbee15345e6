pub mod LatestLemmas
pub mod TrackLemmas
