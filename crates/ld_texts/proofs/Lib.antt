pub mod ReaderLemmas
mod StatsLemmas
