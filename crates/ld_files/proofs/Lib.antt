pub mod HeaderLemmas
pub mod HomeLemmas
pub mod LineLemmas
