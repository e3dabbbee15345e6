pub mod EdgeLemmas
pub mod LineLemmas
pub mod MetLemmas
pub mod NameLemmas
pub mod SourceLemmas
pub mod EarlierLemmas
pub mod SinceLemmas
