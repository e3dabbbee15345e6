pub mod ByteLemmas
pub mod UsageLemmas
pub mod Mapped
pub mod AnyNames
pub mod NameLemmas
pub mod Shown
pub mod ListLemmas
pub mod BlockLemmas
