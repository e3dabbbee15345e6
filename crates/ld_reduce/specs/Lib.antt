pub mod Written
pub mod Kept
pub mod Same
pub mod Reduced
pub mod Left
pub mod Reduction
pub use Rattle.ld_book.specs as OfBook
pub use Rattle.ld_rules.specs.Outcome as Outcome
