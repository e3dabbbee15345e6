pub mod CleanLemmas
pub mod OrderLemmas
pub mod Permuted
pub mod QuietLemmas
pub mod Texts
pub mod TraceLemmas
pub mod Unique
pub mod Verdicts
pub mod WalkLemmas
pub use Rattle.ld_book.proofs as OfBook
