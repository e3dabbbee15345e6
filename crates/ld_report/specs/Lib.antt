pub mod Inner
pub mod Report
pub mod Verdict
pub use Rattle.ld_book.specs as OfBook
