pub mod Names
pub mod Overview
pub mod Readers
pub use Rattle.ld_book.specs as OfBook
