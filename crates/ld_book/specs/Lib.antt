pub mod Totals
pub mod Book
pub mod Dependencies
pub mod Inner
pub use Rattle.ld_union.specs.Violations
pub use Rattle.ld_union.specs.Alarms
pub use Rattle.ld_union.specs.Findings
pub use Rattle.ld_union.specs.Usage
pub use Rattle.ld_union.specs as OfUnion
