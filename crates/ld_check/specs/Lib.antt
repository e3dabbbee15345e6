pub use Rattle.ld_report.specs as OfReport
pub mod Faults
pub mod Run
