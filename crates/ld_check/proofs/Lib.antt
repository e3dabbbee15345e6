pub use Rattle.ld_report.proofs as OfReport
pub mod StreamFaults
pub mod ReadLemmas
