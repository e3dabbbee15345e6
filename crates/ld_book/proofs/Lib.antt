pub mod BookLemmas
pub mod BoundLemmas
pub mod ListedLemmas
pub mod ListingLemmas
pub mod PermutedLemmas
pub mod RisingLemmas
pub mod TotalLemmas
pub use Rattle.ld_union.proofs as OfUnion
