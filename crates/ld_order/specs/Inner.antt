-- What invariants and proofs cite: a reader of the promises needs none of it.
pub mod Rings
pub mod Labels
pub mod Kept
