-- What invariants and proofs cite, and what the calls of ld_trace say to the crates above: a reader of the
-- promises needs none of it.
pub mod Front
pub mod Reading
pub mod Plain
pub mod Splitting
