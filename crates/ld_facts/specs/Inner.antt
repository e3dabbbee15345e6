-- What invariants and proofs cite, and what the calls of ld_facts say to the crates above: a reader of the
-- promises needs none of it.
pub mod Scan
pub mod Reading
pub mod Kept
pub mod Rows
pub mod Series
