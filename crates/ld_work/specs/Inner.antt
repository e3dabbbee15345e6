-- What invariants and proofs cite, and what the calls of ld_work say to the crates above: a reader of the
-- promises needs none of it.
pub mod Uneven
pub mod Seen
