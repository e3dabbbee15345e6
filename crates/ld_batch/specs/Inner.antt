-- What invariants and proofs cite, and what the calls of ld_batch say to the crates above: a reader of the
-- promises needs none of it.
pub mod Names
pub mod Rows
pub mod Lent
