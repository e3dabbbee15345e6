-- What invariants and proofs cite, and what the calls of ld_union say to the crates above: a reader of the
-- promises needs none of it.
pub mod States
pub mod Bits
pub mod Reached
pub mod Union
pub mod Delta
pub mod Noted
pub mod Earlier
pub mod ByName
pub mod Numbers
pub mod Rows
pub mod Walks
pub mod Parts
pub mod Seen
