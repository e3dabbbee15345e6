-- What only invariants, private functions and proofs cite: a reader of the promises needs none of it.
pub mod Alarms
pub mod Begin
