-- What invariants and proofs cite, and what the calls of ld_tables say to the crates above: a reader of the
-- promises needs none of it.
pub mod Numbers
pub mod Tasks
pub mod Interrupts
pub mod Stacks
pub mod Chains
pub mod Edges
pub mod Locks
pub mod Uses
