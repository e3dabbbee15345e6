-- What proofs cite of a task that is replayed, and what its calls say to the crates above: a reader of the
-- promises needs none of it.
pub mod Task
pub mod Replay
