-- What invariants and proofs cite, and what the calls of ld_graph say to the crates above: a reader of the
-- promises needs none of it.
pub mod Runs
pub mod Sides
pub mod Levels
pub mod Repairs
pub mod Marks
pub mod Affected
pub mod Ranks
pub mod Placed
pub mod Kept
pub mod Sources
pub mod KeptReach
pub mod Trails
pub mod Insides
pub mod Distances
pub mod Lending
