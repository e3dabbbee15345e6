-- What the loops of this crate cite: a reader of the promises needs none of it.
pub mod Shows
pub mod Kept
pub mod Arounds
pub mod Carried
