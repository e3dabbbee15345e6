-- What only private functions and proofs cite: a reader of the promises needs none of it.
pub mod Reading
