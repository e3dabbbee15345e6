-- What proofs cite, and what a scan keeps is compared with: a reader of the promises needs none of it.
pub mod Levels
pub mod Scanned
