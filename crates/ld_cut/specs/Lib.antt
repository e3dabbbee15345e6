pub mod State
pub mod Pieces
pub mod Alike
pub mod Cut
pub mod Inner
