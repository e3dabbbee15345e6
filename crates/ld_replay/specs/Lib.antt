pub mod HeldAt
pub mod Before
pub mod Inner
