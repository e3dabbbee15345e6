pub mod Desk
pub mod Inner
pub mod Work
pub use Rattle.ld_tickets.specs.Draw
