pub mod Named
pub mod Inner
pub mod Facts
-- what the clauses here cite of the crates below
pub use Rattle.ld_rules.specs.Open
pub use Rattle.ld_rules.specs.Frames
pub use Rattle.ld_rules.specs.Held
pub use Rattle.ld_rules.specs.Flags
pub use Rattle.ld_rules.specs.Outcome
pub use Rattle.ld_rules.specs.Dependency
pub use Rattle.ld_rules.specs.Usage
pub use Rattle.ld_rules.specs.Union
