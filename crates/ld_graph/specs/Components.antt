-- Which classes are in one component.
use Rattle.std.specs.Prelude.{◌≡◌, ◌⊎◌, ◌↔◌, ℕ, ◌<◌, List, length, slice_index}
use Rattle.ld_graph.specs.Walks.{HasWalk}

-- the classes are the same, or walks lead both ways between them
abbrev pub AreTogether : (ℕ → ℕ → Type 0) → ℕ → ℕ → Type 0
AreTogether step a b = (a ≡ b) ⊎ (HasWalk step a b × HasWalk step b a)

-- a number for each of n classes, where two have the same number exactly if they are in one component
pub record AreComponents (step : ℕ → ℕ → Type 0) (n : ℕ) (components : List ℕ) : Type 0 where
  pub len : length components ≡ n
  pub each : (a b : ℕ) → a < n → b < n
      → (slice_index components a ≡ slice_index components b) ↔ AreTogether step a b
