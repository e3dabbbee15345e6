-- Marks of what was found or expanded. No public contract cites this file.
use Rattle.std.specs.Prelude.{◌≡◌, ◌↔◌, ℕ, Bool, true, false, List, Contains, nat_eq, slice_index_or}
use Rattle.std.specs.List.{IsDistinct}

-- exactly those offsets have a mark that were found, each once
pub record AreMarked (marks : List Bool) (found : List ℕ) : Type 0 where
  pub once : IsDistinct nat_eq found
  pub marked : (k : ℕ) → (slice_index_or marks k false ≡ true) ↔ Contains found k

-- what is seen of marks: for each class whether its mark is on, how many are on, and for how many
-- classes there is memory
pub record Marked : Type 0 where
  pub each : List Bool
  pub count : ℕ
  pub room : ℕ
