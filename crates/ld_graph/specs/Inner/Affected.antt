-- What two searches through the labels of a range say. No public contract cites this file.
use Rattle.std.specs.Prelude.{◌≡◌, ◌⊎◌, ℕ, ◌<◌, ◌≤◌, List, length, slice_index, Contains}
use Rattle.ld_graph.specs.declared.affected.Direction.{Direction}
use Rattle.ld_graph.specs.declared.affected.Direction.TheVariants.{Forward, Backward}
use Rattle.ld_graph.specs.Inner.Repairs.{IsOrReaches}
use Rattle.ld_graph.specs.Lists.{IsNear, Sides}

-- the lists of the neighbours that a search follows
abbrev pub of_direction : Direction → Sides → List (List ℕ)
of_direction Forward sides = sides.after.lists
of_direction Backward sides = sides.before.lists

-- the label is in the range
abbrev pub IsIn : (low high label : ℕ) → Type 0
IsIn low high label = (low ≤ label) × (label ≤ high)

-- some of these classes, with labels in the range, were added
pub record IsReached (near : ℕ → Type 0) (label : ℕ → ℕ) (low high : ℕ) (old new : List ℕ) : Type 0 where
  pub longer : length old ≤ length new
  pub front : (i : ℕ) → i < length old → slice_index new i ≡ slice_index old i
  pub fresh : (k : ℕ) → Contains new k → Contains old k ⊎ (near k × IsIn low high (label k))

-- what a search has found from its first class on, and that it went on from so many of it
pub record IsFound (near : ℕ → ℕ → Type 0) (label : ℕ → ℕ) (n low high : ℕ) (found : List ℕ) (done : ℕ) : Type 0 where
  pub some : 0 < length found
  pub upto : done ≤ length found
  pub within : (k : ℕ) → Contains found k → (k < n) × IsIn low high (label k)
  pub reached : (k : ℕ) → Contains found k → IsOrReaches near (slice_index found 0) k
  pub closed : (i y : ℕ) → i < done → near (slice_index found i) y → IsIn low high (label y) → Contains found y

-- the search in this direction has ended, and what the other one has found is right
abbrev pub HasEnded : Direction → (sides : Sides) → (label : ℕ → ℕ) → (n low high : ℕ) → (backward forward : List ℕ) → Type 0
HasEnded Backward sides label n low high backward forward =
    IsFound (IsNear sides.before.lists) label n low high backward (length backward)
    × IsFound (IsNear sides.after.lists) label n low high forward 0
HasEnded Forward sides label n low high backward forward =
    IsFound (IsNear sides.after.lists) label n low high forward (length forward)
    × IsFound (IsNear sides.before.lists) label n low high backward 0
