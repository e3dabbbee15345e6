-- What a repair of the order says. No public contract cites this file.
use Rattle.std.specs.Prelude.{◌≡◌, ◌⊎◌, ℕ, zero, suc, ◌+◌, ◌<◌, ◌≤◌, Option, None, Some, List, ◌∷◌, ◌++◌, [], Contains, length, slice_index}
use Rattle.ld_graph.specs.Walks.{HasWalk}

-- the classes that a search has found, among so many
pub record Sought : Type 0 where
  pub found : List ℕ
  pub size : ℕ

-- the class was there, or is the last now
abbrev pub IsAdded : List ℕ → ℕ → List ℕ → Type 0
IsAdded old class new = (Contains old class × (new ≡ old))
    ⊎ ((¬ Contains old class) × (new ≡ old ++ class ∷ []))

-- the class is this one, or a walk leads to it
abbrev pub IsOrReaches : (ℕ → ℕ → Type 0) → ℕ → ℕ → Type 0
IsOrReaches near a b = (a ≡ b) ⊎ HasWalk near a b

-- what a number stands for, 0 being none
abbrev pub told : ℕ → Option ℕ
told zero = None
told (suc r) = Some (suc r)

-- the order was mended for an edge from a to b
pub record IsMended (step : ℕ → ℕ → Type 0) (a b : ℕ) (old new : List ℕ) : Type 0 where
  pub len : length new ≡ length old
  pub rises : (x y : ℕ) → step x y → slice_index new x < slice_index new y
  pub turned : slice_index new a < slice_index new b
  pub outside : (c : ℕ) → c < length old
      → (slice_index old c < slice_index old b) ⊎ (slice_index old a < slice_index old c)
      → slice_index new c ≡ slice_index old c
  pub beside : (c : ℕ) → c < length old
      → (slice_index new c ≤ slice_index new a) ⊎ (slice_index new b ≤ slice_index new c)
  pub alike : (c d : ℕ) → c < length old → d < length old
      → ((slice_index new c ≤ slice_index new a) × (slice_index new d ≤ slice_index new a))
      ⊎ ((slice_index new b ≤ slice_index new c) × (slice_index new b ≤ slice_index new d))
      → slice_index old c < slice_index old d → slice_index new c < slice_index new d

-- the order was mended, and so many lists were read for it
pub record IsRepaired (step : ℕ → ℕ → Type 0) (a b : ℕ) (old new : List ℕ) (expanded : ℕ) : Type 0 where
  pub mended : IsMended step a b old new
  pub some : 0 < expanded
  pub few : expanded + slice_index old b ≤ slice_index old a + 1
