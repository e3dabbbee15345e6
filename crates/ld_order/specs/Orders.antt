-- An order of numbered classes as its callers see it.
use Rattle.std.specs.Prelude.{◌≡◌, ◌↔◌, ℕ, ◌<◌, ◌≤◌, List, length, slice_index, Contains}

-- the rank of each class, and for how many classes there is memory
pub record Ordered : Type 0 where
  pub ranks : List ℕ
  pub room : ℕ

-- the ranks are the numbers below their count, each once
pub record AreRanks (ranks : List ℕ) : Type 0 where
  pub below : (c : ℕ) → c < length ranks → slice_index ranks c < length ranks
  pub once : (c d : ℕ) → c < length ranks → d < length ranks → slice_index ranks c ≡ slice_index ranks d → c ≡ d
  pub each : (r : ℕ) → r < length ranks → Contains ranks r

-- numbers, one for each class, are in the order of the ranks
abbrev pub AreInOrder : (ranks numbers : List ℕ) → Type 0
AreInOrder ranks numbers = (c d : ℕ) → c < length ranks → d < length ranks
    → (slice_index numbers c < slice_index numbers d) ↔ (slice_index ranks c < slice_index ranks d)

-- Some classes went together, in their order, to between those that were ranked below this limit and the others. A
-- class that did not go stands to the others that did not as before. It keeps its rank where all that went are on the
-- side on which they were.
pub record HaveMoved (moved : ℕ → Type 0) (limit : ℕ) (old new : List ℕ) : Type 0 where
  pub len : length new ≡ length old
  pub among : (c d : ℕ) → moved c → moved d
      → (slice_index new c < slice_index new d) ↔ (slice_index old c < slice_index old d)
  pub stay : (c d : ℕ) → c < length old → d < length old → ¬ moved c → ¬ moved d
      → (slice_index new c < slice_index new d) ↔ (slice_index old c < slice_index old d)
  pub below : (c d : ℕ) → moved c → d < length old → ¬ moved d
      → (slice_index new d < slice_index new c) ↔ (slice_index old d < limit)
  pub above : (c d : ℕ) → moved c → d < length old → ¬ moved d
      → (slice_index new c < slice_index new d) ↔ (limit ≤ slice_index old d)
  pub keeps : (d : ℕ) → d < length old → ¬ moved d
      → ((c : ℕ) → moved c → (slice_index old c < slice_index old d) ↔ (limit ≤ slice_index old d))
      → slice_index new d ≡ slice_index old d
