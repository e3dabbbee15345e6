-- What the crate's own search says of its working space. No public contract cites this file.
use Rattle.std.specs.Prelude.{◌≡◌, ℕ, ◌<◌, ◌≤◌, ◌⊎◌, List, length, slice_index, slice_index_or}
use Rattle.std.specs.Prelude.{Option, Some, None}
use Rattle.ld_graph.specs.Edges.{ComesBefore}

-- the level that a class was given
abbrev pub level_at : List (Option ℕ) → ℕ → Option ℕ
level_at levels x = slice_index_or levels x None

abbrev pub HasLevel : List (Option ℕ) → ℕ → Type 0
HasLevel levels x = (k : ℕ) × (level_at levels x ≡ Some k)

-- some classes that are near and had no level were given this one, and wait behind those that did
-- already
pub record Spreads (near : ℕ → Type 0) (level : ℕ) (old : List (Option ℕ)) (before : List ℕ)
    (new : List (Option ℕ)) (after : List ℕ) : Type 0 where
  pub kept : (x k : ℕ) → level_at old x ≡ Some k → level_at new x ≡ Some k
  pub fresh : (x k : ℕ) → level_at new x ≡ Some k
      → (level_at old x ≡ Some k)
      ⊎ ((k ≡ level) × near x × ((i : ℕ) × ((length before ≤ i) × (i < length after)
      × (slice_index after i ≡ x))))
  pub front : (i : ℕ) → i < length before → slice_index after i ≡ slice_index before i
  pub longer : length before ≤ length after
  pub added : (i : ℕ) → length before ≤ i → i < length after
      → level_at new (slice_index after i) ≡ Some level

-- of the classes of this level that are near, x comes first
pub record IsLeastAtLevel (near : ℕ → Type 0) (level : ℕ) (levels : List (Option ℕ)) (places : List ℕ)
    (x : ℕ) : Type 0 where
  pub is_near : near x
  pub has_level : level_at levels x ≡ Some level
  pub least : (z : ℕ) → near z → level_at levels z ≡ Some level → ¬ ComesBefore places z x
