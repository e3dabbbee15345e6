-- What the sources of a reach keep true of their fields. No public contract cites this file.
use Rattle.std.specs.Prelude.{◌≡◌, ◌↔◌, ℕ, ◌+◌, ◌≤◌, List, length, Option, None, Some, IsSome, Contains, slice_index_or, slice_set}
use Rattle.std.specs.Prelude.{nat_eq, ◌∷◌, ◌++◌, [], is_none, count_by, vec_len, vec_capacity}
use Rattle.std.specs.List.{IsDistinct}
use Rattle.ld_graph.specs.declared.sources.Sources.TheInside.{Inside}

-- what is seen of sources: for each class its source, if it has one; the classes with a source, in the order in which
-- they got it; and for how many classes there is memory
pub record Sourced : Type 0 where
  pub each : List (Option ℕ)
  pub reached : List ℕ
  pub room : ℕ

-- the list has the classes with a source, each once
pub record AreReached (sources : List (Option ℕ)) (reached : List ℕ) : Type 0 where
  pub once : IsDistinct nat_eq reached
  pub each : (c : ℕ) → Contains reached c ↔ IsSome (slice_index_or sources c None)

-- what holds of the fields of all sources
pub record AreSourcesKept (s : Inside) : Type 0 where
  pub listed : AreReached s.each.items s.reached.items
  -- each class is in the list once, or has no source
  pub each_once : vec_len s.reached + count_by is_none s.each.items ≡ length s.each.items
  pub within : length s.each.items ≤ s.room
  pub room_each : s.room ≤ vec_capacity s.each
  pub room_reached : s.room ≤ vec_capacity s.reached

-- The class has this source now, unless it had one, and is in the list.
pub record IsGiven (class from : ℕ) (sources : List (Option ℕ)) (reached : List ℕ) (new_sources : List (Option ℕ)) (new_reached : List ℕ) : Type 0 where
  pub had : IsSome (slice_index_or sources class None) → (new_sources ≡ sources) × (new_reached ≡ reached)
  pub gets : slice_index_or sources class None ≡ None → new_sources ≡ slice_set sources class (Some from)
  pub waits : slice_index_or sources class None ≡ None → new_reached ≡ reached ++ class ∷ []
