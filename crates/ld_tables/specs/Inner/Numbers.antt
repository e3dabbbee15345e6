-- Distinct numbers, and by each its place among them, or its mark. Only the invariants of `SparseSet` and `MarkedSet`
-- cite it.
use Rattle.std.specs.Prelude.{◌≡◌, ◌≢◌, ◌<◌, ℕ, Bool, false, List, length, nat_eq, slice_index_or}
use Rattle.std.specs.List.{list_any, AllPairs}

-- each number stands at its place in the order; the places of others say nothing
pub record AreAtPlaces (order place : List ℕ) : Type 0 where
  pub within : (i : ℕ) → i < length order → slice_index_or order i 0 < length place
  pub placed : (i : ℕ) → i < length order
      → slice_index_or place (slice_index_or order i 0) 0 ≡ i

-- just the numbers in the order have their marks on, and each stands there once
pub record AreMarked (order : List ℕ) (marks : List Bool) : Type 0 where
  pub noted : (n : ℕ) → slice_index_or marks n false ≡ list_any (nat_eq n) order
  pub distinct : AllPairs (λ a b. a ≢ b) order
