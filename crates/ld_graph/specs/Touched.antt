-- A list with an entry for each class, most of them none, and the classes that have one.
use Rattle.std.specs.Prelude.{◌≡◌, ℕ, ◌<◌, List, length, slice_index_or, Option, None, Some, Contains}

-- what has an entry is one of these classes
pub record AreTouched (entries : List (Option ℕ)) (touched : List ℕ) : Type 0 where
  pub within : (x : ℕ) → Contains touched x → x < length entries
  pub all : (x k : ℕ) → slice_index_or entries x None ≡ Some k → Contains touched x
