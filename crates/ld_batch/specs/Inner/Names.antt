-- Names of one list that are added to another. No contract of a `Batch` cites this file.
use Rattle.std.specs.Prelude.{◌≡◌, ℕ, ◌+◌, ◌≤◌, All, IsSome, List, length, take, fold}
use Rattle.ld_class.specs.Names.{PlainClass, place_of, with_name}

-- the names with all of these among them
abbrev pub with_names : List PlainClass → List PlainClass → List PlainClass
with_names names more = fold with_name names more

-- the names that were there keep their places, and at most so many came after them
pub record IsLonger (old new : List PlainClass) (more : ℕ) : Type 0 where
  pub front : take (length old) new ≡ old
  pub least : length old ≤ length new
  pub most : length new ≤ length old + more

-- all of these are among the names
abbrev pub AreThere : List PlainClass → List PlainClass → Type 0
AreThere names these = All (λ name. IsSome (place_of names name)) these
