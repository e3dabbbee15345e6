-- Which number tells that a book doesn't list each source.
use Rattle.std.specs.Prelude.{◌<◌, ◌≤◌, ℕ, List, length, slice_index_or}
use Rattle.std.specs.List.{Contains}
use Rattle.ld_trace.specs.Sources.{PlainSource}

-- The source of this number isn't listed as it stands. (A book lists no number twice.)
abbrev pub IsMissing : List PlainSource → List PlainSource → ℕ → Type 0
IsMissing sources listed number =
    (number < length sources) × ((d : PlainSource) → Contains listed (slice_index_or sources number d) → ⊥)

-- the least number whose source is missing
pub record IsUneven (sources listed : List PlainSource) (number : ℕ) : Type 0 where
  pub missing : IsMissing sources listed number
  pub least : (other : ℕ) → IsMissing sources listed other → number ≤ other
