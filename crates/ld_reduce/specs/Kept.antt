-- Which traces are kept: those in which something was first seen.
use Rattle.std.specs.Prelude.{◌≡◌, ◌⊎◌, ℕ, Bool, ◌&&◌, ◌||◌, List, filter, Option, Some}
use Rattle.std.specs.Bool.{Decides}
use Rattle.ld_trace.specs.Sources.{PlainSource}
use Rattle.ld_rules.specs.declared.outcome.Witness.{Witness}
use Rattle.ld_rules.specs.Dependency.{Dependency}
use Rattle.ld_rules.specs.Outcome.{outcome}
use Rattle.ld_rules.specs.Union.{dependency_witness, use_witness}
use Rattle.ld_rules.specs.Usage.{Use}
use Rattle.ld_book.specs.Totals.{is_refused}

-- something was first seen, in the trace of this number
abbrev pub IsAt : ℕ → Option Witness → Type 0
IsAt number first = (line : ℕ) × (first ≡ Some (record { number = number; line = line }))

-- a dependency, or a usage bit of a class, was first seen in the trace of this number
abbrev pub IsFirst : List PlainSource → ℕ → Type 0
IsFirst sources number =
    ((what : Dependency) × IsAt number (dependency_witness sources what))
    ⊎ ((what : Use) × IsAt number (use_witness sources what))

-- a trace is kept where its number passes a test, and, where refused ones are kept, where it is refused
abbrev pub keeps : (ℕ → Bool) → Bool → PlainSource → Bool
keeps is_first refused source = is_first source.number || (refused && is_refused (outcome source))

-- the traces that are kept, in their order
abbrev pub kept_by : (ℕ → Bool) → Bool → List PlainSource → List PlainSource
kept_by is_first refused sources = filter (keeps is_first refused) sources

-- These of the sources are kept: exactly those in which something was first seen, and, where refused ones
-- are kept, those too, in their order.
pub record AreKept (refused : Bool) (sources kept : List PlainSource) : Type 0 where
  pub is_first : ℕ → Bool
  pub exact : (number : ℕ) → Decides (is_first number) (IsFirst sources number)
  pub are : kept ≡ kept_by is_first refused sources
