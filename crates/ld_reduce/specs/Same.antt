-- What it means that some traces show together what others do.
use Rattle.std.specs.Prelude.{◌≡◌, ℕ, ◌-◌, ◌==◌, List, [], ◌∷◌, Option, None, if◌then◌else◌}
use Rattle.std.specs.Option.{is_some, option_map}
use Rattle.ld_trace.specs.Sources.{PlainSource}
use Rattle.ld_rules.specs.declared.outcome.Witness.{Witness}
use Rattle.ld_rules.specs.Dependency.{Dependency}
use Rattle.ld_rules.specs.Union.{dependency_witness, use_witness}
use Rattle.ld_rules.specs.Usage.{Use}
use Rattle.ld_origin.specs.Origin.{PlainOrigin, origin_of}

-- the same dependencies and the same usage bits of the same classes, wherever they are seen
pub record ShowSame (sources others : List PlainSource) : Type 0 where
  pub dependencies : (what : Dependency) → is_some (dependency_witness sources what) ≡ is_some (dependency_witness others what)
  pub uses : (what : Use) → is_some (use_witness sources what) ≡ is_some (use_witness others what)

-- each dependency and usage bit is first seen at the same line of the trace of the same number
pub record HaveSameWitnesses (sources others : List PlainSource) : Type 0 where
  pub dependencies : (what : Dependency) → dependency_witness sources what ≡ dependency_witness others what
  pub uses : (what : Use) → use_witness sources what ≡ use_witness others what

-- where something was seen, whatever the numbers of traces and lines: the label of the trace, where the trace says
-- that it comes from, and which of the lines behind its header it is, from 0
pub record Place : Type 0 where
  pub label : List ℕ
  pub origin : Option PlainOrigin
  pub line : ℕ

-- where this witness is among these traces, by the first that has its number
abbrev pub place_of : List PlainSource → Witness → Place
place_of [] witness = record { label = []; origin = None; line = 0 }
place_of (source ∷ others) witness =
    if source.number == witness.number then record { label = source.label; origin = origin_of source.bytes; line = witness.line - source.first_line }
    else place_of others witness

-- The same dependencies and the same usage bits of the same classes, each of them first seen at the same
-- line of a trace of the same label, which says that it comes from the same place.
pub record HaveSameUnion (sources others : List PlainSource) : Type 0 where
  pub dependencies : (what : Dependency)
      → option_map (place_of sources) (dependency_witness sources what) ≡ option_map (place_of others) (dependency_witness others what)
  pub uses : (what : Use)
      → option_map (place_of sources) (use_witness sources what) ≡ option_map (place_of others) (use_witness others what)
