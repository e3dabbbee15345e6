-- What it means that some traces show together what others show.
use Rattle.std.specs.Prelude.{◌≡◌, ℕ, Bool, false, List, map, filter, All, is_some}
use Rattle.ld_class.specs.Names.{PlainClass, place_of}
use Rattle.ld_trace.specs.Sources.{PlainSource}
use Rattle.ld_rules.specs.Outcome.{outcome}
use Rattle.ld_rules.specs.Dependency.{Dependency}
use Rattle.ld_rules.specs.Union.{dependency_witness, union_classes, use_witness}
use Rattle.ld_rules.specs.Usage.{Use}
use Rattle.ld_reduce.specs.OfBook.Totals.{is_refused}
use Rattle.ld_reduce.specs.Written.{IsTrace, ended}

-- the traces of the one list have the classes, the dependencies and the usage bits of those of the other
pub record HaveSame (these others : List PlainSource) : Type 0 where
  pub classes : (class : PlainClass) → is_some (place_of (union_classes these) class) ≡ is_some (place_of (union_classes others) class)
  pub dependencies : (what : Dependency) → is_some (dependency_witness these what) ≡ is_some (dependency_witness others what)
  pub uses : (what : Use) → is_some (use_witness these what) ≡ is_some (use_witness others what)

-- none of the traces is rejected
abbrev pub AreRead : List PlainSource → Type 0
AreRead sources = All (λ source. is_refused (outcome source) ≡ false) sources

-- none of the traces of both lists is rejected, and they have the same
pub record AreAlike (these others : List PlainSource) : Type 0 where
  pub read : AreRead these
  pub others_read : AreRead others
  pub traces : All IsTrace others
  pub same : HaveSame these others

-- a trace without its number and place: its label and its lines
pub record Whole : Type 0 where
  pub label : List ℕ
  pub bytes : List ℕ

abbrev pub whole : PlainSource → Whole
whole source = record { label = source.label; bytes = ended source.bytes }

-- the traces that are rejected
abbrev pub rejected : List PlainSource → List Whole
rejected sources = map whole (filter (λ source. is_refused (outcome source)) sources)
