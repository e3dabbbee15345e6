-- What a row or a class of a book shows of those of another.
use Rattle.std.specs.Prelude.{◌≡◌, ◌<◌, ℕ, List, IsSome, None, slice_index_or}
use Rattle.ld_class.specs.Names.{PlainClass, place_of}
use Rattle.ld_trace.specs.Sources.{PlainSource}
use Rattle.ld_rules.specs.Union.{union_classes, use_witness}
use Rattle.ld_rules.specs.Usage.{Bit}
use Rattle.ld_reduce.specs.OfBook.OfUnion.declared.usage.UsageRow.{UsageRow}

-- the row has each bit of the other one
abbrev pub ShowsBits : UsageRow → UsageRow → Type 0
ShowsBits row other = (i : ℕ) → i < 4 → IsSome (slice_index_or other.first i None) → IsSome (slice_index_or row.first i None)

-- these traces have the class, and each usage bit of it that the others have
pub record ShowsClass (sources others : List PlainSource) (class : PlainClass) : Type 0 where
  pub there : IsSome (place_of (union_classes sources) class)
  pub uses : (bit : Bit) → IsSome (use_witness others (record { class = class; bit = bit })) → IsSome (use_witness sources (record { class = class; bit = bit }))
