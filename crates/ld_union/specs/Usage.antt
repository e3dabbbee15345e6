-- What a row of usage says of a class.
use Rattle.std.specs.Prelude.{List, [], ◌∷◌, map, filter, fold, Option, Some, None, if◌then◌else◌}
use Rattle.std.specs.Option.{is_some}
use Rattle.ld_class.specs.declared.usage.Usage.{Usage}
use Rattle.ld_class.specs.Names.{PlainClass, place_of}
use Rattle.ld_class.specs.Usage.{either, no_bits}
use Rattle.ld_trace.specs.declared.event.State.TheVariants.{Hard, Soft}
use Rattle.ld_trace.specs.Sources.{PlainSource}
use Rattle.ld_rules.specs.declared.outcome.Witness.{Witness}
use Rattle.ld_rules.specs.Usage.{Bit, usage_of}
use Rattle.ld_rules.specs.Usage.Bit.{In, On}
use Rattle.ld_rules.specs.Union.{union_classes, use_witness}
use Rattle.ld_union.specs.declared.usage.UsageRow.{UsageRow}

-- the four bits, in the order of their witnesses in a row
abbrev pub bits : List Bit
bits = In Hard ∷ On Hard ∷ In Soft ∷ On Soft ∷ []

-- the set of the bits that have a witness
abbrev pub witnessed_bits : (Bit → Option Witness) → Usage
witnessed_bits first = fold either no_bits (map usage_of (filter (λ bit. is_some (first bit)) bits))

-- the row of a class each of whose bits was first seen there
abbrev pub row_of : (Bit → Option Witness) → UsageRow
row_of first = record { bits = witnessed_bits first; first = map first bits }

-- the row of a class of these sources, and nothing where it is no class of theirs
abbrev pub usage_row : List PlainSource → PlainClass → Option UsageRow
usage_row sources class =
    if is_some (place_of (union_classes sources) class)
    then Some (row_of (λ bit. use_witness sources (record { class = class; bit = bit })))
    else None

-- the bits of the classes, by their numbers
abbrev pub bits_of : List UsageRow → List Usage
bits_of rows = map (λ row. row.bits) rows
