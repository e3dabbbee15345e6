-- Where a row of usage says that a bit was seen. No contract of a `Book` cites this file.
use Rattle.std.specs.Prelude.{Option, None, slice_index_or}
use Rattle.std.specs.List.{position_or_len}
use Rattle.ld_rules.specs.declared.outcome.Witness.{Witness}
use Rattle.ld_rules.specs.Usage.{Bit, same_bit}
use Rattle.ld_union.specs.declared.usage.UsageRow.{UsageRow}
use Rattle.ld_union.specs.Usage.{bits}

-- where the row says that the bit was first seen
abbrev pub first_in : UsageRow → Bit → Option Witness
first_in row bit = slice_index_or row.first (position_or_len (same_bit bit) bits) None
