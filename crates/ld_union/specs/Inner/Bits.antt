-- The bits of classes, by their numbers. No contract of a `Book` cites this file.
use Rattle.std.specs.Prelude.{◌≡◌, ℕ, true, List, slice_index_or}
use Rattle.ld_class.specs.declared.usage.Usage.{Usage}
use Rattle.ld_class.specs.Usage.{has_bit, no_bits}
use Rattle.ld_rules.specs.Usage.{Bit, usage_of}
use Rattle.ld_union.specs.declared.delta.NewBit.{NewBit}

-- the class has this bit; a class that has no bits of its own has none
abbrev pub HasBitAt : List Usage → ℕ → Bit → Type 0
HasBitAt usage class bit = has_bit (slice_index_or usage class no_bits) (usage_of bit) ≡ true

-- this bit of this class
abbrev pub new_bit : ℕ → Bit → NewBit
new_bit class bit = record { class = class; bit = usage_of bit }
