-- A set of usage bits. Its number is the sum of its bits: IN_HARD 1, ON_HARD 2, IN_SOFT 4 and
-- ON_SOFT 8.
use Rattle.std.specs.Prelude.{ℕ, Bool, true, false, ◌==◌, List, ◌++◌, codes}
use Rattle.std.specs.Int.RustNames.{bit_and, bit_or}
use Rattle.ld_class.specs.declared.usage.Usage.{Usage}

-- no bit
abbrev pub no_bits : Usage
no_bits = record { 0 = 0 }

-- acquired, and not by a trylock, with a hard interrupt handler open
abbrev pub in_hard : Usage
in_hard = record { 0 = 1 }

-- held with the hard flag on
abbrev pub on_hard : Usage
on_hard = record { 0 = 2 }

-- acquired, and not by a trylock, with a soft interrupt handler open
abbrev pub in_soft : Usage
in_soft = record { 0 = 4 }

-- held with both flags on
abbrev pub on_soft : Usage
on_soft = record { 0 = 8 }

-- the bits that either has
abbrev pub either : Usage → Usage → Usage
either a b = record { 0 = bit_or a.0 b.0 }

-- the set has the bit
abbrev pub has_bit : Usage → Usage → Bool
has_bit usage bit = bit_and usage.0 bit.0 == bit.0

-- the usage character of a state, by whether the state's IN and its ON are there:
-- neither bit `.`, IN alone `-`, ON alone `+`, both `?`
abbrev pub usage_character : Bool → Bool → List ℕ
usage_character false false = codes "."
usage_character true false = codes "-"
usage_character false true = codes "+"
usage_character true true = codes "?"

-- the usage character of hard at position 1, that of soft at position 3, and `.` at 2 and 4
abbrev pub marks_of : Usage → List ℕ
marks_of usage =
    usage_character (has_bit usage in_hard) (has_bit usage on_hard) ++ codes "."
    ++ usage_character (has_bit usage in_soft) (has_bit usage on_soft) ++ codes "."
