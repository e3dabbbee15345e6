-- Where a bit was first seen.
use Rattle.std.proofs.Common.{◌≡◌, true, None, Option, is_some, sym, ap, ◌∙◌}
use Rattle.std.proofs.lemmas.Bool.{true≢false}
use Rattle.ld_class.specs.declared.usage.Usage.{Usage}
use Rattle.ld_rules.specs.Usage.{Bit, bit_of, usage_of}
use Rattle.ld_rules.proofs.UsageLemmas.{bit_of-usage}

-- the bit of a set that has this one alone
pub bit_of-usage_of : (bit : Bit) (usage : Usage) → usage ≡ usage_of bit → bit_of usage ≡ bit
bit_of-usage_of bit usage is = ap bit_of is ∙ bit_of-usage bit

-- what is nowhere isn't somewhere
pub no_witness : {A : Type 0} (witness : Option A) → None ≡ witness → is_some witness ≡ true → ⊥
no_witness witness none some = true≢false (sym some ∙ ap is_some (sym none))
