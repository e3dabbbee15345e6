use Rattle.std.proofs.Common.{◌∙◌, ap, w8}
use Rattle.std.specs.Int.{trailing_zeros}
use Rattle.ld_class.specs.declared.usage.Usage.{Usage}
use Rattle.ld_rules.specs.Usage.{bit_of}
use Rattle.ld_union.proofs.UsageLemmas.{place_of-bit}
use Rattle.ld_union.proofs.usage.place_of.Goals as goal

pub returns : goal.returns
returns c = ap (trailing_zeros w8) (c.bits.ensures tt ∙ ap (λ (bit : Usage). bit.0) c.requires) ∙ place_of-bit (bit_of c.args.bit)
