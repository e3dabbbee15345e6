-- What the rows of usage say of bits.
use Rattle.std.proofs.Common.{◌≡◌, ◌<◌, ◌∙◌, List, ℕ, Option, None, is_some, arith, ap, get_or, length, subst, sym}
use Rattle.std.proofs.lemmas.List.{get_or-map, length-map}
use Rattle.ld_class.specs.Names.{PlainClass, no_class}
use Rattle.ld_class.specs.Usage.{has_bit, no_bits}
use Rattle.ld_trace.specs.Sources.{PlainSource}
use Rattle.ld_rules.specs.declared.outcome.Witness.{Witness}
use Rattle.ld_rules.specs.Union.{use_witness}
use Rattle.ld_rules.specs.Usage.{Bit, Use, usage_of}
use Rattle.ld_union.specs.declared.usage.UsageRow.{UsageRow}
use Rattle.ld_union.specs.Inner.Numbers.{AreBitsOf}
use Rattle.ld_union.specs.Usage.{bits_of}
use Rattle.ld_union.specs.Inner.Union.{AreUsed, of_class}
use Rattle.ld_union.specs.Usage.{row_of}
use Rattle.ld_union.proofs.UsageLemmas.{has_bit-row_of, length_used, row_at}

-- a class has the bits that have a first witness
pub bit_at : (classes : List PlainClass) (rows : List UsageRow) (first : Use → Option Witness) → AreUsed classes rows first → (c : ℕ) (bit : Bit) → c < length classes
    → has_bit (get_or (bits_of rows) c no_bits) (usage_of bit) ≡ is_some (first (record { class = get_or classes c no_class; bit = bit }))
bit_at classes rows first used c bit within =
    let unused : UsageRow = row_of (λ b. None) in
    ap (λ bits. has_bit bits (usage_of bit))
    (get_or-map (λ (row : UsageRow). row.bits) rows c unused no_bits (subst (λ n. c < n) (sym (length_used classes rows first used)) within)
    ∙ ap (λ (row : UsageRow). row.bits) (row_at classes rows first used c unused within))
    ∙ has_bit-row_of (of_class first (get_or classes c no_class)) bit

-- the rows of a union have the bits of its names
pub bits_from_used : (classes : List PlainClass) (rows : List UsageRow) (sources : List PlainSource) → AreUsed classes rows (use_witness sources) → AreBitsOf classes (bits_of rows) sources
bits_from_used classes rows sources used = record {
  within = omega (arith, length_used classes rows (use_witness sources) used, length-map rows (λ (row : UsageRow). row.bits));
  each = λ c bit within.
      let same = bit_at classes rows (use_witness sources) used c bit within in
      ((λ has. sym same ∙ has), (λ seen. same ∙ seen));
  known = λ name bit has. used.known (record { class = name; bit = bit }) has;
}
