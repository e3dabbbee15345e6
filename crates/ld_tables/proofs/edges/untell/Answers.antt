use Rattle.std.proofs.Common.{◌≡◌, ◌-◌, ◌^◌, ◌<◌, ◌&&◌, ℕ, ap, get_or, length, not, set, subst, sym, take, ◌∙◌, arith}
use Rattle.std.proofs.lemmas.List.{get_or_default, length-set}
use Rattle.std.specs.Prelude.{bit_and}
use Rattle.ld_class.specs.Blocks.{is_on}
use Rattle.ld_tables.specs.declared.masks.NewEdges.{NewEdges}
use Rattle.ld_tables.specs.Inner.Edges.{has_told}
use Rattle.ld_tables.proofs.CutLemmas.{off-more}
use Rattle.ld_tables.proofs.edges.untell.Goals as goal

pub loop-telling-preserved : goal.loop-telling-preserved
loop-telling-preserved c =
    let so_far = c.loop-telling.invariant in
    let told = c.loop-telling.told.items in
    let index = c.loop-telling.telling-index in
    let none : NewEdges = record { number = 0; word = record { block = 0; to = 0 }; bits = 0; line = 0 } in
    let t = get_or c.args.tellings.now index none in
    let inside : t.number < length told = omega (arith, c.requires index none c.loop-telling-test.true, so_far.many) in
    let small : t.bits < 2 ^ 64 = omega arith in
    let is : c.index_mut.result.now ≡ get_or told t.number 0 = c.index_mut.ensures.value ∙ get_or_default told t.number c.index_mut.result.now 0 inside in
    let at : get_or c.args.tellings.now index t ≡ t = get_or_default c.args.tellings.now index t none c.loop-telling-test.true in
    record {
      many = length-set told t.number (bit_and c.index_mut.result.now (18446744073709551615 - t.bits)) ∙ so_far.many;
      off = λ n k within place.
          let low : n < length told = omega (arith, within, length-set told t.number (bit_and c.index_mut.result.now (18446744073709551615 - t.bits))) in
          ap (λ b. is_on (get_or (set told t.number (bit_and b (18446744073709551615 - t.bits))) n 0) k) is
          ∙ off-more c.args.tellings.now index t c.loop-telling-test.true at c.args.told.now.items told inside small so_far.off n k low place;
    }
