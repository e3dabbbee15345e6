use Rattle.std.proofs.Common.{rules, ◌^◌, ◌<◌, All, ap, arith, length, subst, sym, ◌∙◌}
use Rattle.std.proofs.lemmas.List.{nil_from_length}
use Rattle.std.proofs.lemmas.List.Elements.{All-cons, All-head, All-tail}
use Rattle.ld_class.specs.Blocks.{IsBlock}
use Rattle.ld_batch.specs.declared.rows.WitnessedWord.{WitnessedWord}
use Rattle.ld_batch.specs.Inner.Rows.{edges_of}
use Rattle.ld_batch.proofs.EdgeLemmas.{all-behind, all-first, but_lowest, with_bits}
use Rattle.ld_batch.proofs.edges.EdgesIterator.next.Goals as goal

pub returns-in_err-first-clause-steps : goal.returns-in_err-first-clause-steps
returns-in_err-first-clause-steps c =
    let places = c.self.inside.all.places.now in
    let none = all-behind places c.loop-word.word c.loop-word.words.now c.args.self.now c.loop-word.invariant.same c.loop-word-test.true
    ∙ ap (edges_of places) (nil_from_length c.loop-word.words.now c.in_err-first.ensures.cases) in
    rw c.from_residual.ensures (none, none)

pub loop-word-preserved : goal.loop-word-preserved
loop-word-preserved c =
    let places = c.self.inside.all.places.now in
    let so_far = c.loop-word.invariant in
    let split = c.in_ok-first.ensures.cases.0 in
    record {
      same = sym (ap (edges_of places) split) ∙ sym (all-behind places c.loop-word.word c.loop-word.words.now c.args.self.now so_far.same c.loop-word-test.true);
      low = subst (All (λ (w : WitnessedWord). IsBlock w.block)) split (All-tail (λ (w : WitnessedWord). IsBlock w.block) c.loop-word.word c.loop-word.words.now so_far.low);
    }

pub invariant_of-self : goal.invariant_of-self
invariant_of-self c =
    let word = c.loop-word.word in
    let words = c.loop-word.words.now in
    let low = c.loop-word.invariant.low in
    All-cons (λ (w : WitnessedWord). IsBlock w.block) (with_bits word (but_lowest word.bits)) words
    (All-head (λ (w : WitnessedWord). IsBlock w.block) word words low) (All-tail (λ (w : WitnessedWord). IsBlock w.block) word words low)

pub returns-clause-steps : goal.returns-clause-steps
returns-clause-steps c =
    let some : 0 < c.loop-word.word.bits = omega (arith, c.loop-word-test.false) in
    let low : c.loop-word.word.bits < 2 ^ 64 = omega arith in
    all-first c.self.inside.all.places.now c.loop-word.word c.loop-word.words.now c.args.self.now c.loop-word.invariant.same some low c.place-from.result c.place-to.result c.place-from.ensures c.place-to.ensures

pub returns-clause-goes : goal.returns-clause-goes
returns-clause-goes c =
    let some : 0 < c.loop-word.word.bits = omega (arith, c.loop-word-test.false) in
    let low : c.loop-word.word.bits < 2 ^ 64 = omega arith in
    let step = all-first c.self.inside.all.places.now c.loop-word.word c.loop-word.words.now c.args.self.now c.loop-word.invariant.same some low c.place-from.result c.place-to.result c.place-from.ensures c.place-to.ensures in
    let shorter = ap length step in
    search rules
