use Rattle.std.proofs.Common.{◌+◌, ◌^◌, ◌<◌, get_or, sym, ◌∙◌, ap, arith}
use Rattle.std.proofs.lemmas.List.{get_or_default}
use Rattle.std.specs.Int.Count.{ones}
use Rattle.ld_batch.specs.declared.rows.WitnessedWord.{WitnessedWord}
use Rattle.ld_batch.proofs.EdgeLemmas.{count-more, few-ones}
use Rattle.ld_batch.proofs.rows.Words.count.Goals as goal

pub loop-word-preserved : goal.loop-word-preserved
loop-word-preserved c =
    let so_far = c.loop-word.invariant in
    let index = c.loop-word.word-index in
    let words = c.args.self.now.words.now in
    let none : WitnessedWord = record { number = 0; block = 0; to = 0; bits = 0; witness = record { number = 0; line = 0 } } in
    let word = get_or words index none in
    let low : word.bits < 2 ^ 64 = omega arith in
    record {
      many = ap (λ n. n + ones word.bits) so_far.many
          ∙ sym (count-more c.args.self.now.places.now words index word c.loop-word-test.true (get_or_default words index word none c.loop-word-test.true) low);
      few = omega (arith, so_far.few, few-ones word.bits low);
    }
