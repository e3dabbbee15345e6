use Rattle.std.proofs.Common.{◌≡◌, ◌∷◌, All, length}
use Rattle.ld_class.specs.Blocks.{IsBlock}
use Rattle.ld_batch.specs.declared.rows.WitnessedWord.{WitnessedWord}
use Rattle.ld_batch.specs.Inner.Rows.{edges_of}
use Rattle.ld_batch.proofs.edges.EdgesIterator.next.Given as goal

abbrev pub invariant-loop-word : goal.invariant-loop-word
invariant-loop-word l = record {
  same : edges_of l.self-inside.all.places.now (l.word ∷ l.words) ≡ l.fn.self;
  low : All (λ (w : WitnessedWord). IsBlock w.block) (l.word ∷ l.words);
}

abbrev pub decreases-loop-word : goal.decreases-loop-word
decreases-loop-word l = length l.words
