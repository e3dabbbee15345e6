use Rattle.std.proofs.Common.{◌≡◌, ◌*◌, ◌≤◌, length, take}
use Rattle.ld_batch.specs.Inner.Rows.{edges_of}
use Rattle.ld_batch.proofs.rows.Words.count.Given as goal

abbrev pub invariant-loop-word : goal.invariant-loop-word
invariant-loop-word l = record {
  many : l.count ≡ length (edges_of l.self.places.now (take l.word-index l.self.words.now));
  few : l.count ≤ 64 * l.word-index;
}
