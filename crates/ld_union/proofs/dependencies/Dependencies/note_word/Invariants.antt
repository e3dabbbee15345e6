use Rattle.std.proofs.Common.{length}
use Rattle.ld_class.specs.Blocks.{bits_on}
use Rattle.ld_batch.specs.Inner.Rows.{edges_in}
use Rattle.ld_batch.proofs.EdgeLemmas.{with_bits}
use Rattle.ld_union.specs.Inner.Noted.{IsNoting}
use Rattle.ld_union.proofs.dependencies.Dependencies.note_word.Given as goal

abbrev pub invariant-loop-left : goal.invariant-loop-left
invariant-loop-left l = IsNoting l.names l.classes (edges_in l.words.places.now l.word) (edges_in l.words.places.now (with_bits l.word l.left)) l.fn.self l.self

abbrev pub decreases-loop-left : goal.decreases-loop-left
decreases-loop-left l = length (bits_on l.left)
