use Rattle.std.proofs.Common.{arith}
use Rattle.ld_work.proofs.SeenLemmas.{entries-more, entries-whole}
use Rattle.ld_work.proofs.kept.note_all.Goals as goal

pub loop-trace-preserved : goal.loop-trace-preserved
loop-trace-preserved g c = entries-more _ _ _ _ _ _ (omega arith) c.loop-trace.invariant c.add.ensures

pub returns : goal.returns
returns g c = entries-whole _ _ _ _ (omega (arith, c.loop-trace-test.false)) c.loop-trace.invariant
