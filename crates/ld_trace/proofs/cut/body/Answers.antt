-- One line that is no header and the lines skipped behind it are that many more of the section.
use Rattle.ld_trace.proofs.SkipLemmas.{skipped-then}
use Rattle.ld_trace.proofs.cut.body.Goals as goal

pub loop-after-preserved : goal.loop-after-preserved
loop-after-preserved c =
    skipped-then _ c.loop-after.count _ _ _ c.loop-after.invariant (skipped-then _ 1 _ _ _ c.in-Some.ensures c.skip_others-ahead.ensures)
