-- The first of the lines that are left is one line.
use Rattle.ld_cut.proofs.LinesLemmas.{one-line}
use Rattle.ld_cut.proofs.tasks.Tasks.pass.Goals as goal

pub pass_line-requires-clause-one : goal.pass_line-requires-clause-one
pass_line-requires-clause-one c = one-line c.loop-line.rest.now c.in-Some.line.now c.in-Some.others.now c.in-Some.ensures.first
