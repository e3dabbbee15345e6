use Rattle.ld_graph.proofs.ShownLemmas.{IsLeastOf}
use Rattle.ld_graph.proofs.shown.nearest.Given as goal

abbrev pub invariant-loop-x : goal.invariant-loop-x
invariant-loop-x l = IsLeastOf l.near l.x-index l.level l.levels l.places l.least
