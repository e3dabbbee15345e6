use Rattle.ld_graph.proofs.MarkLemmas.{AreLeft}
use Rattle.ld_graph.proofs.search.unmark.Given as goal

abbrev pub invariant-loop-class : goal.invariant-loop-class
invariant-loop-class l = AreLeft l.fn.marks l.marks l.found l.class-index
