use Rattle.std.proofs.Common.{arith}
use Rattle.ld_graph.proofs.MarkLemmas.{AreMarked-none}
use Rattle.ld_graph.proofs.search.Search.new.Goals as goal

pub invariant_of-result : goal.invariant_of-result
invariant_of-result c = (
  rw (c.new.ensures.items, c.new-2.ensures.items) AreMarked-none,
  omega (arith, c.new-2.ensures.len),
)
