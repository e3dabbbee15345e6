use Rattle.std.proofs.Common.{sym, subst}
use Rattle.ld_graph.specs.Inner.Sides.{HasEachOnce}
use Rattle.ld_graph.proofs.OnceLemmas.{HasEachOnce-none}
use Rattle.ld_graph.proofs.lists.Lists.new.Goals as goal

pub invariant_of-result : goal.invariant_of-result
invariant_of-result g c = (
  subst HasEachOnce (sym c.new.ensures.lists) HasEachOnce-none,
  subst HasEachOnce (sym c.new-2.ensures.lists) HasEachOnce-none,
)
