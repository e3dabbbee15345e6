use Rattle.std.proofs.Common.{sym, subst}
use Rattle.ld_graph.specs.Inner.Sides.{HasEachOnce}
use Rattle.ld_graph.proofs.OnceLemmas.{HasEachOnce-class}
use Rattle.ld_graph.proofs.lists.Lists.add_class.Goals as goal

pub invariant_of-self : goal.invariant_of-self
invariant_of-self g c = (
  subst HasEachOnce (sym c.add_class.ensures.lists)
      (HasEachOnce-class c.self.inside.after.lists c.self.invariant.0),
  subst HasEachOnce (sym c.add_class-2.ensures.lists)
      (HasEachOnce-class c.self.inside.before.lists c.self.invariant.1),
)
