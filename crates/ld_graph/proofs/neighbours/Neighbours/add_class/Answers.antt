use Rattle.ld_graph.proofs.RunLemmas.{AreRuns-class}
use Rattle.ld_graph.proofs.neighbours.Neighbours.add_class.Goals as goal

pub invariant_of-self : goal.invariant_of-self
invariant_of-self c = rw c.push_reserved.ensures.items (AreRuns-class _ _ _ c.self.invariant)
