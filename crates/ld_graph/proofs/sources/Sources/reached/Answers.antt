use Rattle.ld_graph.proofs.ReachLemmas.{AreReached-has}
use Rattle.ld_graph.proofs.sources.Sources.reached.Goals as goal

pub returns-clause-within : goal.returns-clause-within
returns-clause-within c = rw (← c.self.view_is) (λ k d within.
    (AreReached-has c.self.inside.each.items c.self.inside.reached.items c.self.invariant.listed k d within).1)
