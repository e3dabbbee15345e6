use Rattle.std.proofs.Common.{arith}
use Rattle.ld_graph.proofs.reach.Reach.reached.Goals as goal

pub returns-clause-within : goal.returns-clause-within
returns-clause-within c = rw (← c.self.view_is) (λ k d within.
    let low = c.reached.ensures.within k d within in omega (arith, low, c.self.invariant.same))
