use Rattle.std.proofs.Common.{◌↔◌, ℕ, subst}
use Rattle.ld_graph.specs.Edges.{IsEdge}
use Rattle.ld_graph.specs.Lists.{IsNear}
use Rattle.ld_graph.proofs.graph.Graph.lists.Goals as goal

pub returns-clause-after : goal.returns-clause-after
returns-clause-after c =
    subst (λ g. (x y : ℕ) → IsNear c.self.inside.lists.after.lists x y ↔ IsEdge g.edges x y)
    c.self.view_is c.self.invariant.after_edges

pub returns-clause-before : goal.returns-clause-before
returns-clause-before c =
    subst (λ g. (x y : ℕ) → IsNear c.self.inside.lists.before.lists x y ↔ IsEdge g.edges y x)
    c.self.view_is c.self.invariant.before_edges

pub returns-clause-ends : goal.returns-clause-ends
returns-clause-ends c = rw (← c.self.view_is) (c.self.invariant.ends)
