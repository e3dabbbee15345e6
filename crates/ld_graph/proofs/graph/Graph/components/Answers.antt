use Rattle.std.proofs.Common.{◌∙◌, ap, arith, subst, sym}
use Rattle.ld_graph.specs.Components.{AreComponents}
use Rattle.ld_graph.specs.Edges.{IsEdge}
use Rattle.ld_graph.specs.Lists.{IsNear}
use Rattle.ld_graph.proofs.WorkLemmas.{AreComponents-same}
use Rattle.ld_graph.proofs.graph.Graph.components.Goals as goal

pub components_of-requires-clause-ends : goal.components_of-requires-clause-ends
components_of-requires-clause-ends c = λ x y n.
    let e = (c.self.invariant.ends x y ((c.self.invariant.after_edges x y).0 n)).1 in
    let s = ap (λ g. g.classes) c.self.view_is in omega (arith, e, s, c.len.ensures.count)

pub returns : goal.returns
returns c =
    subst (λ g. AreComponents (IsEdge g.edges) g.classes c.in_ok-components.components.items) c.self.view_is
    (AreComponents-same (IsNear c.self.inside.lists.after.lists) (IsEdge c.self.inside.edges.keys)
    (λ a b. (c.self.invariant.after_edges a b).0) (λ a b. (c.self.invariant.after_edges a b).1) c.self.inside.classes
    c.in_ok-components.components.items
    (subst (λ n. AreComponents (IsNear c.self.inside.lists.after.lists) n c.in_ok-components.components.items)
    (c.len.ensures.count ∙ ap (λ g. g.classes) (sym c.self.view_is)) c.in_ok-components.ensures))
