use Rattle.std.proofs.Common.{get_or, None, sym, subst}
use Rattle.ld_graph.specs.Edges.{ComesBefore, IsEdge}
use Rattle.ld_graph.specs.Lists.{IsNear}
use Rattle.ld_graph.specs.Walks.{AreEnough, IsShownWalk}
use Rattle.ld_graph.proofs.KeptLemmas.{after_ends}
use Rattle.ld_graph.proofs.ShownLemmas.{AreEnough-same, IsShownWalk-same}
use Rattle.ld_graph.proofs.graph.Graph.walk_along.Goals as goal

pub show-requires-clause-ends : goal.show-requires-clause-ends
show-requires-clause-ends c = after_ends c.self.inside c.self.invariant

pub show-requires-clause-distances : goal.show-requires-clause-distances
show-requires-clause-distances c =
    AreEnough-same (IsEdge c.self.inside.edges.keys) (IsNear c.self.inside.lists.after.lists) (ComesBefore c.args.places.now)
    (λ a b. ((c.self.invariant.after_edges a b).1, (c.self.invariant.after_edges a b).0)) c.args.a c.args.b (λ x. get_or c.args.distances.now x None)
    (subst (λ g. AreEnough (IsEdge g.edges) c.args.a c.args.b (λ x. get_or c.args.distances.now x None)) (sym c.self.view_is) c.requires.enough)

pub returns : goal.returns
returns c =
    subst (λ g. IsShownWalk (IsEdge g.edges) (ComesBefore c.args.places.now) c.args.a c.args.b
    c.in_ok-walk.walk.items) c.self.view_is
    (IsShownWalk-same (IsNear c.self.inside.lists.after.lists) (IsEdge c.self.inside.edges.keys)
    (ComesBefore c.args.places.now) c.self.invariant.after_edges
    c.args.a c.args.b c.in_ok-walk.walk.items c.in_ok-walk.ensures)
