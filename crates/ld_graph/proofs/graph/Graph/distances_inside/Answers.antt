use Rattle.std.proofs.Common.{arith, get_or, None, sym, subst, ap}
use Rattle.ld_graph.specs.Components.{AreComponents}
use Rattle.ld_graph.specs.Edges.{IsEdge}
use Rattle.ld_graph.specs.Walks.{AreEnough, Reaches}
use Rattle.ld_graph.proofs.InsideLemmas.{AreEnough-inside}
use Rattle.ld_graph.proofs.KeptLemmas.{before_ends}
use Rattle.ld_graph.proofs.graph.Graph.distances_inside.Goals as goal

pub search-requires-clause-ends : goal.search-requires-clause-ends
search-requires-clause-ends c = before_ends c.self.inside c.self.invariant

pub returns-clause-enough : goal.returns-clause-enough
returns-clause-enough c = λ i d within reached.
    let edges = ap (λ g. g.edges) c.self.view_is in
    let classes = ap (λ g. g.classes) c.self.view_is in
    let w = get_or c.args.wanted.now i d in
    let at = c.requires.wanted i d within in
    subst (λ es. AreEnough (IsEdge es) w c.args.to (λ x. get_or c.search.new.self x None)) edges
    (AreEnough-inside (IsEdge c.self.inside.edges.keys) c.self.inside.lists.before.lists c.self.invariant.before_edges c.self.inside.classes
    c.self.invariant.ends c.args.components.now
    (subst (λ g. AreComponents (IsEdge g.edges) g.classes c.args.components.now) (sym c.self.view_is) c.requires.components)
    c.args.to (omega (arith, classes, c.requires.to)) w c.search.new.self
    (subst (λ es. Reaches (IsEdge es) c.args.to w) (sym edges) reached) (c.search.ensures.levels i d within))
