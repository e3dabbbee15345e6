use Rattle.std.proofs.Common.{◌≡◌, ◌<◌, ◌∙◌, ap, arith, get_or, length, None, subst, sym}
use Rattle.ld_graph.specs.Edges.{IsEdge}
use Rattle.ld_graph.specs.Inner.Insides.{AreLevelsFor, IsNearInside}
use Rattle.ld_graph.specs.Walks.{DistanceIs}
use Rattle.ld_graph.proofs.InsideLemmas.{DistanceIs-all}
use Rattle.ld_graph.proofs.KeptLemmas.{before_ends}
use Rattle.ld_graph.proofs.graph.Graph.distances.Goals as goal

pub search-requires-clause-ends : goal.search-requires-clause-ends
search-requires-clause-ends c = before_ends c.self.inside c.self.invariant

pub returns-clause-each : goal.returns-clause-each
returns-clause-each c = λ x.
    let classes = ap (λ g. g.classes) c.self.view_is in
    let wanted = c.deref.ensures.value in
    let i = c.loop-class.invariant in
    let all : length c.deref.result.now ≡ length c.loop-class.all.items = ap length wanted in
    subst (λ ds. DistanceIs (IsEdge c.args.self.now.edges) x c.args.to (get_or ds x None)) (sym c.into_levels.ensures)
    (subst (λ g. DistanceIs (IsEdge g.edges) x c.args.to (get_or c.search.new.self x None)) c.self.view_is
    (DistanceIs-all c.self.inside.lists.before.lists (IsEdge c.self.inside.edges.keys) c.self.invariant.before_edges c.self.inside.classes c.args.to
    c.search.new.self (omega (arith, classes, c.search.ensures.len, c.in_ok-distances.ensures.len, c.len-2.ensures.count)) (λ a b e. (c.self.invariant.ends a b e).0)
    (λ w within.
    let low : w < c.loop-class.class = omega (arith, within, classes, c.loop-class-test.false, c.len-class-end.ensures.count) in
    let is : get_or c.deref.result.now w 0 ≡ w = ap (λ ns. get_or ns w 0) wanted ∙ i.each w low in
    subst (λ z. AreLevelsFor (λ a b. IsNearInside c.self.inside.lists.before.lists None 0 b a) z c.args.to c.search.new.self) is
    (c.search.ensures.levels w 0 (omega (arith, low, all, i.len, c.loop-class.all.ok.0)))) x))
