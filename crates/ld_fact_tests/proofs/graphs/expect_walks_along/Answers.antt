use Rattle.std.proofs.Common.{None, get_or, subst, sym}
use Rattle.ld_graph.specs.Edges.{IsEdge}
use Rattle.ld_graph.specs.Walks.{DistanceIs}
use Rattle.ld_graph.proofs.ShownLemmas.{AreEnough-all}
use Rattle.ld_fact_tests.proofs.graphs.expect_walks_along.Goals as goal

pub walk_along-requires-clause-enough : goal.walk_along-requires-clause-enough
walk_along-requires-clause-enough g c =
    AreEnough-all (IsEdge c.args.graph.now.edges) c.loop-a.a-counter c.args.to (λ x. get_or c.deref.result.now x None)
    (λ x. subst (λ ds. DistanceIs (IsEdge c.args.graph.now.edges) x c.args.to (get_or ds x None)) (sym c.deref.ensures.value) (c.distances-distances.ensures.each x))
