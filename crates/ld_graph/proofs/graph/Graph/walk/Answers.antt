use Rattle.std.proofs.Common.{None, arith, get_or, subst, sym}
use Rattle.ld_graph.specs.Edges.{IsEdge}
use Rattle.ld_graph.specs.Walks.{AreEnough}
use Rattle.ld_graph.proofs.InsideLemmas.{AreEnough-near}
use Rattle.ld_graph.proofs.KeptLemmas.{before_ends}
use Rattle.ld_graph.proofs.graph.Graph.walk.Goals as goal

pub search-requires-clause-ends : goal.search-requires-clause-ends
search-requires-clause-ends c = before_ends c.self.inside c.self.invariant

pub walk_along-requires-clause-enough : goal.walk_along-requires-clause-enough
walk_along-requires-clause-enough c =
    subst (λ ds. AreEnough (IsEdge c.args.self.now.edges) c.args.a c.args.b (λ x. get_or ds x None)) (sym c.levels.ensures)
    (subst (λ g. AreEnough (IsEdge g.edges) c.args.a c.args.b (λ x. get_or c.search.new.self x None)) c.self.view_is
    (AreEnough-near c.self.inside.lists.before.lists (IsEdge c.self.inside.edges.keys) c.self.invariant.before_edges c.args.a c.args.b
    c.search.new.self (c.search.ensures.levels 0 0 (omega arith))))
