use Rattle.std.proofs.Common.{sym, subst, ◌∙◌}
use Rattle.ld_graph.specs.Edges.{IsEdgeNumber}
use Rattle.ld_graph.proofs.EdgeLemmas.{IsEdgeNumber-position}
use Rattle.ld_graph.proofs.graph.Graph.edge.Goals as goal

pub returns : goal.returns
returns c =
    subst (λ g. IsEdgeNumber g.edges c.args.a c.args.b c.in_ok-number.number) c.self.view_is
    (IsEdgeNumber-position c.self.inside.edges.keys c.args.a c.args.b c.in_ok-number.number (sym
    c.get_index_of.ensures.index ∙ c.in_ok-number.was))
