use Rattle.std.proofs.Common.{◌↔◌, IsTrue, subst}
use Rattle.ld_graph.specs.Edges.{IsEdge}
use Rattle.ld_graph.specs.Order.{HasCycle}
use Rattle.ld_graph.proofs.PlacedLemmas.{cycle_kept}
use Rattle.ld_graph.proofs.graph.Graph.has_cycle.Goals as goal

pub returns : goal.returns
returns c = record {
  cycle = subst (λ g. IsTrue c.self.inside.has_cycle ↔ HasCycle (IsEdge g.edges)) c.self.view_is
      (cycle_kept c.self.inside c.self.invariant);
}
