use Rattle.std.proofs.Common.{◌≢◌, ◌<◌, ℕ, length, slice_get, subst}
use Rattle.ld_graph.specs.Edges.{IsEdge}
use Rattle.ld_graph.proofs.EdgeLemmas.{edges_once}
use Rattle.ld_graph.proofs.graph.Graph.edges.Goals as goal

pub returns-clause-ends : goal.returns-clause-ends
returns-clause-ends c =
    subst (λ g. (a b : ℕ) → IsEdge g.edges a b → (a < g.classes)
    × (b < g.classes)) c.self.view_is c.self.invariant.ends

pub returns-clause-once : goal.returns-clause-once
returns-clause-once c =
    subst (λ g. (i j : ℕ) → i < j → j < length g.edges → slice_get g.edges i ≢ slice_get g.edges j)
    c.self.view_is
    (edges_once c.self.inside.edges.keys c.len.ensures.unique)
