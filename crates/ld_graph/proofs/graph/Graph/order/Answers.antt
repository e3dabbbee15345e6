use Rattle.std.proofs.Common.{◌≡◌, ◌∙◌, Some, ap, refl, subst, sym}
use Rattle.ld_graph.specs.Edges.{IsEdge}
use Rattle.ld_graph.specs.Order.{IsOrder}
use Rattle.ld_graph.specs.Inner.Kept.{graph_of, order_of}
use Rattle.ld_graph.proofs.PlacedLemmas.{order_some}
use Rattle.ld_graph.proofs.graph.Graph.order.Goals as goal

pub returns : goal.returns
returns g c = (
  (refl, (λ _. tt), ap (λ r. graph_of (record c.self.inside { ranks = r })) c.list.follows.holds-at-none ∙ c.self.view_is),
  record {
    same = tt;
    order = subst (λ g. IsOrder (IsEdge g.edges) g.classes c.list.result.now) c.self.view_is
        (subst (IsOrder (IsEdge c.self.inside.edges.keys) c.self.inside.classes) (sym c.list.ensures.ranks)
        (order_some c.self.inside c.self.invariant c.if-self.false c.list.ensures.dense));
    value = subst (λ g. g.order ≡ Some c.list.result.now) c.self.view_is
        (ap (λ z. order_of z c.self.inside.ranks.ranks) c.if-self.false ∙ ap Some (sym c.list.ensures.ranks));
  },
)
