-- What the insert of an edge answers is so.
use Rattle.std.proofs.Common.{◌≡◌, inl, inr, ℕ, ◌<◌, Bool, true, false}
use Rattle.std.proofs.Common.{◌↔◌, true≢false, List, [], ◌∷◌, ◌++◌, length, get_or}
use Rattle.std.proofs.Common.{IsTrue, MatchOption, arith, refl, sym, ap, subst, ◌∙◌}
use Rattle.std.proofs.lemmas.List.Elements.{Contains-append_left, Contains-push}
use Rattle.ld_graph.specs.declared.graph.Graph.TheInside.{Inside}
use Rattle.ld_graph.specs.declared.ranks.Insert.{Insert}
use Rattle.ld_graph.specs.declared.ranks.Insert.TheVariants.{Known, Kept, Moved, Closed, AfterCycle}
use Rattle.ld_graph.specs.declared.Edge.{Edge}
use Rattle.ld_graph.specs.Edges.{edge, IsEdge, PlainGraph, with_edge}
use Rattle.ld_graph.specs.Order.{AreRepaired, HasCycle, IsInserted}
use Rattle.ld_graph.specs.Order.{IsOrder}
use Rattle.ld_graph.specs.Lists.{IsNear}
use Rattle.ld_graph.specs.Inner.Kept.{IsKept, order_of, graph_of}
use Rattle.ld_graph.specs.Inner.Placed.{IsPlaced}
use Rattle.ld_graph.specs.Inner.Repairs.{IsOrReaches}
use Rattle.ld_graph.proofs.EdgeLemmas.{IsEdge-push}
use Rattle.ld_graph.proofs.ApartLemmas.{Far-rises}
use Rattle.ld_order.specs.Orders.{AreRanks}
use Rattle.std.proofs.lemmas.Bool.{cases_Bool}
use Rattle.ld_graph.proofs.WalkLemmas.{HasWalk-more, HasWalk-one, IsWalk-Far, IsWalk-same}

-- where ranks rise along the steps there is no cycle
pub acyclic : (step : ℕ → ℕ → Type 0) (ranks : List ℕ)
    → ((x y : ℕ) → step x y → get_or ranks x 0 < get_or ranks y 0) → ¬ HasCycle step
acyclic step ranks rises w =
    let f = IsWalk-Far step w.0 w.0 w.1.0 w.1.1 in
    let l = Far-rises step (λ x. get_or ranks x 0) rises f.0 w.0 w.0 f.1.1 in
    omega (arith, l)

-- a cycle stays one
pub HasCycle-more : (edges : List Edge) (a b : ℕ) → HasCycle (IsEdge edges)
    → HasCycle (IsEdge (edges ++ edge a b ∷ []))
HasCycle-more edges a b w = (
  w.0,
  (
    w.1.0,
    IsWalk-same (IsEdge edges) (IsEdge (edges ++ edge a b ∷ []))
        (λ x y e. Contains-append_left edges (edge a b ∷ []) (edge x y) e) w.0 w.0 w.1.0 w.1.1,
  ),
)

-- an edge to where a walk leads to it closes a cycle
pub HasCycle-closed : (edges : List Edge) (a b : ℕ) → IsOrReaches (IsEdge edges) b a
    → HasCycle (IsEdge (edges ++ edge a b ∷ []))
HasCycle-closed edges a b (inl e) = (
  a,
  HasWalk-one (IsEdge (edges ++ edge a b ∷ [])) a a (subst (λ z. IsEdge (edges ++ edge a b
      ∷ []) a z) e (Contains-push edges (edge a b))),
)
HasCycle-closed edges a b (inr w) = (
  b,
  HasWalk-more (IsEdge (edges ++ edge a b ∷ [])) b a b (
    w.0,
    IsWalk-same (IsEdge edges) (IsEdge (edges ++ edge a b ∷ []))
        (λ x y e. Contains-append_left edges (edge a b ∷ []) (edge x y) e) b a w.0 w.1,
  ) (Contains-push edges (edge a b)),
)

IsOrReaches-same : (s t : ℕ → ℕ → Type 0) → ((x y : ℕ) → s x y → t x y) → (a b : ℕ) → IsOrReaches s a b
    → IsOrReaches t a b
IsOrReaches-same s t to a b (inl e) = inl e
IsOrReaches-same s t to a b (inr w) = inr (w.0, IsWalk-same s t to a b w.0 w.1)

module _ {C : Type 0} (g : Inside C) (h : IsKept g) (a b : ℕ) (now : Bool) (ranks : List ℕ) where
  abbrev Placed : Insert → Type 0
  Placed answer = IsPlaced (IsNear g.lists.after.lists) a b answer g.has_cycle now g.ranks.ranks ranks

  pub placed_length : (answer : Insert) → Placed answer → length ranks ≡ length g.ranks.ranks
  placed_length Known p = absurd p
  placed_length Kept p = ap length p.1.1.0
  placed_length (Moved k) p = p.1.1.1.mended.len
  placed_length Closed p = ap length p.1.1.0
  placed_length AfterCycle p = ap length p.1.1

  -- ranks that rise along the old edges and along the new one
  rises_more : ((x y : ℕ) → IsEdge g.edges.keys x y → get_or ranks x 0 < get_or ranks y 0) → get_or ranks a 0 < get_or ranks b 0
      → (x y : ℕ) → IsEdge (g.edges.keys ++ edge a b ∷ []) x y → get_or ranks x 0 < get_or ranks y 0
  rises_more old up x y e = elim (IsEdge-push g.edges.keys a b x y e) [
    | inl o ↦ old x y o
    | inr o ↦ subst (λ z. get_or ranks z 0 < get_or ranks y 0) o.0 (subst (λ z. get_or ranks a 0 < get_or ranks z 0) o.1 up)
  ]

  pub placed_rises : (answer : Insert) → Placed answer → now ≡ false
      → (x y : ℕ) → IsEdge (g.edges.keys ++ edge a b ∷ []) x y → get_or ranks x 0 < get_or ranks y 0
  placed_rises Known p f = absurd p
  placed_rises Kept p f =
      rises_more (λ x y e. subst (λ r. get_or r x 0 < get_or r y 0) (sym p.1.1.0) (h.rises p.0 x y e))
      (subst (λ r. get_or r a 0 < get_or r b 0) (sym p.1.1.0) p.1.1.1)
  placed_rises (Moved k) p f =
      let m = p.1.1.1.mended in rises_more (λ x y e. m.rises x y ((h.after_edges x y).1 e)) m.turned
  placed_rises Closed p f = absurd (true≢false (sym p.1.0 ∙ f))
  placed_rises AfterCycle p f = absurd (true≢false (sym p.1.0 ∙ f))

  near_edges : (x y : ℕ) → IsNear g.lists.after.lists x y → IsEdge g.edges.keys x y
  near_edges x y n = (h.after_edges x y).0 n

  pub placed_cycle : (answer : Insert) → Placed answer → now ≡ true
      → HasCycle (IsEdge (g.edges.keys ++ edge a b ∷ []))
  placed_cycle Known p t = absurd p
  placed_cycle Kept p t = absurd (true≢false (sym t ∙ p.1.0))
  placed_cycle (Moved k) p t = absurd (true≢false (sym t ∙ p.1.0))
  placed_cycle Closed p t = HasCycle-closed g.edges.keys a b (IsOrReaches-same (IsNear
      g.lists.after.lists) (IsEdge g.edges.keys) near_edges b a p.1.1.1)
  placed_cycle AfterCycle p t = HasCycle-more g.edges.keys a b (h.cycle p.0)

  abbrev pub made : PlainGraph
  made = with_edge (graph_of g) a b (order_of now ranks)

  pub inserted : (answer : Insert) → Placed answer → ¬ IsEdge g.edges.keys a b
      → IsInserted (graph_of g) a b answer made
  inserted Known p fresh = absurd p
  inserted Kept p fresh = record {
    fresh = fresh;
    no_cycle = acyclic (IsEdge (g.edges.keys ++ edge a b ∷ [])) ranks (placed_rises Kept p p.1.0);
    ranks = subst (λ z. MatchOption (order_of z g.ranks.ranks) ⊥ (λ r. get_or r a 0 < get_or r b 0)) (sym p.0) p.1.1.1;
    graph = ap (λ z. with_edge (graph_of g) a b (order_of z ranks)) (p.1.0 ∙ sym p.0)
        ∙ ap (λ r. with_edge (graph_of g) a b (order_of g.has_cycle r)) p.1.1.0;
  }
  inserted (Moved k) p fresh = record {
    fresh = fresh;
    no_cycle = acyclic (IsEdge (g.edges.keys ++ edge a b ∷ [])) ranks (placed_rises (Moved k) p
        p.1.0);
    ranks = subst (λ z. MatchOption (order_of z g.ranks.ranks) ⊥ (λ r. MatchOption (order_of now
        ranks) ⊥ (AreRepaired a b k r))) (sym p.0)
        (subst (λ z. MatchOption (order_of z ranks) ⊥ (AreRepaired a b k g.ranks.ranks)) (sym p.1.0)
        (let m = p.1.1.1 in record {
          len = m.mended.len;
          against = p.1.1.0;
          outside = m.mended.outside;
          beside = m.mended.beside;
          alike = m.mended.alike;
          some = m.some;
          few = m.few;
        }));
    graph = refl;
  }
  inserted Closed p fresh = record {
    fresh = fresh;
    no_cycle = acyclic (IsEdge g.edges.keys) g.ranks.ranks (h.rises p.0);
    cycle = placed_cycle Closed p p.1.0;
    graph = ap (λ z. with_edge (graph_of g) a b (order_of z ranks)) p.1.0;
  }
  inserted AfterCycle p fresh = record {
    fresh = fresh;
    cycle = h.cycle p.0;
    graph = ap (λ z. with_edge (graph_of g) a b (order_of z ranks)) p.1.0;
  }

-- whether there is a cycle is known
pub cycle_kept : {C : Type 0} (g : Inside C) → IsKept g → IsTrue g.has_cycle ↔ HasCycle (IsEdge g.edges.keys)
cycle_kept g h = (
  h.cycle,
  λ w. elim (cases_Bool g.has_cycle) [
    | inl t ↦ t
    | inr f ↦ absurd (acyclic (IsEdge g.edges.keys) g.ranks.ranks (h.rises f) w)
  ],
)

-- where there is none, the ranks are an order
pub order_some : {C : Type 0} (g : Inside C) → IsKept g → g.has_cycle ≡ false → AreRanks g.ranks.ranks
    → IsOrder (IsEdge g.edges.keys) g.classes g.ranks.ranks
order_some g h f r = subst (λ n. IsOrder (IsEdge g.edges.keys) n g.ranks.ranks) h.ranked (record {
  len = refl;
  below = r.below;
  once = r.once;
  each = r.each;
  rises = h.rises f;
})
