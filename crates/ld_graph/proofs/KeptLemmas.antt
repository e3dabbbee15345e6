-- A graph keeps its invariant as its memory grows.
use Rattle.std.proofs.Common.{◌≡◌, ◌↔◌, ℕ, ◌+◌, ◌<◌, ◌≤◌, max, length, arith, sym, ap}
use Rattle.std.proofs.Common.{subst, ◌∙◌, get_or}
use Rattle.indexmap.specs.IndexSet.{spare}
use Rattle.ld_graph.specs.declared.graph.Graph.TheInside.{Inside}
use Rattle.ld_graph.specs.declared.graph.TheConstants.{MOST_GRAPH_CLASSES}
use Rattle.ld_graph.specs.Lists.{IsNear, ListsGrown}
use Rattle.ld_graph.specs.Edges.{IsEdge}
use Rattle.ld_graph.specs.Order.{HasCycle}
use Rattle.ld_graph.specs.Inner.Kept.{IsKept}

module _ {C : Type 0} where
  -- the graph is as before, with at least the memory that it had
  pub record HasGrown (old new : Inside C) : Type 0 where
    pub keys : new.edges.keys ≡ old.edges.keys
    pub edges : spare old.edges ≤ spare new.edges
    pub after : ListsGrown old.lists.after new.lists.after
    pub before : ListsGrown old.lists.before new.lists.before
    pub ranks : new.ranks.ranks ≡ old.ranks.ranks
    pub ranks_room : old.ranks.room ≤ new.ranks.room
    pub rest : new ≡ record old { edges = new.edges; lists = new.lists; ranks = new.ranks }

pub IsKept-grown : {C : Type 0} (old new : Inside C) → HasGrown old new → IsKept old → IsKept new
IsKept-grown old new g h =
    let classes = ap (λ (x : Inside _). x.classes) g.rest in
    let has_cycle = ap (λ (x : Inside _). x.has_cycle) g.rest in
    let spare_classes = ap (λ (x : Inside _). x.spare_classes) g.rest in
    let spare_edges = ap (λ (x : Inside _). x.spare_edges) g.rest in
    let count = ap length g.keys in
    record {
      after_classes = ap length g.after.lists ∙ h.after_classes ∙ sym classes;
      before_classes = ap length g.before.lists ∙ h.before_classes ∙ sym classes;
      after_items = g.after.items ∙ h.after_items ∙ sym count;
      before_items = g.before.items ∙ h.before_items ∙ sym count;
      after_edges = λ a b. subst (λ l. IsNear l a b ↔ IsEdge new.edges.keys a b) (sym g.after.lists)
          (subst (λ k. IsNear old.lists.after.lists a b ↔ IsEdge k a b) (sym g.keys)
          (h.after_edges a b));
      before_edges = λ a b. subst (λ l. IsNear l a b ↔ IsEdge new.edges.keys b a) (sym
          g.before.lists) (subst (λ k. IsNear old.lists.before.lists a b
          ↔ IsEdge k b a) (sym g.keys) (h.before_edges a b));
      ends = λ a b e. subst (λ n. (a < n) × (b < n)) (sym classes) (h.ends a b (subst (λ k. IsEdge k a
          b) g.keys e));
      room_edges = omega (arith, g.edges, h.room_edges, spare_edges);
      room_after = (
        omega (arith, classes, h.room_after.0, g.after.class_room, spare_classes),
        omega (arith, count, h.room_after.1, g.after.item_room, spare_edges),
      );
      room_before = (
        omega (arith, classes, h.room_before.0, g.before.class_room, spare_classes),
        omega (arith, count, h.room_before.1, g.before.item_room, spare_edges),
      );
      few = omega (arith, classes, h.few, spare_classes);
      room_ranks = omega (arith, classes, h.room_ranks, g.ranks_room, spare_classes);
      ranked = ap length g.ranks ∙ h.ranked ∙ sym classes;
      rises = λ f x y e. subst (λ r. get_or r x 0 < get_or r y 0) (sym g.ranks)
          (h.rises (sym has_cycle ∙ f) x y (subst (λ k. IsEdge k x y) g.keys e));
      cycle = λ t. subst (λ k. HasCycle (IsEdge k)) (sym g.keys) (h.cycle (sym has_cycle ∙ t));
    }

-- where there is memory for more, the spares may be more
pub IsKept-spare : {C : Type 0} (g : Inside C) (classes edges more_classes more_edges : ℕ) → IsKept g
    → more_classes ≡ max g.spare_classes classes → more_edges ≡ max g.spare_edges edges
    → edges ≤ spare g.edges
    → g.classes + classes ≤ g.lists.after.class_room → g.lists.after.items + edges ≤ g.lists.after.item_room
    → g.classes + classes ≤ g.lists.before.class_room → g.lists.before.items + edges ≤ g.lists.before.item_room
    → g.classes + classes ≤ g.ranks.room
    → g.classes + classes ≤ MOST_GRAPH_CLASSES
    → IsKept (record g { spare_classes = more_classes; spare_edges = more_edges })
IsKept-spare g classes edges more_classes more_edges h m n e a b c d r f =
    let after = h.after_items in
    let before = h.before_items in
    record {
      after_classes = h.after_classes;
      before_classes = h.before_classes;
      after_items = h.after_items;
      before_items = h.before_items;
      after_edges = h.after_edges;
      before_edges = h.before_edges;
      ends = h.ends;
      room_edges = omega (arith, n, e, h.room_edges);
      room_after = (
        omega (arith, m, a, h.room_after.0),
        omega (arith, n, b, after, h.room_after.1),
      );
      room_before = (
        omega (arith, m, c, h.room_before.0),
        omega (arith, n, d, before, h.room_before.1),
      );
      room_ranks = omega (arith, m, r, h.room_ranks);
      few = omega (arith, m, f, h.few);
      ranked = h.ranked;
      rises = h.rises;
      cycle = h.cycle;
    }

-- the neighbours in a graph's lists are classes
pub after_ends : {C : Type 0} (g : Inside C) → IsKept g → (a b : ℕ) → IsNear g.lists.after.lists a b
    → b < length g.lists.after.lists
after_ends g h a b n = let e = (h.ends a b ((h.after_edges a b).0 n)).1
    in omega (arith, e, h.after_classes)

pub before_ends : {C : Type 0} (g : Inside C) → IsKept g → (a b : ℕ) → IsNear g.lists.before.lists a b
    → b < length g.lists.before.lists
before_ends g h a b n = let e = (h.ends b a ((h.before_edges a b).0 n)).0
    in omega (arith, e, h.before_classes)
