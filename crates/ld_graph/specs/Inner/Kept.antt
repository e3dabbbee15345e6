-- What a graph keeps true of its fields, and what callers see of them.
use Rattle.std.specs.Prelude.{◌≡◌, ◌↔◌, ℕ, ◌+◌, ◌<◌, ◌≤◌, length, Some, None, Option}
use Rattle.std.specs.Prelude.{Bool, true, false, List, slice_index}
use Rattle.indexmap.specs.IndexSet.{spare}
use Rattle.ld_graph.specs.declared.graph.Graph.TheInside.{Inside}
use Rattle.ld_graph.specs.declared.graph.TheConstants.{MOST_GRAPH_CLASSES}
use Rattle.ld_graph.specs.Edges.{IsEdge, PlainGraph}
use Rattle.ld_graph.specs.Lists.{IsNear}
use Rattle.ld_graph.specs.Order.{HasCycle}

-- the ranks, so long as there is no cycle
abbrev pub order_of : Bool → List ℕ → Option (List ℕ)
order_of true ranks = None
order_of false ranks = Some ranks

-- what callers see of the fields
abbrev pub graph_of : {C : Type 0} → Inside C → PlainGraph
graph_of g = record {
  classes = g.classes;
  edges = g.edges.keys;
  spare_classes = g.spare_classes;
  spare_edges = g.spare_edges;
  order = order_of g.has_cycle g.ranks.ranks;
}

module _ {C : Type 0} where
  -- what holds of the fields of every graph
  pub record IsKept (g : Inside C) : Type 0 where
    pub after_classes : length g.lists.after.lists ≡ g.classes
    pub before_classes : length g.lists.before.lists ≡ g.classes
    pub after_items : g.lists.after.items ≡ length g.edges.keys
    pub before_items : g.lists.before.items ≡ length g.edges.keys
    -- the lists have the successors and the predecessors
    pub after_edges : (a b : ℕ) → IsNear g.lists.after.lists a b ↔ IsEdge g.edges.keys a b
    pub before_edges : (a b : ℕ) → IsNear g.lists.before.lists a b ↔ IsEdge g.edges.keys b a
    pub ends : (a b : ℕ) → IsEdge g.edges.keys a b → (a < g.classes) × (b < g.classes)
    -- there is memory for the spare classes and edges
    pub room_edges : g.spare_edges ≤ spare g.edges
    pub room_after : (g.classes + g.spare_classes ≤ g.lists.after.class_room)
        × (length g.edges.keys + g.spare_edges ≤ g.lists.after.item_room)
    pub room_before : (g.classes + g.spare_classes ≤ g.lists.before.class_room)
        × (length g.edges.keys + g.spare_edges ≤ g.lists.before.item_room)
    pub room_ranks : g.classes + g.spare_classes ≤ g.ranks.room
    pub few : g.classes + g.spare_classes ≤ MOST_GRAPH_CLASSES
    -- so long as there is no cycle, each edge goes from a lesser to a greater rank
    pub ranked : length g.ranks.ranks ≡ g.classes
    pub rises : g.has_cycle ≡ false → (x y : ℕ) → IsEdge g.edges.keys x y
        → slice_index g.ranks.ranks x < slice_index g.ranks.ranks y
    pub cycle : g.has_cycle ≡ true → HasCycle (IsEdge g.edges.keys)
