-- A graph as its callers see it. Classes are numbers, from 0 on.
use Rattle.std.specs.Prelude.{◌≡◌, ◌≢◌, ℕ, ◌+◌, ◌-◌, ◌<◌, List, [], ◌∷◌, ◌++◌, Option, None, Some}
use Rattle.std.specs.Prelude.{Contains, length, slice_get, slice_index, ◌⊎◌}
use Rattle.ld_graph.specs.declared.Edge.{Edge}

-- the edge from one class to another
abbrev pub edge : ℕ → ℕ → Edge
edge a b = record { from = a; to = b }

-- there is an edge from a to b
abbrev pub IsEdge : List Edge → ℕ → ℕ → Type 0
IsEdge edges a b = Contains edges (edge a b)

-- the edge from a to b was inserted first as number i
pub record IsEdgeNumber (edges : List Edge) (a b i : ℕ) : Type 0 where
  pub there : slice_get edges i ≡ Some (edge a b)
  pub first : (j : ℕ) → j < i → slice_get edges j ≢ Some (edge a b)

-- x comes before y: by place, then by number
abbrev pub ComesBefore : List ℕ → ℕ → ℕ → Type 0
ComesBefore places x y =
    (slice_index places x < slice_index places y)
    ⊎ ((slice_index places x ≡ slice_index places y) × (x < y))

-- a graph: how many classes it has, its edges in order of insertion, for how many more of both it
-- has memory, and, so long as there is no cycle, the rank of each class
pub record PlainGraph : Type 0 where
  pub classes : ℕ
  pub edges : List Edge
  pub spare_classes : ℕ
  pub spare_edges : ℕ
  pub order : Option (List ℕ)

-- no class, no edge and no memory
abbrev pub empty_graph : PlainGraph
empty_graph = record {
  classes = 0;
  edges = [];
  spare_classes = 0;
  spare_edges = 0;
  order = Some [];
}

-- the ranks with one more class, which has the last one
abbrev pub with_last : Option (List ℕ) → Option (List ℕ)
with_last None = None
with_last (Some ranks) = Some (ranks ++ length ranks ∷ [])

-- the graph with one more class, which took a spare one
abbrev pub with_class : PlainGraph → PlainGraph
with_class g = record g {
  classes = g.classes + 1;
  spare_classes = g.spare_classes - 1;
  order = with_last g.order;
}

-- the graph with one more edge, which took a spare one, and with this order
abbrev pub with_edge : PlainGraph → ℕ → ℕ → Option (List ℕ) → PlainGraph
with_edge g a b order = record g {
  edges = g.edges ++ edge a b ∷ [];
  spare_edges = g.spare_edges - 1;
  order = order;
}

-- the graph with other spares
abbrev pub with_spares : PlainGraph → ℕ → ℕ → PlainGraph
with_spares g classes edges = record g { spare_classes = classes; spare_edges = edges }
