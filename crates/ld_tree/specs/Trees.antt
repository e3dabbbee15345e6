-- A tree of shown walks.
use Rattle.std.specs.Prelude.{◌≡◌, ℕ, zero, suc, ◌<◌, ◌≤◌, List, Option, None, Some, Contains, length, slice_index_or}
use Rattle.ld_graph.specs.declared.Edge.{Edge}
use Rattle.ld_graph.specs.Edges.{ComesBefore, IsEdge}
use Rattle.ld_graph.specs.Lists.{IsNear}
use Rattle.ld_graph.specs.Walks.{Reaches}

-- the class at a place: the start is at place 0, and the class that was found as number j at place j + 1
abbrev pub at_place : (start : ℕ) → (ℕ → ℕ) → ℕ → ℕ
at_place start found zero = start
at_place start found (suc j) = found j

-- What a search from a class has found, each class with the place of the one that it was found from, once all places
-- were gone on from. Successors are read in their order, so that of two found from one place the first comes before.
pub record IsTree (step before : ℕ → ℕ → Type 0) (start count : ℕ) (found from : ℕ → ℕ) : Type 0 where
  pub up : (j : ℕ) → j < count → from j ≤ j
  pub edge : (j : ℕ) → j < count → step (at_place start found (from j)) (found j)
  pub rising : (i j : ℕ) → i < j → j < count → from i ≤ from j
  pub least : (i j : ℕ) → i < j → j < count → from i ≡ from j → before (found i) (found j)
  pub closed : (p y : ℕ) → p ≤ count → step (at_place start found p) y → (j : ℕ) × ((j < count) × ((found j ≡ y) × (from j ≤ p)))
  pub once : (i j : ℕ) → i < count → j < count → found i ≡ found j → i ≡ j

-- the successors that lead to some ends, and the places of all classes in an order
pub record PlainLeading : Type 0 where
  pub places : List ℕ
  pub lists : List (List ℕ)

pub record PlainTree : Type 0 where
  pub found : List ℕ
  pub from : List ℕ
  pub numbers : List (Option ℕ)

-- the number at a place of a list
abbrev pub nth : List ℕ → ℕ → ℕ
nth xs k = slice_index_or xs k 0

abbrev pub class_at_place : (start : ℕ) → List ℕ → ℕ → ℕ
class_at_place start found p = at_place start (nth found) p

-- each of these classes comes before those behind it
abbrev pub AreInOrder : List ℕ → List ℕ → Type 0
AreInOrder places classes = (i j : ℕ) → i < j → j < length classes → ComesBefore places (nth classes i) (nth classes j)

-- the tree of a search from this class, and as which number each class was found
pub record IsTreeOf (leading : PlainLeading) (start : ℕ) (tree : PlainTree) : Type 0 where
  pub same : length tree.from ≡ length tree.found
  pub walks : IsTree (IsNear leading.lists) (ComesBefore leading.places) start (length tree.found) (nth tree.found) (nth tree.from)
  pub numbered : (j : ℕ) → j < length tree.found → slice_index_or tree.numbers (nth tree.found j) None ≡ Some j

-- the classes in an order, and the place of each in it
pub record ArePlaced (classes : ℕ) (numbers places : List ℕ) : Type 0 where
  pub within : (k : ℕ) → k < length numbers → nth numbers k < classes
  pub place : (k : ℕ) → k < length numbers → nth places (nth numbers k) ≡ k
  pub every : (c : ℕ) → c < classes → (nth places c < length numbers) × (nth numbers (nth places c) ≡ c)

-- each class has some of its successors, with all that are one of the ends or lead to one
pub record AreLeading (edges : List Edge) (ends : List ℕ) (lists : List (List ℕ)) : Type 0 where
  pub real : (x y : ℕ) → IsNear lists x y → IsEdge edges x y
  pub leads : (x y e : ℕ) → Contains ends e → IsEdge edges x y → Reaches (IsEdge edges) y e → IsNear lists x y
