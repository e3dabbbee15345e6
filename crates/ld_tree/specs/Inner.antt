-- What the lists of a `Leading` keep, and what is known of a tree that isn't whole yet. No public contract cites this file.
use Rattle.std.specs.Prelude.{◌≡◌, ℕ, ◌+◌, ◌<◌, ◌≤◌, List, [], ◌∷◌, ◌++◌, Contains, Option, None, Some, Vec, count_by, is_none, length, map, slice_index_or}
use Rattle.std.specs.Global.{Global}
use Rattle.ld_graph.specs.declared.Edge.{Edge}
use Rattle.ld_graph.specs.Edges.{ComesBefore, IsEdge}
use Rattle.ld_graph.specs.Touched.{AreTouched}
use Rattle.ld_graph.specs.Inner.Levels.{HasLevel}
use Rattle.ld_graph.specs.Lists.{IsNear, list_at}
use Rattle.ld_tree.specs.Trees.{AreInOrder, PlainLeading, class_at_place, nth}

-- each list is in order, and names classes alone that have one
pub record AreLists (places : List ℕ) (lists : List (List ℕ)) : Type 0 where
  pub order : (x : ℕ) → AreInOrder places (list_at lists x)
  pub within : (x y : ℕ) → IsNear lists x y → y < length lists

-- the items of each of some lists
abbrev pub items_of : List (Vec ℕ Global) → List (List ℕ)
items_of lists = map (λ v. v.items) lists

-- the class stands behind the others of the lists of these, and the other lists are as before
pub record ArePushed (near : List ℕ) (class : ℕ) (old new : List (List ℕ)) : Type 0 where
  pub len : length new ≡ length old
  pub on : (x : ℕ) → Contains near x → list_at new x ≡ list_at old x ++ class ∷ []
  pub off : (x : ℕ) → ¬ Contains near x → list_at new x ≡ list_at old x

-- these classes are marked and found, behind what was before
pub record AreMarked (near found : List ℕ) (marks : List (Option ℕ)) (found' : List ℕ) (marks' : List (Option ℕ)) : Type 0 where
  pub count : count_by is_none marks' + length found' ≡ count_by is_none marks + length found
  pub touched : AreTouched marks' found'
  pub longer : length found ≤ length found'
  pub front : (k : ℕ) → k < length found → nth found' k ≡ nth found k
  pub kept : (x : ℕ) → HasLevel marks x → HasLevel marks' x
  pub all : (x : ℕ) → Contains near x → HasLevel marks' x

-- the ends are marked, and what leads to a marked class is
pub record AreClosed (edges : List Edge) (classes : ℕ) (ends : List ℕ) (marks : List (Option ℕ)) : Type 0 where
  pub len : length marks ≡ classes
  pub first : (e : ℕ) → Contains ends e → HasLevel marks e
  pub closed : (x y : ℕ) → IsEdge edges x y → HasLevel marks y → HasLevel marks x

-- the lists hold, in order, of the classes before the place k of the order those to which there are edges, with all that are marked
pub record AreBuilt (edges : List Edge) (numbers places : List ℕ) (marks : List (Option ℕ)) (k : ℕ) (lists : List (List ℕ)) : Type 0 where
  pub real : (x y : ℕ) → IsNear lists x y → IsEdge edges x y × ((j : ℕ) × ((j < k) × (nth numbers j ≡ y)))
  pub all : (x j : ℕ) → j < k → IsEdge edges x (nth numbers j) → HasLevel marks (nth numbers j) → IsNear lists x (nth numbers j)
  pub order : (x : ℕ) → AreInOrder places (list_at lists x)

-- What is known of a tree before all places were gone on from: the places before `done` were, and of the one at
-- `done` the first `read` of its successors, which are `near`.
pub record IsPart (leading : PlainLeading) (start done : ℕ) (near : List ℕ) (read : ℕ) (found from : List ℕ) (numbers : List (Option ℕ)) : Type 0 where
  pub same : length from ≡ length found
  pub up : (j : ℕ) → j < length found → nth from j ≤ j
  pub last : (j : ℕ) → j < length found → nth from j ≤ done
  pub edge : (j : ℕ) → j < length found → IsNear leading.lists (class_at_place start found (nth from j)) (nth found j)
  pub rising : (i j : ℕ) → i < j → j < length found → nth from i ≤ nth from j
  pub least : (i j : ℕ) → i < j → j < length found → nth from i ≡ nth from j → ComesBefore leading.places (nth found i) (nth found j)
  pub closed : (p y : ℕ) → p < done → IsNear leading.lists (class_at_place start found p) y
      → (j : ℕ) × ((j < length found) × ((nth found j ≡ y) × (nth from j ≤ p)))
  pub here : (k : ℕ) → k < read → (j : ℕ) × ((j < length found) × (nth found j ≡ nth near k))
  pub fresh : (j : ℕ) → j < length found → nth from j ≡ done → (k : ℕ) × ((k < read) × (nth near k ≡ nth found j))
  pub numbered : (j : ℕ) → j < length found → slice_index_or numbers (nth found j) None ≡ Some j
