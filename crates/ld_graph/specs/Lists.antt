-- A graph's lists of successors and predecessors as callers see them, and how they grow.
use Rattle.std.specs.Prelude.{◌≡◌, ℕ, ◌+◌, ◌≤◌, List, [], ◌∷◌, ◌++◌, Contains, length, slice_set}
use Rattle.std.specs.Prelude.{slice_index_or}

-- what is seen of the lists of one side: the list of each class, how many neighbours there are in
-- all, and for how many classes and neighbours there is memory
pub record NearLists : Type 0 where
  pub lists : List (List ℕ)
  pub items : ℕ
  pub class_room : ℕ
  pub item_room : ℕ

-- for each class its successors and its predecessors
pub record Sides : Type 0 where
  pub after : NearLists
  pub before : NearLists

-- a graph's lists, and how many of them were read
pub record Reading : Type 0 where
  pub lists : Sides
  pub count : ℕ

-- the list of a class
abbrev pub list_at : List (List ℕ) → ℕ → List ℕ
list_at lists c = slice_index_or lists c []

-- b is a neighbour of a
abbrev pub IsNear : List (List ℕ) → ℕ → ℕ → Type 0
IsNear lists a b = Contains (list_at lists a) b

-- the lists are as before, with at least the memory that they had
pub record ListsGrown (old new : NearLists) : Type 0 where
  pub lists : new.lists ≡ old.lists
  pub items : new.items ≡ old.items
  pub class_room : old.class_room ≤ new.class_room
  pub item_room : old.item_room ≤ new.item_room

-- there is memory for so many further classes and neighbours
pub record HasRoom (n : NearLists) (more_classes more_items : ℕ) : Type 0 where
  pub for_classes : length n.lists + more_classes ≤ n.class_room
  pub for_items : n.items + more_items ≤ n.item_room

-- there is one class more, without neighbours
pub record IsNextClass (old new : NearLists) : Type 0 where
  pub lists : new.lists ≡ old.lists ++ [] ∷ []
  pub items : new.items ≡ old.items
  pub class_room : old.class_room ≤ new.class_room
  pub item_room : old.item_room ≤ new.item_room

-- the class has one neighbour more
pub record IsNextItem (old : NearLists) (class neighbour : ℕ) (new : NearLists) : Type 0 where
  pub lists : new.lists ≡ slice_set old.lists class (list_at old.lists class ++ neighbour ∷ [])
  pub items : new.items ≡ old.items + 1
  pub class_room : old.class_room ≤ new.class_room
  pub item_room : old.item_room ≤ new.item_room
