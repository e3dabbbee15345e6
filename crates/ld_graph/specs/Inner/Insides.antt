-- What a search for distances says of its working space. No public contract cites this file.
use Rattle.std.specs.Prelude.{◌≡◌, ℕ, ◌<◌, List, slice_index, Option, None, Some, IfSome, Contains}
use Rattle.std.specs.Borrow.{Bor}
use Rattle.ld_graph.specs.Inner.Levels.{level_at}
use Rattle.ld_graph.specs.Lists.{list_at}
use Rattle.ld_graph.specs.Walks.{DistanceIs, IsDistance}

-- the class is one of the component of this number; where no components are given, any class is
abbrev pub StaysIn : Option (Bor (List ℕ)) → (component x : ℕ) → Type 0
StaysIn components component x = IfSome components (λ c. slice_index c.now x ≡ component)

-- the number of a class's component
abbrev pub component_at : Option (Bor (List ℕ)) → ℕ → ℕ
component_at None x = 0
component_at (Some components) x = slice_index components.now x

-- one of these classes, and of this component
abbrev pub IsInsideOf : (components : Option (Bor (List ℕ))) (component : ℕ) (near : List ℕ) → ℕ → Type 0
IsInsideOf components component near x = Contains near x × StaysIn components component x

-- b is a neighbour of a, and of this component
abbrev pub IsNearInside : (lists : List (List ℕ)) (components : Option (Bor (List ℕ))) (component a b : ℕ) → Type 0
IsNearInside lists components component a b = IsInsideOf components component (list_at lists a) b

-- `AreEnough` of the levels that a search gave for the class w, where what is known is right of any class
pub record AreLevelsFor (step : ℕ → ℕ → Type 0) (w end : ℕ) (levels : List (Option ℕ)) : Type 0 where
  pub own : DistanceIs step w end (level_at levels w)
  pub right : (c n : ℕ) → level_at levels c ≡ Some n → IsDistance step c end n
  pub nearer : (c m n : ℕ) → IsDistance step c end m → level_at levels w ≡ Some n → m < n
      → level_at levels c ≡ Some m
