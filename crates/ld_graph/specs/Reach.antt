-- What is reached from some seeds.
use Rattle.std.specs.Prelude.{◌≡◌, ◌↔◌, ◌⊎◌, ℕ, ◌-◌, Bool, true, false, List, [], ◌∷◌, ◌++◌, Option, None, IsSome, MatchOption, Contains, slice_index_or}
use Rattle.ld_graph.specs.declared.Edge.{Edge}
use Rattle.ld_graph.specs.Edges.{IsEdge}
use Rattle.ld_graph.specs.Lists.{IsNear, Sides}
use Rattle.ld_graph.specs.Walks.{HasWalk}

-- s is one of the seeds, and a walk of at least one step leads from it to c
abbrev pub IsSource : (ℕ → ℕ → Type 0) → List ℕ → ℕ → ℕ → Type 0
IsSource step seeds c s = Contains seeds s × HasWalk step s c

-- the lists of successors are those of these edges
abbrev pub AreSuccessors : Sides → List Edge → Type 0
AreSuccessors lists edges = (x y : ℕ) → IsNear lists.after.lists x y ↔ IsEdge edges x y

-- what is seen of a reach: for each class its source, if it has one, and whether it was expanded; the
-- classes with a source, in the order in which they got it; for how many further classes there is
-- memory, and how often a class was expanded so far
pub record PlainReach : Type 0 where
  pub sources : List (Option ℕ)
  pub marks : List Bool
  pub reached : List ℕ
  pub spare : ℕ
  pub expanded : ℕ

-- the source of a class
abbrev pub source_of : PlainReach → ℕ → Option ℕ
source_of reach c = slice_index_or reach.sources c None

-- whether the class was expanded
abbrev pub mark_of : PlainReach → ℕ → Bool
mark_of reach c = slice_index_or reach.marks c false

-- The reach is exact for these steps and seeds. The source of a class is a seed with a walk to it, and
-- there is none exactly where no seed has one. The classes that were expanded are the seeds and those
-- with a source.
pub record IsReach (step : ℕ → ℕ → Type 0) (seeds : List ℕ) (reach : PlainReach) : Type 0 where
  pub sources : (c : ℕ) → MatchOption (source_of reach c) ((s : ℕ) → ¬ IsSource step seeds c s) (IsSource step seeds c)
  pub marked : (c : ℕ) → (mark_of reach c ≡ true) ↔ (Contains seeds c ⊎ IsSome (source_of reach c))

-- of no class, and without memory
abbrev pub no_reach : PlainReach
no_reach = record { sources = []; marks = []; reached = []; spare = 0; expanded = 0 }

-- with one more class, which has no source and was not expanded, and took a spare one
abbrev pub with_unreached : PlainReach → PlainReach
with_unreached reach = record reach {
  sources = reach.sources ++ None ∷ [];
  marks = reach.marks ++ false ∷ [];
  spare = reach.spare - 1;
}
