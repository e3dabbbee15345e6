-- An order of a graph's classes, and what an insert makes of it.
use Rattle.std.specs.Prelude.{◌≡◌, ℕ, ◌+◌, ◌<◌, ◌≤◌, ◌⊎◌, List, length, slice_index}
use Rattle.std.specs.Prelude.{Contains, MatchOption, None}
use Rattle.ld_graph.specs.declared.ranks.Insert.{Insert}
use Rattle.ld_graph.specs.declared.ranks.Insert.TheVariants.{Known, Kept, Moved, Closed, AfterCycle}
use Rattle.ld_graph.specs.Edges.{IsEdge, PlainGraph, with_edge}
use Rattle.ld_graph.specs.Walks.{HasWalk}

-- an order of n classes: a list with one rank for each class. The ranks are 0 to n - 1, each once, and every step goes
-- from a lesser to a greater one
pub record IsOrder (step : ℕ → ℕ → Type 0) (n : ℕ) (ranks : List ℕ) : Type 0 where
  pub len : length ranks ≡ n
  pub below : (c : ℕ) → c < n → slice_index ranks c < n
  pub once : (c d : ℕ) → c < n → d < n → slice_index ranks c ≡ slice_index ranks d → c ≡ d
  pub each : (r : ℕ) → r < n → Contains ranks r
  pub rises : (x y : ℕ) → step x y → slice_index ranks x < slice_index ranks y

-- there is a walk that ends where it begins
abbrev pub HasCycle : (ℕ → ℕ → Type 0) → Type 0
HasCycle step = (c : ℕ) × HasWalk step c c

-- ranks were repaired for an edge from a to b: only those in the range from b's to a's change, a stands directly
-- before b, the classes up to a keep their order among themselves, and so do those from b on; and some lists were
-- read, at most as many as there are ranks in the range
pub record AreRepaired (a b expanded : ℕ) (old new : List ℕ) : Type 0 where
  pub len : length new ≡ length old
  pub against : slice_index old b < slice_index old a
  pub outside : (c : ℕ) → c < length old
      → (slice_index old c < slice_index old b) ⊎ (slice_index old a < slice_index old c)
      → slice_index new c ≡ slice_index old c
  pub beside : (c : ℕ) → c < length old
      → (slice_index new c ≤ slice_index new a) ⊎ (slice_index new b ≤ slice_index new c)
  pub alike : (c d : ℕ) → c < length old → d < length old
      → ((slice_index new c ≤ slice_index new a) × (slice_index new d ≤ slice_index new a))
      ⊎ ((slice_index new b ≤ slice_index new c) × (slice_index new b ≤ slice_index new d))
      → slice_index old c < slice_index old d → slice_index new c < slice_index new d
  pub some : 0 < expanded
  pub few : expanded + slice_index old b ≤ slice_index old a + 1

-- the edge from a to b was there, and nothing changes
pub record IsThere (old : PlainGraph) (a b : ℕ) (new : PlainGraph) : Type 0 where
  pub there : IsEdge old.edges a b
  pub same : new ≡ old

-- the edge was added without a cycle, and a's rank was below b's: every rank stays
pub record IsInOrder (old : PlainGraph) (a b : ℕ) (new : PlainGraph) : Type 0 where
  pub fresh : ¬ IsEdge old.edges a b
  pub no_cycle : ¬ HasCycle (IsEdge new.edges)
  pub ranks : MatchOption old.order ⊥ (λ ranks. slice_index ranks a < slice_index ranks b)
  pub graph : new ≡ with_edge old a b old.order

-- the edge was added without a cycle, and a's rank was above b's: there was an order and there is
-- one, by a repair
pub record IsMoved (old : PlainGraph) (a b expanded : ℕ) (new : PlainGraph) : Type 0 where
  pub fresh : ¬ IsEdge old.edges a b
  pub no_cycle : ¬ HasCycle (IsEdge new.edges)
  pub ranks : MatchOption old.order ⊥ (λ ranks.
      MatchOption new.order ⊥ (AreRepaired a b expanded ranks))
  pub graph : new ≡ with_edge old a b new.order

-- the edge was added, and the first cycle came with it
pub record IsClosing (old : PlainGraph) (a b : ℕ) (new : PlainGraph) : Type 0 where
  pub fresh : ¬ IsEdge old.edges a b
  pub no_cycle : ¬ HasCycle (IsEdge old.edges)
  pub cycle : HasCycle (IsEdge new.edges)
  pub graph : new ≡ with_edge old a b None

-- the edge was added, and there was a cycle before
pub record IsAfterCycle (old : PlainGraph) (a b : ℕ) (new : PlainGraph) : Type 0 where
  pub fresh : ¬ IsEdge old.edges a b
  pub cycle : HasCycle (IsEdge old.edges)
  pub graph : new ≡ with_edge old a b None

-- what the insert of the edge from a to b answers, and what it makes of the graph
abbrev pub IsInserted : (old : PlainGraph) (a b : ℕ) → Insert → (new : PlainGraph) → Type 0
IsInserted old a b Known new = IsThere old a b new
IsInserted old a b Kept new = IsInOrder old a b new
IsInserted old a b (Moved expanded) new = IsMoved old a b expanded new
IsInserted old a b Closed new = IsClosing old a b new
IsInserted old a b AfterCycle new = IsAfterCycle old a b new

-- what the answer of an insert says of how many lists were read, before and after it: none if the ranks stand without
-- a search, as many as it tells if they were repaired, and at most both lists of each class if the first cycle came
abbrev pub TellsSteps : (classes : ℕ) → Insert → (old new : ℕ) → Type 0
TellsSteps classes Known old new = new ≡ old
TellsSteps classes Kept old new = new ≡ old
TellsSteps classes (Moved expanded) old new = new ≡ old + expanded
TellsSteps classes Closed old new = (old ≤ new) × (new ≤ old + classes + classes)
TellsSteps classes AfterCycle old new = new ≡ old
