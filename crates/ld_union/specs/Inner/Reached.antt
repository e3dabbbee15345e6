-- For each interrupt state, which classes walks lead to from those that handlers of the state acquire. No
-- contract of a `Book` cites this file.
use Rattle.std.specs.Prelude.{◌≡◌, ◌↔◌, ◌⊎◌, ℕ, Bool, true, List, length, take, count_by, Contains}
use Rattle.ld_class.specs.declared.usage.Usage.{Usage}
use Rattle.ld_graph.specs.declared.Edge.{Edge}
use Rattle.ld_graph.specs.Edges.{IsEdge}
use Rattle.ld_graph.specs.Walks.{HasWalk}
use Rattle.ld_graph.specs.Reach.{IsReach, PlainReach, mark_of}
use Rattle.ld_trace.specs.declared.event.State.{State}
use Rattle.ld_rules.specs.Usage.Bit.{In}
use Rattle.ld_union.specs.declared.delta.NewBit.{NewBit}
use Rattle.ld_union.specs.declared.reaches.PerState.{PerState}
use Rattle.ld_union.specs.Inner.Bits.{HasBitAt, new_bit}
use Rattle.ld_union.specs.Inner.States.{of_state}

-- handlers of the state acquire the class `from`, and a walk leads from it to the class
abbrev pub IsSourceAt : List Edge → List Usage → State → ℕ → ℕ → Type 0
IsSourceAt edges usage state class from = HasBitAt usage from (In state) × HasWalk (IsEdge edges) from class

-- The reach has so many classes, and expanded one as often as there are marks that are on.
pub record ExpandsOnce (classes : ℕ) (reach : PlainReach) : Type 0 where
  pub count : length reach.marks ≡ classes
  pub each : reach.expanded ≡ count_by (λ mark. mark) reach.marks

-- What a union keeps true of the reach of a state: it has each class, expanded as many as have a mark, and is
-- exact for the edges and for some seeds, which are the classes that handlers of the state acquire.
pub record IsReachOf (classes : ℕ) (edges : List Edge) (usage : List Usage) (state : State) (reach : PlainReach) : Type 0 where
  pub once : ExpandsOnce classes reach
  pub seeds : List ℕ
  pub seeded : (c : ℕ) → Contains seeds c ↔ HasBitAt usage c (In state)
  pub exact : IsReach (IsEdge edges) seeds reach

-- The reach of a state is exact for some seeds: for these, and for the classes of the told bits of which
-- handlers of the state acquire them.
pub record IsSeeded (edges : List Edge) (before : List ℕ) (state : State) (told : List NewBit) (reach : PlainReach) : Type 0 where
  pub seeds : List ℕ
  pub each : (c : ℕ) → Contains seeds c ↔ (Contains before c ⊎ Contains told (new_bit c (In state)))
  pub exact : IsReach (IsEdge edges) seeds reach

-- both have so many classes, and expanded as many as have a mark
abbrev pub HaveClasses : ℕ → PerState PlainReach → Type 0
HaveClasses count reach = (state : State) → ExpandsOnce count (of_state reach state)

-- both stay exact for their seeds, where these edges become those
abbrev pub StayExact : List Edge → List Edge → PerState PlainReach → PerState PlainReach → Type 0
StayExact before after old new = (state : State) (seeds : List ℕ)
    → IsReach (IsEdge before) seeds (of_state old state) → IsReach (IsEdge after) seeds (of_state new state)

-- what had been reached stands in front of what is reached now, and what had been expanded stays so
pub record IsFurther (old new : PlainReach) : Type 0 where
  pub front : take (length old.reached) new.reached ≡ old.reached
  pub stays : (class : ℕ) → mark_of old class ≡ true → mark_of new class ≡ true

-- the same of both
abbrev pub AreFurther : PerState PlainReach → PerState PlainReach → Type 0
AreFurther old new = (state : State) → IsFurther (of_state old state) (of_state new state)

-- what each has reached
abbrev pub reached_by : PerState PlainReach → PerState (List ℕ)
reached_by reach = record { hard = reach.hard.reached; soft = reach.soft.reached }

-- for each class whether each has expanded it, and how often each expanded a class so far
abbrev pub marks_by : PerState PlainReach → PerState (List Bool)
marks_by reach = record { hard = reach.hard.marks; soft = reach.soft.marks }

abbrev pub expanded_by : PerState PlainReach → PerState ℕ
expanded_by reach = record { hard = reach.hard.expanded; soft = reach.soft.expanded }
