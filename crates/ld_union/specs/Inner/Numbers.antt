-- Violations by the numbers of the classes, and what the numbers stand for. No contract of a `Book`
-- cites this file.
use Rattle.std.specs.Prelude.{◌≡◌, ◌↔◌, ℕ, ◌<◌, ◌≤◌, List, length, slice_index_or, None, IfSome, IsSome, option_map}
use Rattle.ld_class.specs.declared.usage.Usage.{Usage}
use Rattle.ld_class.specs.Names.{PlainClass, no_class, place_of}
use Rattle.ld_graph.specs.declared.Edge.{Edge}
use Rattle.ld_graph.specs.Edges.{IsEdge}
use Rattle.ld_graph.specs.Walks.{HasWalk}
use Rattle.ld_trace.specs.declared.event.State.{State}
use Rattle.ld_trace.specs.Sources.{PlainSource}
use Rattle.ld_rules.specs.Usage.{Bit}
use Rattle.ld_rules.specs.Usage.Bit.{In, On}
use Rattle.ld_union.specs.declared.alarms.Found.{Found}
use Rattle.ld_union.specs.Inner.Bits.{HasBitAt}
use Rattle.ld_union.specs.Inner.Delta.{PlainDelta, Tells}
use Rattle.ld_union.specs.Inner.States.{of_state}
use Rattle.ld_union.specs.Inner.Union.{IsCycleAt, PlainUnion}
use Rattle.ld_union.specs.Alarms.{IsExact, PlainAlarms}
use Rattle.ld_union.specs.Violations.{HasBit}

-- the class has both bits of the state
abbrev pub IsConflictAt : List Usage → State → ℕ → Type 0
IsConflictAt usage state class = HasBitAt usage class (In state) × HasBitAt usage class (On state)

-- x has the state's first bit, y its second one, and a walk leads from x to y
abbrev pub IsForbiddenAt : List Edge → List Usage → State → ℕ → ℕ → Type 0
IsForbiddenAt edges usage state x y = HasBitAt usage x (In state) × (HasBitAt usage y (On state) × HasWalk (IsEdge edges) x y)

-- the edges grew: each that was there is there
abbrev pub EdgesGrow : List Edge → List Edge → Type 0
EdgesGrow old new = (a b : ℕ) → IsEdge old a b → IsEdge new a b

-- and so did the bits
abbrev pub BitsGrow : List Usage → List Usage → Type 0
BitsGrow old new = (class : ℕ) (bit : Bit) → HasBitAt old class bit → HasBitAt new class bit

-- what is told is what is new of this union to one before it
abbrev pub IsTold : PlainUnion → PlainDelta → Type 0
IsTold union delta = (old : PlainUnion) × Tells old union delta

-- each class has the bits that its name has in the union of these sources
pub record AreBitsOf (classes : List PlainClass) (usage : List Usage) (sources : List PlainSource) : Type 0 where
  pub within : length usage ≤ length classes
  pub each : (class : ℕ) (bit : Bit) → class < length classes → (HasBitAt usage class bit) ↔ (HasBit sources (slice_index_or classes class no_class) bit)
  pub known : (name : PlainClass) (bit : Bit) → HasBit sources name bit → IsSome (place_of classes name)

-- what was found is exact, by number
pub record AreFound (edges : List Edge) (usage : List Usage) (found : Found) : Type 0 where
  pub cycle : IsExact (IsCycleAt edges) found.cycle
  pub conflict : (state : State) → IsExact (IsConflictAt usage state) (of_state found.conflict state)
  pub forbidden : (state : State) → IsExact (λ f. IsForbiddenAt edges usage state f.from f.to) (of_state found.forbidden state)

-- nothing was found
pub record IsNothing (found : Found) : Type 0 where
  pub cycle : found.cycle ≡ None
  pub conflict : (state : State) → of_state found.conflict state ≡ None
  pub forbidden : (state : State) → of_state found.forbidden state ≡ None

-- the numbers that were found are below the count
pub record AreWithin (count : ℕ) (found : Found) : Type 0 where
  pub cycle : IfSome found.cycle (λ e. (e.from < count) × (e.to < count))
  pub conflict : (state : State) → IfSome (of_state found.conflict state) (λ c. c < count)
  pub forbidden : (state : State) → IfSome (of_state found.forbidden state) (λ f. (f.from < count) × (f.to < count))

-- the names of two numbers
abbrev pub named_pair : List PlainClass → ℕ → ℕ → PlainClass × PlainClass
named_pair classes a b = (slice_index_or classes a no_class, slice_index_or classes b no_class)

-- the alarms with the names of the numbers that were found
abbrev pub named_alarms : List PlainClass → Found → PlainAlarms
named_alarms classes found = record {
  cycle = option_map (λ e. named_pair classes e.from e.to) found.cycle;
  conflict = λ state. option_map (λ c. slice_index_or classes c no_class) (of_state found.conflict state);
  forbidden = λ state. option_map (λ f. named_pair classes f.from f.to) (of_state found.forbidden state);
}
