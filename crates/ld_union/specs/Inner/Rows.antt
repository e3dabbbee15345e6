-- The rows of violations as their makers give them. No contract of a `Book` cites this file.
use Rattle.std.specs.Prelude.{◌≡◌, ◌++◌, ◌↔◌, ◌<◌, ℕ, List, Contains, length, true, slice_index_or, Option, None, Some}
use Rattle.ld_class.specs.declared.usage.Usage.{Usage}
use Rattle.ld_class.specs.Names.{PlainClass}
use Rattle.ld_class.specs.Usage.{has_bit, no_bits}
use Rattle.ld_graph.specs.Edges.{IsEdge}
use Rattle.ld_graph.specs.Components.{AreComponents}
use Rattle.ld_graph.specs.Lists.{IsNear}
use Rattle.ld_graph.specs.Walks.{AreEnough, HasWalk, Reaches}
use Rattle.ld_trace.specs.declared.event.State.{State}
use Rattle.ld_trace.specs.Sources.{PlainSource}
use Rattle.ld_tree.specs.Trees.{PlainLeading}
use Rattle.ld_rules.specs.declared.outcome.Witness.{Witness}
use Rattle.ld_rules.specs.Union.{use_witness}
use Rattle.ld_rules.specs.Usage.{Bit}
use Rattle.ld_rules.specs.Usage.Bit.{On}
use Rattle.ld_union.specs.declared.alarms.Found.{Found}
use Rattle.ld_union.specs.Inner.Bits.{HasBitAt}
use Rattle.ld_union.specs.Inner.States.{of_state}
use Rattle.ld_union.specs.Inner.Union.{AreBetween, PlainUnion, edges_of}
use Rattle.ld_union.specs.Findings.{AreRows, InTurn, IsBefore, IsConflictRow, IsCycleRow, IsForbiddenRow, IsHarder, IsPairBefore, PlainConflictRow}
use Rattle.ld_union.specs.Findings.{PlainCycleRow, PlainForbiddenRow, conflict_key, cycle_key, forbidden_key, shown_marks}
use Rattle.ld_union.specs.Inner.ByName.{AreRising, class_at, name_at}
use Rattle.ld_union.specs.Usage.{bits_of}
use Rattle.ld_union.specs.Violations.{IsConflict, IsCycle, IsForbidden}

-- where none of a kind was found, there is none
pub record IsOfEach (sources : List PlainSource) (found : Found) : Type 0 where
  pub cycle : found.cycle ≡ None → (a b : PlainClass) → ¬ IsCycle sources a b
  pub conflict : (state : State) → of_state found.conflict state ≡ None
      → (class : PlainClass) → ¬ IsConflict sources state class
  pub forbidden : (state : State) → of_state found.forbidden state ≡ None
      → (a b : PlainClass) → ¬ IsForbidden sources state a b

-- of these keys exactly the rows that are owed, each once and in order
abbrev pub AreRowsOf : {Row Key : Type 0} → (Row → Key) → (Row → Type 0) → (Key → Type 0) → (Key → Key → Type 0) → (Key → Type 0) → List Row → Type 0
AreRowsOf key IsRow IsOwed before these rows =
    AreRows key (λ row. IsRow row × these (key row)) (λ k. IsOwed k × these k) before rows

-- a row of this conflict
abbrev pub IsConflictRowOf : List PlainSource → State → PlainClass → PlainConflictRow → Type 0
IsConflictRowOf sources state class row = IsConflictRow sources row × (conflict_key row ≡ (state, class))

-- the rows of these conflicts
abbrev pub AreConflictRowsOf : List PlainSource → (State × PlainClass → Type 0) → List PlainConflictRow → Type 0
AreConflictRowsOf sources these rows =
    AreRowsOf conflict_key (IsConflictRow sources) (λ p. IsConflict sources p.0 p.1) (InTurn IsHarder IsBefore) these rows

-- a row of this dependency on a cycle
abbrev pub IsCycleRowOf : List PlainSource → (from to : PlainClass) → PlainCycleRow → Type 0
IsCycleRowOf sources from to row = IsCycleRow sources row × (cycle_key row ≡ (from, to))

-- the rows of these dependencies on cycles
abbrev pub AreCycleRowsOf : List PlainSource → (PlainClass × PlainClass → Type 0) → List PlainCycleRow → Type 0
AreCycleRowsOf sources these rows =
    AreRowsOf cycle_key (IsCycleRow sources) (λ p. IsCycle sources p.0 p.1) IsPairBefore these rows

-- the rows of these forbidden walks
abbrev pub AreForbiddenRowsOf : List PlainSource → (State × (PlainClass × PlainClass) → Type 0) → List PlainForbiddenRow → Type 0
AreForbiddenRowsOf sources these rows =
    AreRowsOf forbidden_key (IsForbiddenRow sources) (λ p. IsForbidden sources p.0 p.1.0 p.1.1) (InTurn IsHarder IsPairBefore) these rows

-- the ends of a forbidden walk
abbrev pub ends_of : PlainForbiddenRow → PlainClass × PlainClass
ends_of row = (row.from, row.to)

-- a row of a forbidden walk of the state
abbrev pub IsRowIn : List PlainSource → State → PlainForbiddenRow → Type 0
IsRowIn sources state row = IsForbiddenRow sources row × (row.state ≡ state)

-- a row of this one
abbrev pub IsEndRowOf : List PlainSource → State → (from to : PlainClass) → PlainForbiddenRow → Type 0
IsEndRowOf sources state from to row = IsRowIn sources state row × (ends_of row ≡ (from, to))

-- the rows of a state's forbidden walks, each once, in the order of their ends
abbrev pub AreEndRows : List PlainSource → State → List PlainForbiddenRow → Type 0
AreEndRows sources state rows =
    AreRows ends_of (IsRowIn sources state) (λ p. IsForbidden sources state p.0 p.1) IsPairBefore rows

-- and of these alone
abbrev pub AreEndRowsOf : List PlainSource → State → (PlainClass × PlainClass → Type 0) → List PlainForbiddenRow → Type 0
AreEndRowsOf sources state these rows =
    AreRowsOf ends_of (IsRowIn sources state) (λ p. IsForbidden sources state p.0 p.1) IsPairBefore these rows

-- these rows stand behind the others
pub record AreBehind {Row : Type 0} (AreThese : List Row → Type 0) (old new : List Row) : Type 0 where
  pub more : List Row
  pub grown : new ≡ old ++ more
  pub are : AreThese more

-- the name and the usage characters of a class that has the bit, and where that was first seen
pub record IsNoted (sources : List PlainSource) (class : PlainClass) (bit : Bit) (name : PlainClass) (marks : List ℕ) (at : Witness) : Type 0 where
  pub same : name ≡ class
  pub shown : marks ≡ shown_marks sources class
  pub first : use_witness sources (record { class = class; bit = bit }) ≡ Some at

-- the classes of a union that have the bit, in the order of their names
pub record AreWithBit (union : PlainUnion) (bit : Usage) (classes : List ℕ) : Type 0 where
  pub each : (c : ℕ) → Contains classes c ↔ ((c < length union.classes) × (has_bit (slice_index_or (bits_of union.usage) c no_bits) bit ≡ true))
  pub rising : AreRising (name_at union.classes classes) (length classes)

-- dependencies of a union, with all that lead to a class which is held where handlers of the state can interrupt
pub record AreLeadingTo (union : PlainUnion) (state : State) (places : List ℕ) (leading : PlainLeading) : Type 0 where
  pub numbered : AreBetween union.classes union.dependencies
  pub in_order : leading.places ≡ places
  pub size : length leading.lists ≡ length union.classes
  pub real : (x y : ℕ) → IsNear leading.lists x y → IsEdge (edges_of union.dependencies) x y
  pub leads : (e : ℕ) → e < length union.classes → HasBitAt (bits_of union.usage) e (On state) → (x y : ℕ) → IsEdge (edges_of union.dependencies) x y
      → Reaches (IsEdge (edges_of union.dependencies)) y e → IsNear leading.lists x y

-- these are the places, in an order, of those of some classes that are held where handlers of the state can interrupt
pub record AreHeldPlaces (union : PlainUnion) (state : State) (numbers found places : List ℕ) : Type 0 where
  pub each : (p : ℕ) → Contains places p → (p < length numbers)
      × (Contains found (class_at numbers p) × HasBitAt (bits_of union.usage) (class_at numbers p) (On state))
  pub all : (c : ℕ) → Contains found c → HasBitAt (bits_of union.usage) c (On state) → (p : ℕ) × (Contains places p × (class_at numbers p ≡ c))

-- enough of the distances to another class for the shown walk from this one
pub record AreEnoughFrom (union : PlainUnion) (from to : ℕ) (distances : List (Option ℕ)) : Type 0 where
  pub len : length distances ≡ length union.classes
  pub enough : AreEnough (IsEdge (edges_of union.dependencies)) from to (λ c. slice_index_or distances c None)

-- which classes of a union are in one component
abbrev pub AreComponentsOf : PlainUnion → List ℕ → Type 0
AreComponentsOf union components = AreComponents (IsEdge (edges_of union.dependencies)) (length union.classes) components

-- an edge from a to b, with a walk back
abbrev pub IsBackEdge : PlainUnion → (a b : ℕ) → Type 0
IsBackEdge union a b = IsEdge (edges_of union.dependencies) a b × HasWalk (IsEdge (edges_of union.dependencies)) b a

-- a place of the order at which there is the second class of such an edge from a
abbrev pub IsBackPlace : PlainUnion → List ℕ → (a p : ℕ) → Type 0
IsBackPlace union numbers a p = (p < length numbers) × IsBackEdge union a (class_at numbers p)

-- these are the places of all classes to which such edges from a lead
pub record AreBackPlaces (union : PlainUnion) (numbers : List ℕ) (a : ℕ) (places : List ℕ) : Type 0 where
  pub each : (p : ℕ) → Contains places p → IsBackPlace union numbers a p
  pub all : (b : ℕ) → IsBackEdge union a b → (p : ℕ) × (Contains places p × (class_at numbers p ≡ b))

-- the name is one of the first so many of these
abbrev pub IsPassed : (ℕ → PlainClass) → ℕ → PlainClass → Type 0
IsPassed names count name = (j : ℕ) × ((j < count) × (names j ≡ name))
