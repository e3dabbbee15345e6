-- What is kept of some traces, with numbers for their classes. No contract of a `Book` cites this file.
use Rattle.std.specs.Prelude.{◌≡◌, ◌≢◌, ℕ, ◌+◌, ◌<◌, ◌≤◌, ◌++◌, Bool, List, length, map, slice_index_or, All, AllPairs, Contains}
use Rattle.std.specs.Prelude.{Any, Option, Some, None, IsSome, MatchOption, if◌then◌else◌}
use Rattle.std.specs.Option.{is_some}
use Rattle.ld_class.specs.declared.names.TheConstants.{MOST_NAMES}
use Rattle.ld_class.specs.Names.{AreDistinct, PlainClass, no_class, place_of}
pub use Rattle.ld_batch.specs.Inner.Rows.{earlier_of, seen_in}
use Rattle.ld_trace.specs.declared.event.State.{State}
use Rattle.ld_trace.specs.Sources.{PlainSource}
use Rattle.ld_graph.specs.declared.Edge.{Edge}
use Rattle.ld_graph.specs.Edges as graphs
use Rattle.ld_graph.specs.Walks.{HasWalk}
use Rattle.ld_graph.specs.Reach.{PlainReach}
use Rattle.ld_rules.specs.declared.outcome.Witness.{Witness}
use Rattle.ld_rules.specs.Dependency.{Dependency, same_dependency}
use Rattle.ld_rules.specs.Union.{dependency_witness, union_classes, use_witness}
use Rattle.ld_rules.specs.Usage.{Bit, Use, same_bit, same_use}
use Rattle.ld_union.specs.declared.dependencies.Witnessed.{Witnessed}
use Rattle.ld_union.specs.declared.reaches.PerState.{PerState}
use Rattle.ld_union.specs.declared.usage.UsageRow.{UsageRow}
use Rattle.ld_union.specs.Inner.Reached.{IsReachOf}
use Rattle.ld_union.specs.Inner.States.{of_state}
use Rattle.ld_union.specs.Usage.{bits_of, row_of}

-- the dependency that an edge stands for
abbrev pub named_edge : List PlainClass → Edge → Dependency
named_edge classes edge = record {
  from = slice_index_or classes edge.from no_class;
  to = slice_index_or classes edge.to no_class;
}

-- The rows are the dependencies that have a first witness, each with that witness.
pub record AreWitnessed (classes : List PlainClass) (rows : List Witnessed)
    (first : Dependency → Option Witness) : Type 0 where
  pub each : All (λ r. first (named_edge classes r.edge) ≡ Some r.first) rows
  pub all : (what : Dependency) → IsSome (first what) → Any (λ r. named_edge classes r.edge ≡ what) rows

-- the edges of the rows, by their numbers
abbrev pub edges_of : List Witnessed → List Edge
edges_of rows = map (λ r. r.edge) rows

-- Numbers stand for the classes, and each row is an edge between two of them, of which there is no other.
pub record AreBetween (classes : List PlainClass) (rows : List Witnessed) : Type 0 where
  pub distinct : AreDistinct classes
  pub ends : All (λ e. (e.from < length classes) × (e.to < length classes)) (edges_of rows)
  pub once : AllPairs (λ e f. e ≢ f) (edges_of rows)

-- the first witnesses, where this dependency was seen there too: of each the earlier one
abbrev pub with_seen : (Dependency → Option Witness) → Dependency → Witness → Dependency → Option Witness
with_seen first seen witness what = earlier_of (first what) (if same_dependency what seen then Some witness else None)

-- the first witnesses, where more was seen at these: of each the earlier one
abbrev pub with_first : {A : Type 0} → (A → Option Witness) → (A → Option Witness) → A → Option Witness
with_first first more what = earlier_of (first what) (more what)

-- the first witnesses, where this bit of a class was seen there too
abbrev pub with_first_use : (Use → Option Witness) → Use → Witness → Use → Option Witness
with_first_use first seen witness what = earlier_of (first what) (if same_use what seen then Some witness else None)

-- the first witness of each bit of this class
abbrev pub of_class : (Use → Option Witness) → PlainClass → Bit → Option Witness
of_class first class bit = first (record { class = class; bit = bit })

-- Each class has a row, which has the first witness of each of its bits, and other classes have none.
pub record AreUsed (classes : List PlainClass) (rows : List UsageRow) (first : Use → Option Witness) : Type 0 where
  pub each : rows ≡ map (λ class. row_of (of_class first class)) classes
  pub known : (what : Use) → IsSome (first what) → IsSome (place_of classes what.class)

-- the row of a class that is one of these
abbrev pub known_row : List PlainClass → (Use → Option Witness) → PlainClass → Option UsageRow
known_row classes first class = if is_some (place_of classes class) then Some (row_of (of_class first class)) else None

-- the first witnesses of a class's bits, once this one was seen there
abbrev pub with_bit : (Bit → Option Witness) → Bit → Witness → Bit → Option Witness
with_bit first bit witness b = earlier_of (first b) (if same_bit b bit then Some witness else None)

-- A union, without where its names lie in memory: the classes and the edges between them, each in the order
-- of their numbers, for each class its usage, and for each state the classes to which a walk leads from one
-- that handlers of the state acquire, in the order in which they were reached; which classes were expanded for
-- that, and how often one was so far.
pub record PlainUnion : Type 0 where
  pub classes : List PlainClass
  pub dependencies : List Witnessed
  pub usage : List UsageRow
  pub reached : PerState (List ℕ)
  pub marks : PerState (List Bool)
  pub expanded : PerState ℕ

-- the edge is there, and a walk leads back from its second class to its first
abbrev pub IsCycleAt : List Edge → Edge → Type 0
IsCycleAt edges e = graphs.IsEdge edges e.from e.to × HasWalk (graphs.IsEdge edges) e.to e.from

-- an edge on a cycle, and none exactly where there is no cycle
abbrev pub IsCycleEdge : List Edge → Option Edge → Type 0
IsCycleEdge edges closing = MatchOption closing (¬ ((e : Edge) × IsCycleAt edges e)) (IsCycleAt edges)

-- What a union keeps true of its fields, beside what its dependencies do: there aren't too many classes, the graph
-- has them, each class has a row of usage, an edge on a cycle is noted where there is one, and for each state it is
-- known what is reached.
pub record IsUnion (classes : List PlainClass) (graph : graphs.PlainGraph) (dependencies : List Witnessed)
    (usage : List UsageRow) (closed_by : Option Edge) (reach : PerState PlainReach) : Type 0 where
  pub numbered : AreBetween classes dependencies
  pub few : length classes ≤ MOST_NAMES
  pub count : graph.classes ≡ length classes
  pub rows : length usage ≡ length classes
  pub closing : IsCycleEdge (edges_of dependencies) closed_by
  pub reached : (state : State) → IsReachOf (length classes) (edges_of dependencies) (bits_of usage) state
      (of_state reach state)

-- The union is what these sources show together. Each union is numbered: it is said here for what knows of a
-- union no more than this.
pub record Shows (sources : List PlainSource) (union : PlainUnion) : Type 0 where
  pub numbered : AreBetween union.classes union.dependencies
  pub classes : union.classes ≡ union_classes sources
  pub witnesses : AreWitnessed union.classes union.dependencies (dependency_witness sources)
  pub used : AreUsed union.classes union.usage (use_witness sources)

-- Of whatever sources the union showed what they show, all of those behind among them, it now shows what they and these
-- show. No more classes came than come where these follow those behind.
pub record Adds (behind more : List PlainSource) (old new : PlainUnion) : Type 0 where
  pub shows : (sources : List PlainSource) → Shows sources old → All (Contains sources) behind → Shows (sources ++ more) new
  pub few : (sources : List PlainSource) → Shows sources old → All (Contains sources) behind
      → length new.classes + length (union_classes behind) ≤ length old.classes + length (union_classes (behind ++ more))
