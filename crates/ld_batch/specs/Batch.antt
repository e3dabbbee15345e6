-- What a batch is, without where it lies in memory, and what came to it since a part of it was handed on.
use Rattle.std.specs.Prelude.{◌≡◌, ◌<◌, ◌≤◌, ◌+◌, ◌*◌, ◌++◌, ℕ, Bool, List, [], map, length, slice_index_or, All, AllPairs}
use Rattle.std.specs.Prelude.{Option, None, option_map, if◌then◌else◌}
use Rattle.std.specs.List.{find}
use Rattle.std.specs.Option.{is_some}
use Rattle.ld_class.specs.declared.usage.Usage.{Usage}
use Rattle.ld_class.specs.Names.{PlainClass, no_class}
use Rattle.ld_trace.specs.Sources.{Fits, PlainSource, plain}
use Rattle.ld_rules.specs.declared.outcome.Listed.{Listed}
use Rattle.ld_rules.specs.declared.outcome.TheConstants.{MOST_CLASSES}
use Rattle.ld_rules.specs.declared.outcome.Witness.{Witness}
use Rattle.ld_rules.specs.Dependency.{Dependency, same_dependency}
use Rattle.ld_rules.specs.Outcome.{outcome}
use Rattle.ld_rules.specs.Union.{dependency_witness, union_classes, use_witness}
use Rattle.ld_rules.specs.Usage.{IsBit, Use, bit_of, same_use}
use Rattle.ld_batch.specs.declared.rows.WitnessedEdge.{WitnessedEdge}
use Rattle.ld_batch.specs.declared.rows.WitnessedUse.{WitnessedUse}

pub record PlainBatch : Type 0 where
  pub sources : List PlainSource
  pub classes : List PlainClass
  pub edges : List WitnessedEdge
  pub usage : List WitnessedUse

-- one that lists no trace
abbrev pub empty_batch : PlainBatch
empty_batch = record { sources = []; classes = []; edges = []; usage = [] }

-- the sources of a list
abbrev pub sources_of : List Listed → List PlainSource
sources_of listed = map (λ l. plain l.source) listed

-- each is listed with its outcome
abbrev pub AreOutcomes : List Listed → Type 0
AreOutcomes listed = All (λ l. l.outcome ≡ outcome (plain l.source)) listed

-- the numbers rise
abbrev pub AreRising : List PlainSource → Type 0
AreRising sources = AllPairs (λ a b. a.number < b.number) sources

-- something, and where it was first seen
pub record Met (A : Type 0) : Type 0 where
  pub what : A
  pub witness : Witness

-- where this was first seen, by a list that has each thing once, and nothing where it isn't there
abbrev pub witness_of : {A : Type 0} → (A → A → Bool) → List (Met A) → A → Option Witness
witness_of same all what = option_map (λ m. m.witness) (find (λ m. same what m.what) all)

-- Of rows with a witness, and of those with a line:

-- the dependency between the classes with these numbers
abbrev pub dependency_between : List PlainClass → ℕ → ℕ → Dependency
dependency_between classes from to = record {
  from = slice_index_or classes from no_class;
  to = slice_index_or classes to no_class;
}

-- the usage bit of the class with this number
abbrev pub use_by : List PlainClass → ℕ → Usage → Use
use_by classes class bit = record { class = slice_index_or classes class no_class; bit = bit_of bit }

-- both are numbers of classes
abbrev pub AreClasses : List PlainClass → ℕ → ℕ → Type 0
AreClasses classes from to = (from < length classes) × (to < length classes)

-- it is one bit of a class
abbrev pub IsBitOf : List PlainClass → ℕ → Usage → Type 0
IsBitOf classes class bit = (class < length classes) × IsBit bit

-- a dependency by the names of its classes, with its witness
abbrev pub named_dependency : List PlainClass → WitnessedEdge → Met Dependency
named_dependency classes edge = record { what = dependency_between classes edge.from edge.to; witness = edge.witness }

-- a usage bit by the name of its class, with its witness
abbrev pub named_use : List PlainClass → WitnessedUse → Met Use
named_use classes used = record { what = use_by classes used.class used.bit; witness = used.witness }

-- both classes are among these
abbrev pub IsBetween : List PlainClass → WitnessedEdge → Type 0
IsBetween classes edge = AreClasses classes edge.from edge.to

-- it is one bit of one of these classes
abbrev pub IsUse : List PlainClass → WitnessedUse → Type 0
IsUse classes used = IsBitOf classes used.class used.bit

-- The sources fit, and their numbers rise. The classes are those of their union, each once, in the
-- order in which they come; and each dependency and each usage bit of the union stands there once,
-- with its first witness, and no other.
pub record IsBatch (batch : PlainBatch) : Type 0 where
  pub fit : All Fits batch.sources
  pub rise : AreRising batch.sources
  pub classes : batch.classes ≡ union_classes batch.sources
  pub within : All (IsBetween batch.classes) batch.edges
  pub once : AllPairs (λ d e. (d.from ≡ e.from) × (d.to ≡ e.to) → ⊥) batch.edges
  pub edges : (what : Dependency)
      → witness_of same_dependency (map (named_dependency batch.classes) batch.edges) what
      ≡ dependency_witness batch.sources what
  pub used_within : All (IsUse batch.classes) batch.usage
  pub used_once : AllPairs (λ u v. (u.class ≡ v.class) × (u.bit ≡ v.bit) → ⊥) batch.usage
  pub usage : (what : Use)
      → witness_of same_use (map (named_use batch.classes) batch.usage) what
      ≡ use_witness batch.sources what

-- What some sources show that come after others: the classes of all of them, and the dependencies and usage bits
-- that those behind don't show.
pub record PlainShown : Type 0 where
  pub behind : List PlainSource
  pub sources : List PlainSource
  pub classes : List PlainClass
  pub edges : List WitnessedEdge
  pub usage : List WitnessedUse

-- where this was first seen by these sources, and nothing where one of those behind them shows it
abbrev pub first_since : {A : Type 0} → (List PlainSource → A → Option Witness) → (behind sources : List PlainSource) → A → Option Witness
first_since first behind sources what = if is_some (first behind what) then None else first sources what

-- The sources fit, and their numbers rise, from those behind on. The classes are those of the union of all, each once,
-- in the order in which they come: those of the sources behind stand in front. Each dependency and each usage bit that
-- a source shows, and none behind does, stands there once, with its first witness, and no other.
pub record IsShown (shown : PlainShown) : Type 0 where
  pub fit : All Fits (shown.behind ++ shown.sources)
  pub rise : AreRising (shown.behind ++ shown.sources)
  pub classes : shown.classes ≡ union_classes (shown.behind ++ shown.sources)
  pub within : All (IsBetween shown.classes) shown.edges
  pub once : AllPairs (λ d e. (d.from ≡ e.from) × (d.to ≡ e.to) → ⊥) shown.edges
  pub edges : (what : Dependency)
      → witness_of same_dependency (map (named_dependency shown.classes) shown.edges) what
      ≡ first_since dependency_witness shown.behind shown.sources what
  pub used_within : All (IsUse shown.classes) shown.usage
  pub used_once : AllPairs (λ u v. (u.class ≡ v.class) × (u.bit ≡ v.bit) → ⊥) shown.usage
  pub usage : (what : Use)
      → witness_of same_use (map (named_use shown.classes) shown.usage) what
      ≡ first_since use_witness shown.behind shown.sources what

-- A source has at most so many classes: no more are there, and no more came after those of the sources behind.
pub record AreFewClasses (shown : PlainShown) : Type 0 where
  pub all : length shown.classes ≤ length (shown.behind ++ shown.sources) * MOST_CLASSES
  pub since : length shown.classes ≤ length (union_classes shown.behind) + length shown.sources * MOST_CLASSES

-- what a batch shows, behind which there is none
abbrev pub shown_alone : PlainBatch → PlainShown
shown_alone batch = record {
  behind = [];
  sources = batch.sources;
  classes = batch.classes;
  edges = batch.edges;
  usage = batch.usage;
}

-- what is shown of no traces
abbrev pub nothing_shown : PlainShown
nothing_shown = shown_alone empty_batch
