-- The classes and the dependencies of a union, whole, by the places of the classes.
use Rattle.std.specs.Prelude.{◌≡◌, ◌≢◌, ◌<◌, ℕ, List, length, slice_index_or, All, AllPairs, Any, Some, IsSome}
use Rattle.ld_class.specs.Names.{PlainClass, no_class}
use Rattle.ld_graph.specs.declared.Edge.{Edge}
use Rattle.ld_trace.specs.Sources.{PlainSource}
use Rattle.ld_rules.specs.Dependency.{Dependency}
use Rattle.ld_rules.specs.Union.{dependency_witness, union_classes, use_witness}
use Rattle.ld_union.specs.declared.dependencies.Witnessed.{Witnessed}
use Rattle.ld_union.specs.declared.usage.UsageRow.{UsageRow}
use Rattle.ld_union.specs.Usage.{row_of}

-- the class at this place of the union's classes
abbrev pub class_at : List PlainSource → ℕ → PlainClass
class_at sources place = slice_index_or (union_classes sources) place no_class

-- the usage of a class: its bits, and where each was first seen
abbrev pub usage_of_class : List PlainSource → PlainClass → UsageRow
usage_of_class sources class = row_of (λ bit. use_witness sources (record { class = class; bit = bit }))

-- the dependency between the classes at two places
abbrev pub dependency_at : List PlainSource → Edge → Dependency
dependency_at sources edge = record { from = class_at sources edge.from; to = class_at sources edge.to }

-- The rows are the dependencies of the union, each once, with its first witness.
pub record AreDependencies (sources : List PlainSource) (rows : List Witnessed) : Type 0 where
  pub within : All (λ row. (row.edge.from < length (union_classes sources)) × (row.edge.to < length (union_classes sources))) rows
  pub witness : All (λ row. dependency_witness sources (dependency_at sources row.edge) ≡ Some row.first) rows
  pub all : (what : Dependency) → IsSome (dependency_witness sources what) → Any (λ row. dependency_at sources row.edge ≡ what) rows
  pub once : AllPairs (λ row other. dependency_at sources row.edge ≢ dependency_at sources other.edge) rows
