-- Every class and every dependency of a book, in the order of a report.
use Rattle.std.specs.Prelude.{◌≡◌, ◌≢◌, List, map, All, AllPairs, Any, Contains, Some}
use Rattle.ld_class.specs.Names.{AreDistinct, IsNameAt, PlainClass, plain_class}
use Rattle.ld_trace.specs.Sources.{PlainSource}
use Rattle.ld_rules.specs.Union.{dependency_witness, union_classes}
use Rattle.ld_book.specs.Dependencies.{usage_of_class}
use Rattle.ld_book.specs.Findings.{AreRows, IsBefore, IsPairBefore}
use Rattle.ld_book.specs.Violations.{Depends}
use Rattle.ld_overview.specs.declared.overview.ClassRow.{ClassRow}
use Rattle.ld_overview.specs.declared.overview.DependencyRow.{DependencyRow}

-- what a row says of a class: its number is its place in the union, and this is its usage
pub record IsClassRow (sources : List PlainSource) (row : ClassRow) : Type 0 where
  pub number : IsNameAt (union_classes sources) row.number (plain_class row.class)
  pub usage : row.usage ≡ usage_of_class sources (plain_class row.class)

-- the classes of the union, each once, by their names
abbrev pub AreClassRows : List PlainSource → List ClassRow → Type 0
AreClassRows sources rows = AreRows (λ row. plain_class row.class) (IsClassRow sources) (Contains (union_classes sources)) IsBefore rows

-- the names of a dependency's classes
abbrev pub ends : DependencyRow → PlainClass × PlainClass
ends row = (plain_class row.from, plain_class row.to)

-- what a row says of a dependency: the numbers of its classes, and where it was first seen
pub record IsDependencyRow (sources : List PlainSource) (row : DependencyRow) : Type 0 where
  pub from : IsNameAt (union_classes sources) row.edge.from (plain_class row.from)
  pub to : IsNameAt (union_classes sources) row.edge.to (plain_class row.to)
  pub first : dependency_witness sources (record { from = plain_class row.from; to = plain_class row.to }) ≡ Some row.first

-- the dependencies of the union, each once, by the names of their classes
abbrev pub AreDependencyRows : List PlainSource → List DependencyRow → Type 0
AreDependencyRows sources rows = AreRows ends (IsDependencyRow sources) (λ p. Depends sources p.0 p.1) IsPairBefore rows

-- The rest is what the code says on the way.

-- the classes of the union in their order there
pub record AreNumberedRows (sources : List PlainSource) (rows : List ClassRow) : Type 0 where
  pub each : All (IsClassRow sources) rows
  pub names : map (λ row. plain_class row.class) rows ≡ union_classes sources
  pub distinct : AreDistinct (union_classes sources)

-- the dependencies of the union, each once, in any order
pub record AreNamedRows (sources : List PlainSource) (rows : List DependencyRow) : Type 0 where
  pub each : All (IsDependencyRow sources) rows
  pub all : (p : PlainClass × PlainClass) → Depends sources p.0 p.1 → Any (λ row. ends row ≡ p) rows
  pub once : AllPairs (λ row other. ends row ≢ ends other) rows
