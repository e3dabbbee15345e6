-- Dependencies and usage bits by the names of their classes.
use Rattle.std.specs.Prelude.{List}
use Rattle.ld_class.specs.Names.{PlainClass}
use Rattle.ld_tables.specs.declared.edges.EdgeFact.{EdgeFact}
use Rattle.ld_tables.specs.declared.uses.UsageFact.{UsageFact}
use Rattle.ld_rules.specs.Dependency.{Dependency, Seen}
use Rattle.ld_rules.specs.Usage.{Use}
use Rattle.ld_batch.specs.Batch.{AreClasses, IsBitOf, dependency_between, use_by}

-- a dependency by the names of its classes, with its line
abbrev pub named_dependency : List PlainClass → EdgeFact → Seen Dependency
named_dependency classes edge = record { what = dependency_between classes edge.from edge.to; line = edge.line }

-- a usage bit by the name of its class, with its line
abbrev pub named_use : List PlainClass → UsageFact → Seen Use
named_use classes fact = record { what = use_by classes fact.class fact.bit; line = fact.line }

-- the numbers of a dependency's classes are numbers of classes
abbrev pub IsBetween : List PlainClass → EdgeFact → Type 0
IsBetween classes edge = AreClasses classes edge.from edge.to

-- it is one bit of one of these classes
abbrev pub IsUse : List PlainClass → UsageFact → Type 0
IsUse classes one = IsBitOf classes one.class one.bit
