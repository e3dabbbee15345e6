-- What the facts of a trace are, without where they lie in memory.
use Rattle.std.specs.Prelude.{◌≡◌, ◌<◌, ◌≤◌, List, map, length, All, AllPairs}
use Rattle.ld_class.specs.Names.{PlainClass}
use Rattle.ld_trace.specs.Sources.{Fits, PlainSource}
use Rattle.ld_rules.specs.declared.outcome.Outcome.{Outcome}
use Rattle.ld_rules.specs.declared.outcome.TheConstants.{MOST_CLASSES}
use Rattle.ld_tables.specs.declared.edges.EdgeFact.{EdgeFact}
use Rattle.ld_tables.specs.declared.uses.UsageFact.{UsageFact}
use Rattle.ld_rules.specs.Outcome.{outcome}
use Rattle.ld_rules.specs.Dependency.{Dependency, least_line, same_dependency}
use Rattle.ld_rules.specs.Usage.{Use, same_use}
use Rattle.ld_rules.specs.Union.{classes_of, dependencies_of, uses_of}
use Rattle.ld_facts.specs.Named.{IsUse, named_dependency, named_use}

pub record PlainFacts : Type 0 where
  pub source : PlainSource
  pub outcome : Outcome
  pub classes : List PlainClass
  pub edges : List EdgeFact
  pub usage : List UsageFact

-- The source fits. The outcome, the classes in order of first acquisition, no more than a trace may
-- have, and each dependency and each usage bit once, with its least line.
pub record IsKnown (known : PlainFacts) : Type 0 where
  pub fits : Fits known.source
  pub outcome : known.outcome ≡ outcome known.source
  pub classes : known.classes ≡ classes_of known.source
  pub few : length known.classes ≤ MOST_CLASSES
  pub within :
      All (λ e. (e.from < length known.classes) × (e.to < length known.classes)) known.edges
  pub once : AllPairs (λ d e. (d.from ≡ e.from) × (d.to ≡ e.to) → ⊥) known.edges
  pub edges : (what : Dependency)
      → least_line same_dependency (map (named_dependency known.classes) known.edges) what
      ≡ least_line same_dependency (dependencies_of known.source) what
  pub used_within : All (IsUse known.classes) known.usage
  pub used_once : AllPairs (λ u v. (u.class ≡ v.class) × (u.bit ≡ v.bit) → ⊥) known.usage
  pub usage : (what : Use)
      → least_line same_use (map (named_use known.classes) known.usage) what
      ≡ least_line same_use (uses_of known.source) what
