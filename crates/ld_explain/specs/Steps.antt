-- Where the dependencies of violations stand.
use Rattle.std.specs.Prelude.{◌≡◌, All, List, None, Option, Some, option_map}
use Rattle.ld_trace.specs.declared.event.State.{State}
use Rattle.ld_trace.specs.Sources.{PlainSource}
use Rattle.ld_class.specs.Names.{plain_class}
use Rattle.ld_rules.specs.Union.{dependency_witness}
use Rattle.ld_rows.specs.declared.violations.Kind.{Kind}
use Rattle.ld_explain.specs.declared.violations.Choice.{Choice}
use Rattle.ld_explain.specs.declared.violations.Step.{Step}
use Rattle.ld_explain.specs.declared.violations.Violation.{Violation}

-- a dependency stands where the traces first show it
abbrev pub IsAtFirst : List PlainSource → Step → Type 0
IsAtFirst sources step =
    dependency_witness sources
    (record { from = plain_class step.dependency.from; to = plain_class step.dependency.to })
    ≡ Some step.first

-- the same of each dependency of a circle or walk
abbrev pub AreFirst : List PlainSource → Violation → Type 0
AreFirst sources violation = All (IsAtFirst sources) violation.steps.items

-- every violation is chosen
pub record IsEvery (choice : Choice) : Type 0 where
  pub kind : choice.kind ≡ None
  pub class : choice.class ≡ None

-- the kind of a violation, and the interrupts of a conflict or of a forbidden path
abbrev pub violation_said : Violation → Kind × Option State
violation_said violation = (violation.kind, option_map (λ ends. ends.state) violation.ends)
