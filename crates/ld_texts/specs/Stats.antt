-- The text of `stats`: a line for each figure. This leaves open the events of each verb, `chains`, `depth`, and all
-- `cyclic-components` lines.
use Rattle.std.specs.Prelude.{◌≡◌, ◌+◌, ◌==◌, ℕ, Bool, false, not, List, [], ◌∷◌, ◌++◌, filter, flat_map, length, map, codes, decimal}
use Rattle.std.specs.Option.{is_some}
use Rattle.std.specs.Str.{bytes_eq}
use Rattle.ld_class.specs.Names.{same_class}
use Rattle.ld_counts.specs.declared.counted.Verbs.{Verbs}
use Rattle.ld_overview.specs.OfBook.Findings.{AreFindings, PlainConflictRow, PlainCycleRow, PlainFindings, PlainForbiddenRow}
use Rattle.ld_overview.specs.OfBook.Totals.{event_count, refused_count}
use Rattle.ld_rules.specs.Flags.{same_state}
use Rattle.ld_rules.specs.Outcome.{name_of, outcome}
use Rattle.ld_rules.specs.Union.{union_classes, union_dependencies, use_witness}
use Rattle.ld_rules.specs.Usage.{Bit}
use Rattle.ld_rules.specs.Usage.Bit.{In, On}
use Rattle.ld_rules.specs.declared.fault.TraceFault.{TraceFault}
use Rattle.ld_rules.specs.declared.fault.TraceFault.TheVariants as faults
use Rattle.ld_rules.specs.declared.outcome.Outcome.{Outcome}
use Rattle.ld_rules.specs.declared.outcome.Outcome.TheVariants.{Read, Refused}
use Rattle.ld_texts.specs.declared.shape.SizeCount.{SizeCount}
use Rattle.ld_trace.specs.Sources.{PlainSource}
use Rattle.ld_trace.specs.declared.event.State.{State}
use Rattle.ld_trace.specs.declared.event.State.TheVariants.{Hard, Soft}

-- `NAME FIGURE`
abbrev pub figure_line : List ℕ × ℕ → List ℕ
figure_line figure = figure.0 ++ codes " " ++ decimal figure.1 ++ codes "\n"

-- a line for each name and its figure
abbrev pub figure_lines : List (List ℕ × ℕ) → List ℕ
figure_lines figures = flat_map figure_line figures

-- every fault of a trace, in the order of the text
abbrev pub every_fault : List TraceFault
every_fault =
    faults.BadVerb ∷ faults.BadCount ∷ faults.BadName ∷ faults.BadState ∷ faults.TooManyTasks ∷ faults.TooManyClasses
    ∷ faults.TooDeep ∷ faults.NotHeld ∷ faults.BadNest ∷ faults.Masked ∷ faults.BadExit ∷ faults.HeldAtExit ∷ faults.BadEnable
    ∷ faults.LateBegin ∷ []

-- a trace was rejected for the fault of this name
abbrev pub is_refused_for : List ℕ → Outcome → Bool
is_refused_for name (Read count) = false
is_refused_for name (Refused line fault) = bytes_eq (name_of fault) name

-- how many traces were rejected for this fault
abbrev pub refused_for : List PlainSource → TraceFault → ℕ
refused_for sources fault = length (filter (λ source. is_refused_for (name_of fault) (outcome source)) sources)

-- traces, rejected ones, and those of each fault
abbrev pub of_traces : List PlainSource → List (List ℕ × ℕ)
of_traces sources =
    (codes "traces", length sources)
    ∷ (codes "refused", refused_count sources)
    ∷ map (λ fault. (codes "refused-" ++ name_of fault, refused_for sources fault)) every_fault

-- events of the accepted traces, and those of each verb
abbrev pub of_events : List PlainSource → Verbs → List (List ℕ × ℕ)
of_events sources verbs =
    (codes "events", event_count sources)
    ∷ (codes "events-acquire", verbs.acquire)
    ∷ (codes "events-nested", verbs.nested)
    ∷ (codes "events-try", verbs.tries)
    ∷ (codes "events-release", verbs.release)
    ∷ (codes "events-enter", verbs.enter)
    ∷ (codes "events-exit", verbs.exit)
    ∷ (codes "events-enable", verbs.enable)
    ∷ (codes "events-disable", verbs.disable)
    ∷ (codes "events-begin", verbs.begin)
    ∷ []

-- how many classes have this usage bit
abbrev pub classes_with : List PlainSource → Bit → ℕ
classes_with sources bit = length (filter (λ class. is_some (use_witness sources (record { class = class; bit = bit }))) (union_classes sources))

-- classes, those that are subclasses, and those with each usage bit
abbrev pub of_classes : List PlainSource → List (List ℕ × ℕ)
of_classes sources =
    (codes "classes", length (union_classes sources))
    ∷ (codes "subclasses", length (filter (λ class. not (class.sub == 0)) (union_classes sources)))
    ∷ (codes "classes-in-hard", classes_with sources (In Hard))
    ∷ (codes "classes-on-hard", classes_with sources (On Hard))
    ∷ (codes "classes-in-soft", classes_with sources (In Soft))
    ∷ (codes "classes-on-soft", classes_with sources (On Soft))
    ∷ []

-- dependencies, and what is counted of held locks
abbrev pub of_dependencies : List PlainSource → ℕ → ℕ → List (List ℕ × ℕ)
of_dependencies sources chains depth =
    (codes "dependencies", length (union_dependencies sources)) ∷ (codes "chains", chains) ∷ (codes "depth", depth) ∷ []

-- cyclic components, and those of each number of classes
abbrev pub of_components : ℕ → List SizeCount → List (List ℕ × ℕ)
of_components cyclic parts =
    (codes "cyclic-components", cyclic)
    ∷ map (λ part. (codes "cyclic-components-of-" ++ decimal part.classes, part.count)) parts

-- a dependency of a class on itself
abbrev pub is_recursion : PlainCycleRow → Bool
is_recursion row = same_class row.from row.to

-- how many conflicts are of this state
abbrev pub conflicts_of : State → List PlainConflictRow → ℕ
conflicts_of state rows = length (filter (λ row. same_state state row.state) rows)

-- how many forbidden paths are of this state
abbrev pub forbidden_of : State → List PlainForbiddenRow → ℕ
forbidden_of state rows = length (filter (λ row. same_state state row.state) rows)

-- violations, and those of each kind and state
abbrev pub of_violations : PlainFindings → List (List ℕ × ℕ)
of_violations found =
    (codes "violations", length found.cycles + length found.conflicts + length found.forbidden)
    ∷ (codes "recursions", length (filter is_recursion found.cycles))
    ∷ (codes "inversions", length (filter (λ row. not (is_recursion row)) found.cycles))
    ∷ (codes "conflicts-hard", conflicts_of Hard found.conflicts)
    ∷ (codes "conflicts-soft", conflicts_of Soft found.conflicts)
    ∷ (codes "forbidden-hard", forbidden_of Hard found.forbidden)
    ∷ (codes "forbidden-soft", forbidden_of Soft found.forbidden)
    ∷ []

-- The text gives the figures of these traces, which were read from so many files. The first five fields may have any
-- value.
pub record IsStats (sources : List PlainSource) (files : ℕ) (text : List ℕ) : Type 0 where
  pub verbs : Verbs
  pub chains : ℕ
  pub depth : ℕ
  pub cyclic : ℕ
  pub parts : List SizeCount
  -- every violation
  pub found : PlainFindings
  pub are : AreFindings sources found
  pub lines :
      text ≡ figure_lines ((codes "files", files)
      ∷ of_traces sources
      ++ of_events sources verbs
      ++ of_classes sources
      ++ of_dependencies sources chains depth
      ++ of_components cyclic parts
      ++ of_violations found)
