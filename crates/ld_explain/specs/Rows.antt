-- What the rows of a report say, and what they stand on.
use Rattle.std.specs.Prelude.{◌≡◌, ◌++◌, ℕ, List, [], ◌∷◌, All, Option, None, Some, flat_map, if◌then◌else◌, map}
use Rattle.std.specs.List.Sorted.{IsPermutation}
use Rattle.ld_trace.specs.Sources.{PlainSource}
use Rattle.ld_class.specs.Names.{PlainClass, same_class}
use Rattle.ld_trace.specs.declared.event.State.{State}
use Rattle.ld_rules.specs.declared.outcome.Outcome.{Outcome}
use Rattle.ld_rules.specs.declared.outcome.Outcome.TheVariants.{Read, Refused}
use Rattle.ld_rules.specs.declared.outcome.Witness.{Witness}
use Rattle.ld_rules.specs.Outcome.{name_of, outcome}
use Rattle.ld_rules.specs.Union.{dependency_witness}
use Rattle.ld_batch.specs.Batch.{AreRising}
use Rattle.ld_overview.specs.OfBook.declared.listing.Totals.{Totals as BookTotals}
use Rattle.ld_overview.specs.OfBook.Findings.{AreFindings, PlainCycleRow, PlainFindings}
use Rattle.ld_rows.specs.declared.classes.Class.{Class}
use Rattle.ld_rows.specs.declared.violations.Dependency.{Dependency}
use Rattle.ld_rows.specs.declared.violations.Kind.{Kind}
use Rattle.ld_rows.specs.declared.violations.Kind.TheVariants.{Recursion, Inversion, Conflict, Forbidden}
use Rattle.ld_rows.specs.declared.violations.Refused.{Refused as RefusedRow}
use Rattle.ld_rows.specs.declared.violations.Totals.{Totals}
use Rattle.ld_rows.specs.declared.violations.Violation.{Violation}

-- the totals of a book as a row
abbrev pub totals_row : BookTotals → Totals
totals_row t = record {
  traces = t.traces;
  refused = t.refused;
  events = t.events;
  classes = t.classes;
  dependencies = t.dependencies;
}

-- why a trace with this outcome is refused: its faulty line, and the name of the fault; nothing if it is read
abbrev pub refusal_of : Outcome → List (ℕ × List ℕ)
refusal_of (Read count) = []
refusal_of (Refused line fault) = (line, name_of fault) ∷ []

-- the same of each of these traces, in turn
abbrev pub refusals : List PlainSource → List (ℕ × List ℕ)
refusals sources = flat_map (λ source. refusal_of (outcome source)) sources

-- what a row says of a refused trace: its faulty line, and the name of the fault
abbrev pub refusal_said : RefusedRow → ℕ × List ℕ
refusal_said row = (row.line.at.line, row.fault.now)

-- these are the refused ones of the traces, in the order of a report: by the numbers of the traces
abbrev pub AreRefusals : List PlainSource → List (ℕ × List ℕ) → Type 0
AreRefusals sources said = (traces : List PlainSource) × (IsPermutation sources traces × AreRising traces × (said ≡ refusals traces))

-- a class of a row
abbrev pub class_of_row : Class → PlainClass
class_of_row class = record { name = class.name.now; sub = class.sub }

-- a row of a dependency has the line at which the traces first show it
abbrev pub IsFirstRow : List PlainSource → Dependency → Type 0
IsFirstRow sources row = (at : Witness) × (
    (dependency_witness sources (record { from = class_of_row row.from; to = class_of_row row.to }) ≡ Some at)
    × (at.line ≡ row.seen.line.at.line))

-- a dependency on a cycle is a recursion if it is of a class on itself
abbrev pub cycle_kind : PlainCycleRow → Kind
cycle_kind row = if same_class row.from row.to then Recursion else Inversion

-- its kind, and no interrupts
abbrev pub cycle_said : PlainCycleRow → Kind × Option State
cycle_said row = (cycle_kind row, None)

-- of each violation, in the order of a report: its kind, and the interrupts of a conflict or of a forbidden path
abbrev pub findings_said : PlainFindings → List (Kind × Option State)
findings_said findings =
    map cycle_said findings.cycles
    ++ map (λ row. (Conflict, Some row.state)) findings.conflicts
    ++ map (λ row. (Forbidden, Some row.state)) findings.forbidden

-- the same of a row
abbrev pub row_said : Violation → Kind × Option State
row_said row = (row.kind, row.state)

-- these are the violations of the traces, each once and in the order of a report
abbrev pub AreViolations : List PlainSource → List (Kind × Option State) → Type 0
AreViolations sources said = (findings : PlainFindings) × (AreFindings sources findings × (said ≡ findings_said findings))
