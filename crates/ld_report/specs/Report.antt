-- *Report text*. Each line ends with LF.
use Rattle.std.specs.Prelude.{◌≡◌, ℕ, ◌+◌, ◌==◌, List, [], ◌∷◌, ◌++◌, length, flat_map, codes, decimal, if◌then◌else◌}
use Rattle.std.specs.List.Sorted.{IsPermutation}
use Rattle.ld_class.specs.Names.{PlainClass, same_class}
use Rattle.ld_trace.specs.declared.event.State.{State}
use Rattle.ld_trace.specs.declared.event.State.TheVariants.{Hard, Soft}
use Rattle.ld_trace.specs.Sources.{PlainSource}
use Rattle.ld_rules.specs.declared.outcome.Outcome.{Outcome}
use Rattle.ld_rules.specs.declared.outcome.Outcome.TheVariants.{Read, Refused}
use Rattle.ld_rules.specs.declared.outcome.Witness.{Witness}
use Rattle.ld_rules.specs.Outcome.{name_of, outcome}
use Rattle.ld_book.specs.declared.listing.Totals.{Totals}
use Rattle.ld_book.specs.Findings.{AreFindings, PlainConflictRow, PlainCycleRow, PlainFindings, PlainForbiddenRow}
use Rattle.ld_book.specs.Totals.{totals}
use Rattle.ld_batch.specs.Batch.{AreRising}

-- group 1: `traces N refused R events E classes C dependencies D`
abbrev pub summary_line : Totals → List ℕ
summary_line t =
    codes "traces " ++ decimal t.traces
    ++ codes " refused " ++ decimal t.refused
    ++ codes " events " ++ decimal t.events
    ++ codes " classes " ++ decimal t.classes
    ++ codes " dependencies " ++ decimal t.dependencies
    ++ codes "\n"

-- of group 2, what stands for a source with this outcome: `refused T line L FAULT`, where it is
-- refused
abbrev pub refused_line : List ℕ → Outcome → List ℕ
refused_line label (Read count) = []
refused_line label (Refused line fault) =
    codes "refused " ++ label ++ codes " line " ++ decimal line ++ codes " " ++ name_of fault ++ codes "\n"

-- group 2: one line for each refused source, in order
abbrev pub refused_lines : List PlainSource → List ℕ
refused_lines sources = flat_map (λ source. refused_line source.label (outcome source)) sources

-- the label of the source that has this number, the first if there are several
abbrev pub label_of_number : List PlainSource → ℕ → List ℕ
label_of_number [] number = []
label_of_number (source ∷ others) number = if source.number == number then source.label else label_of_number others number

-- where something was seen: `T:L`
abbrev pub place : List PlainSource → Witness → List ℕ
place sources at = label_of_number sources at.number ++ codes ":" ++ decimal at.line

-- the name of a class: `A`, and `A/N` of its subclass N
abbrev pub class_text : PlainClass → List ℕ
class_text class = class.name ++ (if class.sub == 0 then [] else codes "/" ++ decimal class.sub)

-- names behind others, each with ` -> ` before it
abbrev pub steps : List PlainClass → List ℕ
steps names = flat_map (λ name. codes " -> " ++ class_text name) names

-- the names of a walk: `A -> .. -> B`
abbrev pub walk : List PlainClass → List ℕ
walk [] = []
walk (first ∷ others) = class_text first ++ steps others

-- the walk that ends a line
abbrev pub via : List PlainClass → List ℕ
via names = codes " via " ++ walk names ++ codes "\n"

-- `hard` or `soft`
abbrev pub state_name : State → List ℕ
state_name Hard = codes "hard"
state_name Soft = codes "soft"

-- a class with its usage characters: `A {?.+.}`
abbrev pub marked : PlainClass → List ℕ → List ℕ
marked class marks = class_text class ++ codes " {" ++ marks ++ codes "}"

-- `recursion A at T:L`
abbrev pub recursion_line : List PlainSource → PlainCycleRow → List ℕ
recursion_line sources row =
    codes "recursion " ++ class_text row.from ++ codes " at " ++ place sources row.at ++ codes "\n"

-- `inversion A -> B at T:L via B -> .. -> A`
abbrev pub inversion_line : List PlainSource → PlainCycleRow → List ℕ
inversion_line sources row =
    codes "inversion " ++ class_text row.from ++ codes " -> " ++ class_text row.to ++ codes " at " ++ place sources row.at
    ++ via row.via

-- a line of group 3: a recursion where the two classes are equal, else an inversion
abbrev pub cycle_line : List PlainSource → PlainCycleRow → List ℕ
cycle_line sources row =
    if same_class row.from row.to then recursion_line sources row else inversion_line sources row

-- a line of group 4: `conflict hard A {?.+.} in T:L on T:L`
abbrev pub conflict_line : List PlainSource → PlainConflictRow → List ℕ
conflict_line sources row =
    codes "conflict " ++ state_name row.state ++ codes " " ++ marked row.class row.marks
    ++ codes " in " ++ place sources row.safe_at ++ codes " on " ++ place sources row.unsafe_at ++ codes "\n"

-- a line of group 5: `forbidden hard A {-...} in T:L -> B {+.+.} on T:L via A -> .. -> B`
abbrev pub forbidden_line : List PlainSource → PlainForbiddenRow → List ℕ
forbidden_line sources row =
    codes "forbidden " ++ state_name row.state ++ codes " " ++ marked row.from row.from_marks
    ++ codes " in " ++ place sources row.safe_at
    ++ codes " -> " ++ marked row.to row.to_marks ++ codes " on " ++ place sources row.unsafe_at
    ++ via row.via

-- the groups 3, 4 and 5: one line for each row, in order
abbrev pub violation_lines : List PlainSource → PlainFindings → List ℕ
violation_lines sources findings =
    flat_map (cycle_line sources) findings.cycles
    ++ flat_map (conflict_line sources) findings.conflicts
    ++ flat_map (forbidden_line sources) findings.forbidden

-- how many lines these groups have
abbrev pub violations : PlainFindings → ℕ
violations findings = length findings.cycles + length findings.conflicts + length findings.forbidden

-- group 6: `clean` where there are none, else `violations K`
abbrev pub last_line : ℕ → List ℕ
last_line count = if count == 0 then codes "clean\n" else codes "violations " ++ decimal count ++ codes "\n"

-- the lines of the report of sources, with the same sources in the order of their numbers, and with
-- what is found in them
abbrev pub report_text : (sources in_order : List PlainSource) → PlainFindings → List ℕ
report_text sources in_order findings =
    summary_line (totals sources) ++ refused_lines in_order ++ violation_lines in_order findings
    ++ last_line (violations findings)

-- This is the report of these sources, which may stand in any order.
pub record IsReport (sources : List PlainSource) (text : List ℕ) : Type 0 where
  pub in_order : List PlainSource
  pub same : IsPermutation sources in_order
  pub rising : AreRising in_order
  pub findings : PlainFindings
  pub found : AreFindings sources findings
  pub lines : text ≡ report_text sources in_order findings

-- the last line of the text is `clean`
abbrev pub SaysClean : List ℕ → Type 0
SaysClean text = (before : List ℕ) × (text ≡ before ++ codes "\nclean\n")
