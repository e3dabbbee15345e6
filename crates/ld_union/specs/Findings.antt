-- Every violation of some traces: which rows there are, what each says, and in which order they stand.
use Rattle.std.specs.Prelude.{◌≡◌, ◌≢◌, ◌⊎◌, ◌<◌, ◌++◌, ℕ, List, [], All, AllPairs, Any, Some, map}
use Rattle.std.specs.Cmp.Lexicographic.{slice_cmp}
use Rattle.std.specs.Ordering.{nat_cmp}
use Rattle.std.specs.declared.cmp.Ordering.TheVariants.{Less}
use Rattle.ld_class.specs.declared.names.ClassName.{ClassName}
use Rattle.ld_class.specs.Names.{PlainClass, plain_class}
use Rattle.ld_class.specs.Usage.{marks_of}
use Rattle.ld_trace.specs.declared.event.State.{State}
use Rattle.ld_trace.specs.declared.event.State.TheVariants.{Hard, Soft}
use Rattle.ld_trace.specs.Sources.{PlainSource}
use Rattle.ld_graph.specs.Walks.{IsShownWalk}
use Rattle.ld_rules.specs.declared.outcome.Witness.{Witness}
use Rattle.ld_rules.specs.Union.{dependency_witness, use_witness}
use Rattle.ld_rules.specs.Usage.Bit.{In, On}
use Rattle.ld_union.specs.declared.findings.conflicts.ConflictRow.{ConflictRow}
use Rattle.ld_union.specs.declared.findings.cycles.CycleRow.{CycleRow}
use Rattle.ld_union.specs.declared.findings.Findings.{Findings}
use Rattle.ld_union.specs.declared.findings.forbidden_rows.ForbiddenRow.{ForbiddenRow}
use Rattle.ld_union.specs.declared.reaches.PerState.{PerState}
use Rattle.ld_union.specs.Alarms.{state_place}
pub use Rattle.ld_union.specs.Forbidden.{PlainForbiddenRow}
use Rattle.ld_union.specs.Usage.{witnessed_bits}
use Rattle.ld_union.specs.Violations.{Depends, IsConflict, IsCycle, IsForbidden}

-- one text comes before another: by the first byte in which they differ, and where one is the start of
-- the other, the shorter one first
abbrev pub IsTextBefore : List ℕ → List ℕ → Type 0
IsTextBefore a b = slice_cmp nat_cmp a b ≡ Less

-- The name of a class comes before another: by their texts, and where these are equal by their
-- subclasses. So `A` comes first, then `A/1`, `A/7` and `A!`, though `!` is less than `/`.
abbrev pub IsBefore : PlainClass → PlainClass → Type 0
IsBefore a b = IsTextBefore a.name b.name ⊎ ((a.name ≡ b.name) × (a.sub < b.sub))

-- hard comes before soft
abbrev pub IsHarder : State → State → Type 0
IsHarder s t = state_place s < state_place t

-- two pairs, by their first parts, and where these are equal by their second ones
abbrev pub InTurn : {A B : Type 0} → (A → A → Type 0) → (B → B → Type 0) → A × B → A × B → Type 0
InTurn first second p q = first p.0 q.0 ⊎ ((p.0 ≡ q.0) × second p.1 q.1)

-- two pairs of names
abbrev pub IsPairBefore : PlainClass × PlainClass → PlainClass × PlainClass → Type 0
IsPairBefore p q = InTurn IsBefore IsBefore p q

-- the shown walk from a to b, which goes on from each class to the least-named of its successors that
-- are one step nearer to b
abbrev pub IsShown : List PlainSource → PlainClass → PlainClass → List PlainClass → Type 0
IsShown sources a b via = IsShownWalk (Depends sources) IsBefore a b via

-- the four usage characters of a class in the union
abbrev pub shown_marks : List PlainSource → PlainClass → List ℕ
shown_marks sources class = marks_of (witnessed_bits (λ bit. use_witness sources (record { class = class; bit = bit })))

-- a dependency on a cycle, where it was first seen, and a walk back from its second class to its first
pub record PlainCycleRow : Type 0 where
  pub from : PlainClass
  pub to : PlainClass
  pub at : Witness
  pub via : List PlainClass

-- a conflict, with the usage of its class, and where each of its two bits was first seen
pub record PlainConflictRow : Type 0 where
  pub state : State
  pub class : PlainClass
  pub marks : List ℕ
  pub safe_at : Witness
  pub unsafe_at : Witness

-- the rows of the three kinds
pub record PlainFindings : Type 0 where
  pub cycles : List PlainCycleRow
  pub conflicts : List PlainConflictRow
  pub forbidden : List PlainForbiddenRow

-- names, without where they lie in memory
abbrev pub plain_names : List ClassName → List PlainClass
plain_names names = map plain_class names

-- a cycle's row
abbrev pub plain_cycle_row : CycleRow → PlainCycleRow
plain_cycle_row row = record {
  from = plain_class row.from;
  to = plain_class row.to;
  at = row.at;
  via = row.via;
}

-- a conflict's row
abbrev pub plain_conflict_row : ConflictRow → PlainConflictRow
plain_conflict_row row = record {
  state = row.state;
  class = plain_class row.class;
  marks = row.marks;
  safe_at = row.safe_at;
  unsafe_at = row.unsafe_at;
}

-- a forbidden walk's row
abbrev pub plain_forbidden_row : ForbiddenRow → PlainForbiddenRow
plain_forbidden_row row = record {
  state = row.state;
  from = plain_class row.from;
  from_marks = row.from_marks;
  safe_at = row.safe_at;
  to = plain_class row.to;
  to_marks = row.to_marks;
  unsafe_at = row.unsafe_at;
  via = row.via;
}

-- the rows of the three kinds; hard forbidden walks come first
abbrev pub plain_findings : Findings → PlainFindings
plain_findings findings = record {
  cycles = map plain_cycle_row findings.cycles;
  conflicts = map plain_conflict_row findings.conflicts;
  forbidden = findings.forbidden.hard ++ findings.forbidden.soft;
}

-- these forbidden walks are all of one state
abbrev pub AreOfState : State → List PlainForbiddenRow → Type 0
AreOfState state rows = All (λ row. row.state ≡ state) rows

-- the forbidden walks of each state are of that state
pub record AreByState (rows : PerState (List PlainForbiddenRow)) : Type 0 where
  pub hard : AreOfState Hard rows.hard
  pub soft : AreOfState Soft rows.soft

-- what a row says of a dependency on a cycle; one of a class on itself shows no walk
pub record IsCycleRow (sources : List PlainSource) (row : PlainCycleRow) : Type 0 where
  pub cycle : IsCycle sources row.from row.to
  pub at : dependency_witness sources (record { from = row.from; to = row.to }) ≡ Some row.at
  pub recursion : row.from ≡ row.to → row.via ≡ []
  pub shown : row.from ≢ row.to → IsShown sources row.to row.from row.via

-- what a row says of a conflict
pub record IsConflictRow (sources : List PlainSource) (row : PlainConflictRow) : Type 0 where
  pub conflict : IsConflict sources row.state row.class
  pub marks : row.marks ≡ shown_marks sources row.class
  pub safe_at : use_witness sources (record { class = row.class; bit = In row.state }) ≡ Some row.safe_at
  pub unsafe_at : use_witness sources (record { class = row.class; bit = On row.state }) ≡ Some row.unsafe_at

-- what a row says of a forbidden walk
pub record IsForbiddenRow (sources : List PlainSource) (row : PlainForbiddenRow) : Type 0 where
  pub forbidden : IsForbidden sources row.state row.from row.to
  pub from_marks : row.from_marks ≡ shown_marks sources row.from
  pub safe_at : use_witness sources (record { class = row.from; bit = In row.state }) ≡ Some row.safe_at
  pub to_marks : row.to_marks ≡ shown_marks sources row.to
  pub unsafe_at : use_witness sources (record { class = row.to; bit = On row.state }) ≡ Some row.unsafe_at
  pub shown : IsShown sources row.from row.to row.via

-- exactly the rows that are owed, each once and in order
pub record AreRows {Row Key : Type 0} (key : Row → Key) (IsRow : Row → Type 0) (IsOwed : Key → Type 0)
    (before : Key → Key → Type 0) (rows : List Row) : Type 0 where
  pub each : All IsRow rows
  pub all : (k : Key) → IsOwed k → Any (λ row. key row ≡ k) rows
  pub ordered : AllPairs (λ r s. before (key r) (key s)) rows

-- what a row is of, by which the rows are ordered
abbrev pub cycle_key : PlainCycleRow → PlainClass × PlainClass
cycle_key row = (row.from, row.to)

abbrev pub conflict_key : PlainConflictRow → State × PlainClass
conflict_key row = (row.state, row.class)

abbrev pub forbidden_key : PlainForbiddenRow → State × (PlainClass × PlainClass)
forbidden_key row = (row.state, (row.from, row.to))

-- the cycles' rows, by the names of the dependency
abbrev pub AreCycleRows : List PlainSource → List PlainCycleRow → Type 0
AreCycleRows sources rows = AreRows cycle_key (IsCycleRow sources) (λ p. IsCycle sources p.0 p.1) IsPairBefore rows

-- the conflicts' rows, by state, then by name
abbrev pub AreConflictRows : List PlainSource → List PlainConflictRow → Type 0
AreConflictRows sources rows =
    AreRows conflict_key (IsConflictRow sources) (λ p. IsConflict sources p.0 p.1) (InTurn IsHarder IsBefore) rows

-- the forbidden walks' rows, by state, then by the names of the ends
abbrev pub AreForbiddenRows : List PlainSource → List PlainForbiddenRow → Type 0
AreForbiddenRows sources rows =
    AreRows forbidden_key (IsForbiddenRow sources) (λ p. IsForbidden sources p.0 p.1.0 p.1.1) (InTurn IsHarder IsPairBefore) rows

-- *Violations*, whole and in the order of the report
pub record AreFindings (sources : List PlainSource) (findings : PlainFindings) : Type 0 where
  pub cycles : AreCycleRows sources findings.cycles
  pub conflicts : AreConflictRows sources findings.conflicts
  pub forbidden : AreForbiddenRows sources findings.forbidden
