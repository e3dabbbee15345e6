use Rattle.std.proofs.Common.{◌≡◌, ◌≤◌, ◌++◌, ◌∙◌, List, Option, Some, ap, append_assoc, length, map, subst, sym, take}
use Rattle.std.proofs.lemmas.List.{map-append, take_all}
use Rattle.ld_trace.specs.declared.event.State.{State}
use Rattle.ld_overview.specs.OfBook.Findings.{PlainConflictRow, PlainForbiddenRow, plain_conflict_row, plain_cycle_row}
use Rattle.ld_overview.specs.OfBook.OfUnion.declared.findings.conflicts.ConflictRow.{ConflictRow}
use Rattle.ld_rows.specs.declared.violations.Kind.{Kind}
use Rattle.ld_rows.specs.declared.violations.Kind.TheVariants.{Conflict, Forbidden}
use Rattle.ld_explain.specs.Rows.{cycle_said}
use Rattle.ld_explain.specs.Steps.{violation_said}
use Rattle.ld_explain.proofs.violations.chosen_of.Goals as goal

pub returns-clause-every : goal.returns-clause-every
returns-clause-every c every =
    let findings = c.args.findings.now in
    let cycles = map cycle_said (map plain_cycle_row findings.cycles) in
    let conflict_said : PlainConflictRow → Kind × Option State = λ row. (Conflict, Some row.state) in
    let conflicts = map conflict_said (map plain_conflict_row findings.conflicts) in
    let said : PlainForbiddenRow → Kind × Option State = λ row. (Forbidden, Some row.state) in
    let hard = map said findings.forbidden.hard in
    let soft = map said findings.forbidden.soft in
    let all_rows : take c.loop-row-2.row-index findings.conflicts ≡ findings.conflicts =
    take_all c.loop-row-2.row-index findings.conflicts (subst (λ (rows : List ConflictRow). length rows ≤ c.loop-row-2.row-index) c.items-row-items-2.ensures c.loop-row-2-test.false) in
    let before : map violation_said c.loop-row-2.all.items ≡ cycles ++ conflicts =
    c.loop-row-2.invariant.every every ∙ ap (λ (rows : List ConflictRow). cycles ++ map conflict_said (map plain_conflict_row rows)) all_rows in
    c.in_ok-add_forbidden-2.ensures.every every
    ∙ ap (λ (all : List (Kind × Option State)). all ++ soft) (c.in_ok-add_forbidden.ensures.every every ∙ ap (λ (all : List (Kind × Option State)). all ++ hard) before)
    ∙ append_assoc (cycles ++ conflicts) hard soft
    ∙ ap (λ (all : List (Kind × Option State)). cycles ++ conflicts ++ all) (sym (map-append said findings.forbidden.hard findings.forbidden.soft))
