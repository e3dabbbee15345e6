use Rattle.std.proofs.Common.{◌≡◌, ◌∙◌, ◌++◌, ap, map, subst, sym}
use Rattle.std.proofs.lemmas.List.Elements.{All-nil}
use Rattle.ld_trace.specs.declared.event.State.TheVariants.{Hard, Soft}
use Rattle.ld_union.specs.Findings.{AreConflictRows, AreCycleRows, AreForbiddenRows, AreOfState, InTurn, IsBefore, IsConflictRow, IsCycleRow, IsForbiddenRow}
use Rattle.ld_union.specs.Findings.{IsHarder, IsPairBefore, PlainForbiddenRow, conflict_key, cycle_key, forbidden_key, plain_conflict_row, plain_cycle_row}
use Rattle.ld_union.specs.Violations.{IsConflict, IsCycle, IsForbidden}
use Rattle.ld_union.proofs.RowLemmas.{rows-absent}
use Rattle.ld_union.proofs.findings.findings_of.Goals as goal

pub returns-then-is_nothing-clause-rows : goal.returns-then-is_nothing-clause-rows
returns-then-is_nothing-clause-rows c sources shows found =
    let nothing = c.is_nothing.ensures c.if-is_nothing.true in
    record {
      cycles =
          subst (AreCycleRows sources) (sym (ap (map plain_cycle_row) (c.from.ensures ∙ c.new.ensures.items)))
          (rows-absent cycle_key (IsCycleRow sources) (λ p. IsCycle sources p.0 p.1) IsPairBefore (λ p. found.cycle nothing.cycle p.0 p.1));
      conflicts =
          subst (AreConflictRows sources) (sym (ap (map plain_conflict_row) (c.from-then-is_nothing.ensures ∙ c.new-then-is_nothing.ensures.items)))
          (rows-absent conflict_key (IsConflictRow sources) (λ p. IsConflict sources p.0 p.1) (InTurn IsHarder IsBefore) (λ p. found.conflict p.0 (nothing.conflict p.0) p.1));
      forbidden =
          subst (AreForbiddenRows sources) (λ k. (sym c.none.ensures) k ++ (sym c.none-then-is_nothing.ensures) k)
          (rows-absent forbidden_key (IsForbiddenRow sources) (λ p. IsForbidden sources p.0 p.1.0 p.1.1) (InTurn IsHarder IsPairBefore) (λ p. found.forbidden p.0 (nothing.forbidden p.0) p.1.0 p.1.1));
    }

pub returns-clause-rows : goal.returns-clause-rows
returns-clause-rows c sources shows found = record {
  cycles =
      subst (AreCycleRows sources) (sym (ap (map plain_cycle_row) c.from-2.ensures))
      (c.in_ok-cycles.ensures sources shows found);
  conflicts = subst (AreConflictRows sources) (sym (ap (map plain_conflict_row) c.from-3.ensures)) (c.in_ok-conflicts.ensures sources shows);
  forbidden = c.in_ok-forbidden.ensures.rows sources shows found;
}

pub returns-then-is_nothing-clause-states : goal.returns-then-is_nothing-clause-states
returns-then-is_nothing-clause-states c = record {
  hard = subst (AreOfState Hard) (sym c.none.ensures) (All-nil (λ (row : PlainForbiddenRow). row.state ≡ Hard));
  soft = subst (AreOfState Soft) (sym c.none-then-is_nothing.ensures) (All-nil (λ (row : PlainForbiddenRow). row.state ≡ Soft));
}

pub returns-clause-states : goal.returns-clause-states
returns-clause-states c = c.in_ok-forbidden.ensures.states
