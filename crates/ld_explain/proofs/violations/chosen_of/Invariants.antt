use Rattle.std.specs.Prelude.{◌≡◌, ◌++◌, All, Some, map, take}
use Rattle.ld_overview.specs.OfBook.Findings.{plain_cycle_row, plain_conflict_row}
use Rattle.ld_rows.specs.declared.violations.Kind.TheVariants.{Conflict}
use Rattle.ld_explain.specs.Rows.{cycle_said}
use Rattle.ld_explain.specs.Steps.{AreFirst, IsEvery, violation_said}
use Rattle.ld_explain.proofs.violations.chosen_of.Given as goal

abbrev pub invariant-loop-row : goal.invariant-loop-row
invariant-loop-row l = record {
  first : All (AreFirst l.book) l.all.items;
  every : IsEvery l.choice → map violation_said l.all.items ≡ map cycle_said (map plain_cycle_row (take l.row-index l.findings.cycles));
}

abbrev pub invariant-loop-row-2 : goal.invariant-loop-row-2
invariant-loop-row-2 l = record {
  first : All (AreFirst l.book) l.all.items;
  every : IsEvery l.choice → map violation_said l.all.items ≡
      map cycle_said (map plain_cycle_row l.findings.cycles)
      ++ map (λ row. (Conflict, Some row.state)) (map plain_conflict_row (take l.row-index l.findings.conflicts));
}
