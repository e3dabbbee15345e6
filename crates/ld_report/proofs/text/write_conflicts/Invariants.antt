use Rattle.std.proofs.Common.{◌≡◌, ◌++◌, flat_map, map, take}
use Rattle.ld_book.specs.Findings.{plain_conflict_row}
use Rattle.ld_report.specs.Report.{conflict_line}
use Rattle.ld_report.proofs.text.write_conflicts.Given as goal

abbrev pub invariant-loop-conflict : goal.invariant-loop-conflict
invariant-loop-conflict l = l.text.items ≡ l.fn.text.items ++ flat_map (conflict_line l.traces) (map plain_conflict_row (take l.conflict-index l.conflicts))
