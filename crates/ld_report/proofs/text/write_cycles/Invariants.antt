use Rattle.std.proofs.Common.{◌≡◌, ◌++◌, flat_map, map, take}
use Rattle.ld_book.specs.Findings.{plain_cycle_row}
use Rattle.ld_report.specs.Report.{cycle_line}
use Rattle.ld_report.proofs.text.write_cycles.Given as goal

abbrev pub invariant-loop-cycle : goal.invariant-loop-cycle
invariant-loop-cycle l = l.text.items ≡ l.fn.text.items ++ flat_map (cycle_line l.traces) (map plain_cycle_row (take l.cycle-index l.cycles))
