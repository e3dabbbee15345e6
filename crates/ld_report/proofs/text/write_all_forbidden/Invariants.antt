use Rattle.std.proofs.Common.{◌≡◌, ◌++◌, IfSome, flat_map, take}
use Rattle.ld_book.specs.Findings.{plain_forbidden_row}
use Rattle.ld_report.specs.Inner.Begin.{forbidden_begin}
use Rattle.ld_report.specs.Report.{forbidden_line}
use Rattle.ld_report.proofs.text.write_all_forbidden.Given as goal

abbrev pub invariant-loop-place : goal.invariant-loop-place
invariant-loop-place l =
    (l.text.items ≡ l.fn.text.items ++ flat_map (forbidden_line l.traces) (take l.place l.walks))
    × IfSome l.before (λ other. l.begin.items ≡ forbidden_begin l.traces (plain_forbidden_row other))
