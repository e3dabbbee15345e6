use Rattle.std.proofs.Common.{◌≡◌, ◌-◌, ◌++◌, drop, take}
use Rattle.ld_report.specs.Report.{steps}
use Rattle.ld_report.proofs.lines.write_steps.Given as goal

-- so far the names before this place are written, but for the first
abbrev pub invariant-loop-place : goal.invariant-loop-place
invariant-loop-place l = l.text.items ≡ l.fn.text.items ++ steps (take (l.place - 1) (drop 1 l.walk))
