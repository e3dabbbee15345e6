use Rattle.std.proofs.Common.{◌≡◌, ◌++◌, take}
use Rattle.ld_json.specs.Json.{violation_line, numbered}
use Rattle.ld_json.proofs.tables.write_violations.Given as goal

abbrev pub invariant-loop-place : goal.invariant-loop-place
invariant-loop-place l = l.out.items ≡ l.fn.out.items ++ numbered (violation_line l.ends) 0 (take l.place l.all)
