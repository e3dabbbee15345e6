use Rattle.std.proofs.Common.{◌≡◌, ◌++◌, take}
use Rattle.ld_json.specs.Json.{dependency_line, numbered}
use Rattle.ld_json.proofs.tables.write_dependencies.Given as goal

abbrev pub invariant-loop-place : goal.invariant-loop-place
invariant-loop-place l = l.out.items ≡ l.fn.out.items ++ numbered dependency_line 0 (take l.place l.all)
