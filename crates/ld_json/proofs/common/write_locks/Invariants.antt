use Rattle.std.proofs.Common.{◌≡◌, ◌++◌, codes, flat_map, take}
use Rattle.ld_json.specs.Json.{common_lock_json}
use Rattle.ld_json.proofs.common.write_locks.Given as goal

abbrev pub invariant-loop-lock : goal.invariant-loop-lock
invariant-loop-lock l = l.out.items ≡ l.initial.out.items ++ flat_map (λ other. codes "," ++ common_lock_json other) (take l.lock-index l.others)
