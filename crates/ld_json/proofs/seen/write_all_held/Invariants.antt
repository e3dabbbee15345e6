use Rattle.std.proofs.Common.{◌≡◌, ◌++◌, codes, flat_map, take}
use Rattle.ld_json.specs.Json.{held_json}
use Rattle.ld_json.proofs.seen.write_all_held.Given as goal

abbrev pub invariant-loop-held : goal.invariant-loop-held
invariant-loop-held l = l.out.items ≡ l.initial.out.items ++ flat_map (λ other. codes "," ++ held_json other) (take l.held-index l.others)
