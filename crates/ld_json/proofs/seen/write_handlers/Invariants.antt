use Rattle.std.proofs.Common.{◌≡◌, ◌++◌, codes, flat_map, take}
use Rattle.ld_json.specs.Json.{handler_json}
use Rattle.ld_json.proofs.seen.write_handlers.Given as goal

abbrev pub invariant-loop-handler : goal.invariant-loop-handler
invariant-loop-handler l = l.out.items ≡ l.initial.out.items ++ flat_map (λ other. codes "," ++ handler_json other) (take l.handler-index l.others)
