use Rattle.std.proofs.Common.{◌≡◌, ◌++◌, codes, flat_map, take}
use Rattle.ld_json.specs.Json.{class_json}
use Rattle.ld_json.proofs.violations.write_classes.Given as goal

abbrev pub invariant-loop-class : goal.invariant-loop-class
invariant-loop-class l = l.out.items ≡ l.initial.out.items ++ flat_map (λ other. codes "," ++ class_json other) (take l.class-index l.others)
