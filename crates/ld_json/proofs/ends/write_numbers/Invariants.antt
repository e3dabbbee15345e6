use Rattle.std.proofs.Common.{◌≡◌, ◌++◌, codes, flat_map, take}
use Rattle.std.specs.Prelude.{decimal}
use Rattle.ld_json.proofs.ends.write_numbers.Given as goal

abbrev pub invariant-loop-number : goal.invariant-loop-number
invariant-loop-number l = l.out.items ≡ l.initial.out.items ++ flat_map (λ other. codes "," ++ decimal other) (take l.number-index l.others)
