use Rattle.std.proofs.Common.{◌≡◌, ◌++◌, flat_map, take}
use Rattle.ld_json.specs.Json.{refused_line}
use Rattle.ld_json.proofs.tables.write_all_refused.Given as goal

abbrev pub invariant-loop-refused : goal.invariant-loop-refused
invariant-loop-refused l = l.out.items ≡ l.fn.out.items ++ flat_map refused_line (take l.refused-index l.all)
