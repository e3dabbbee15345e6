-- The bytes so far stand as they are.
use Rattle.std.proofs.Common.{◌≡◌, flat_map, take}
use Rattle.ld_escape.specs.Written.{piece}
use Rattle.ld_escape.proofs.escaping.plain_len.Given as goal

abbrev pub invariant-loop-count : goal.invariant-loop-count
invariant-loop-count l = flat_map (piece l.form l.shown) (take l.count l.name) ≡ take l.count l.name
