-- What is written, and what the rest will be, is what the name is.
use Rattle.std.proofs.Common.{◌≡◌, ◌++◌, flat_map, length}
use Rattle.ld_escape.specs.Written.{piece}
use Rattle.ld_escape.proofs.escaping.write_pieces.Given as goal

abbrev pub invariant-loop-byte : goal.invariant-loop-byte
invariant-loop-byte l = l.out.items ++ flat_map (piece l.form l.shown) l.rest ≡ l.fn.out.items ++ flat_map (piece l.form l.shown) l.name

abbrev pub decreases-loop-byte : goal.decreases-loop-byte
decreases-loop-byte l = length l.rest
