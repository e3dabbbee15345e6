-- What is written so far, with what the rest is said as, is what the whole name is said as.
use Rattle.std.proofs.Common.{◌≡◌, ◌++◌, flat_map, length}
use Rattle.ld_escape.specs.Messages.{said_json}
use Rattle.ld_escape.proofs.messages.write_all_said.Given as goal

abbrev pub invariant-loop-byte : goal.invariant-loop-byte
invariant-loop-byte l =
    l.out.items ++ flat_map (said_json l.shown) l.rest ≡ l.fn.out.items ++ flat_map (said_json l.shown) l.name

abbrev pub decreases-loop-byte : goal.decreases-loop-byte
decreases-loop-byte l = length l.rest
