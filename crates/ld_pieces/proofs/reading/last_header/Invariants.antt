use Rattle.std.proofs.Common.{◌≤◌, length}
use Rattle.ld_pieces.proofs.reading.last_header.Given as goal

abbrev pub invariant-lines : goal.invariant-lines
invariant-lines l = l.end ≤ length l.bytes

abbrev pub decreases-lines : goal.decreases-lines
decreases-lines l = l.end
