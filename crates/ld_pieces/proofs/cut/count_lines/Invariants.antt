-- Those that were counted, and those that are left.
use Rattle.std.proofs.Common.{◌≡◌, ◌≤◌, ◌+◌, count_by, length}
use Rattle.ld_trace.specs.Inner.Splitting.{is_lf}
use Rattle.ld_pieces.proofs.cut.count_lines.Given as goal

abbrev pub invariant-loop-at : goal.invariant-loop-at
invariant-loop-at l = record {
  count : l.count + count_by is_lf l.rest ≡ count_by is_lf l.bytes;
  few : l.count + length l.rest ≤ length l.bytes;
}

abbrev pub decreases-loop-at : goal.decreases-loop-at
decreases-loop-at l = length l.rest
