-- The lines so far may stand there.
use Rattle.std.proofs.Common.{◌≡◌, ◌+◌, ◌≤◌, length, not}
use Rattle.std.specs.List.{position_or_len}
use Rattle.ld_trace.specs.Lines.{lines}
use Rattle.ld_baseline.specs.Known.{may_stand}
use Rattle.ld_baseline.proofs.known.unknown_line.Given as goal

abbrev pub invariant-loop-line : goal.invariant-loop-line
invariant-loop-line l = record {
  first : position_or_len (λ line. not (may_stand line)) (lines l.known) ≡ l.count + position_or_len (λ line. not (may_stand line)) (lines l.rest);
  count : length (lines l.known) ≡ l.count + length (lines l.rest);
  within : l.count + length l.rest ≤ length l.known;
}

abbrev pub decreases-loop-line : goal.decreases-loop-line
decreases-loop-line l = length l.rest
