-- The vectors so far are quiet, and their LFs are counted.
use Rattle.std.proofs.Common.{◌≡◌, ◌≤◌, ◌-◌, count_by, length, take}
use Rattle.ld_trace.specs.Inner.Splitting.{IsQuiet, is_lf}
use Rattle.ld_trace.proofs.others.quiet_front.Given as goal

abbrev pub invariant-loop-len : goal.invariant-loop-len
invariant-loop-len l = record {
  within : l.len ≤ length l.bytes;
  quiet : IsQuiet l.bytes l.len;
  ends : l.ends ≡ count_by is_lf (take l.len l.bytes);
}

abbrev pub decreases-loop-len : goal.decreases-loop-len
decreases-loop-len l = length l.bytes - l.len
