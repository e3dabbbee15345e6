-- No acquisition of the lock stands behind the place.
use Rattle.std.proofs.Common.{◌≡◌, ◌≤◌, length, false, drop}
use Rattle.std.specs.List.{list_any}
use Rattle.ld_trace.specs.Events.{plain_lock}
use Rattle.ld_cut.specs.Inner.Kept.{is_hold_of}
use Rattle.ld_cut.proofs.task.latest.Given as goal

abbrev pub invariant-loop-place : goal.invariant-loop-place
invariant-loop-place l = record { within : l.place ≤ length l.held; none_after : list_any (is_hold_of (plain_lock l.lock)) (drop l.place l.held) ≡ false }

abbrev pub decreases-loop-place : goal.decreases-loop-place
decreases-loop-place l = l.place
