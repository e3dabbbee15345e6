use Rattle.std.proofs.Common.{◌≡◌, ◌≤◌, length, false, drop}
use Rattle.std.specs.List.{list_any}
use Rattle.ld_trace.specs.Events.{plain_lock}
use Rattle.ld_replay.specs.Inner.Task.{is_under}
use Rattle.ld_replay.proofs.task.latest.Given as goal

abbrev pub invariant-loop-place : goal.invariant-loop-place
invariant-loop-place l = record { within : l.place ≤ length l.holds; none_after : list_any (is_under l.frame (plain_lock l.lock)) (drop l.place l.holds) ≡ false }

abbrev pub decreases-loop-place : goal.decreases-loop-place
decreases-loop-place l = l.place
