use Rattle.std.proofs.Common.{◌≡◌, ◌≤◌, length, false, map, drop}
use Rattle.std.specs.List.{list_any}
use Rattle.ld_trace.specs.Events.{plain_lock}
use Rattle.ld_tables.specs.Inner.Stacks.{holds, plain_held}
use Rattle.ld_tables.proofs.held.latest.Given as goal

abbrev pub invariant-loop-place : goal.invariant-loop-place
invariant-loop-place l = record { within : l.place ≤ length l.stack; none_after : list_any (holds (plain_lock l.lock)) (drop l.place (map plain_held l.stack)) ≡ false }

abbrev pub decreases-loop-place : goal.decreases-loop-place
decreases-loop-place l = l.place
