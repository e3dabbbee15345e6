use Rattle.std.proofs.Common.{◌≡◌, ◌≤◌, length, false, drop}
use Rattle.std.specs.List.{list_any}
use Rattle.ld_tracks.specs.Format.{is_at}
use Rattle.ld_tracks.proofs.track.latest_at.Given as goal

abbrev pub invariant-loop-place : goal.invariant-loop-place
invariant-loop-place l = record { within : l.place ≤ length l.held; none_after : list_any (is_at l.depth) (drop l.place l.held) ≡ false }

abbrev pub decreases-loop-place : goal.decreases-loop-place
decreases-loop-place l = l.place
