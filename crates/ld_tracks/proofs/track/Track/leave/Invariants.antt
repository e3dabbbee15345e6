use Rattle.std.proofs.Common.{◌≡◌, length}
use Rattle.ld_tracks.specs.Format.{Writes}
use Rattle.ld_tracks.specs.Track.{elsewhere}
use Rattle.ld_tracks.proofs.track.Track.leave.Given as goal

abbrev pub invariant-loop-lock : goal.invariant-loop-lock
invariant-loop-lock l = record {
  inner : l.self.inner ≡ l.initial.self.inner;
  outer : l.self.outer ≡ l.initial.self.outer;
  elsewhere : elsewhere l.self ≡ elsewhere l.initial.self;
  taken : Writes l.initial.self l.initial.lines.items l.self l.lines.items;
}

abbrev pub decreases-loop-lock : goal.decreases-loop-lock
decreases-loop-lock l = length l.self.held
