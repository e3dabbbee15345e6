-- Behind the place none passes, so the first that passes from there is the last.
use Rattle.std.proofs.Common.{◌-◌, sym, ◌∙◌, arith}
use Rattle.ld_tracks.specs.Format.{is_at}
use Rattle.ld_tracks.proofs.LatestLemmas.{none_before}
use Rattle.ld_tracks.proofs.TrackLemmas.{found}
use Rattle.ld_tracks.proofs.track.latest_at.Goals as goal

pub returns-then-is_at-clause-some : goal.returns-then-is_at-clause-some
returns-then-is_at-clause-some c =
    let within = c.loop-place.invariant.within in
    found c.args.depth c.args.held.now (c.loop-place.place - 1) (omega arith) (sym c.is_at.ensures ∙ c.if-is_at.true)

pub loop-place-preserved : goal.loop-place-preserved
loop-place-preserved c = record {
  within = let within = c.loop-place.invariant.within in omega arith;
  none_after =
      none_before (is_at c.args.depth) c.args.held.now c.loop-place.place _ (omega arith) c.loop-place.invariant.within
      (sym c.is_at.ensures ∙ c.if-is_at.false) c.loop-place.invariant.none_after;
}
