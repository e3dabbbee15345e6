-- Behind the place none passes, so the first that passes from there is the last.
use Rattle.std.proofs.Common.{sym, ◌∙◌, ◌-◌, arith}
use Rattle.std.proofs.lemmas.List.Folds.{list_any_at}
use Rattle.ld_tracks.specs.Format.{is_of}
use Rattle.ld_tracks.proofs.LatestLemmas.{last_before, none_before}
use Rattle.ld_tracks.proofs.track.latest.Goals as goal

pub returns-then-is_of-clause-last : goal.returns-then-is_of-clause-last
returns-then-is_of-clause-last c =
    last_before (is_of c.args.depth c.args.lock) c.args.held.now c.loop-place.place _ (omega arith) c.loop-place.invariant.within
    (sym c.is_of.ensures ∙ c.if-is_of.true) c.loop-place.invariant.none_after

pub returns-then-is_of-clause-one : goal.returns-then-is_of-clause-one
returns-then-is_of-clause-one c =
    let within = c.loop-place.invariant.within in
    list_any_at (is_of c.args.depth c.args.lock) c.args.held.now (c.loop-place.place - 1) _ (omega arith)
    (sym c.is_of.ensures ∙ c.if-is_of.true)

pub loop-place-preserved : goal.loop-place-preserved
loop-place-preserved c = record {
  within = let within = c.loop-place.invariant.within in omega arith;
  none_after =
      none_before (is_of c.args.depth c.args.lock) c.args.held.now c.loop-place.place _ (omega arith) c.loop-place.invariant.within
      (sym c.is_of.ensures ∙ c.if-is_of.false) c.loop-place.invariant.none_after;
}
