-- Behind the place none passes, so the first that passes from there is the last.
use Rattle.std.proofs.Common.{sym, ◌∙◌, arith}
use Rattle.ld_trace.specs.Events.{plain_lock}
use Rattle.ld_replay.proofs.LatestLemmas.{last_before, none_before}
use Rattle.ld_cut.specs.Inner.Kept.{is_hold_of}
use Rattle.ld_cut.proofs.task.latest.Goals as goal

pub returns-then-is_same-clause-last : goal.returns-then-is_same-clause-last
returns-then-is_same-clause-last c =
    last_before (is_hold_of (plain_lock c.args.lock)) c.args.held.now c.loop-place.place _ (omega arith) c.loop-place.invariant.within
    (sym c.is_same.ensures ∙ c.if-is_same.true) c.loop-place.invariant.none_after

pub loop-place-preserved : goal.loop-place-preserved
loop-place-preserved c = record {
  within = let within = c.loop-place.invariant.within in omega arith;
  none_after =
      none_before (is_hold_of (plain_lock c.args.lock)) c.args.held.now c.loop-place.place _ (omega arith) c.loop-place.invariant.within
      (sym c.is_same.ensures ∙ c.if-is_same.false) c.loop-place.invariant.none_after;
}
