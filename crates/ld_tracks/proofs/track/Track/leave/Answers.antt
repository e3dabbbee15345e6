-- Each release is taken, and leaves the locks of the other frames; then the handler holds nothing.
use Rattle.std.proofs.Common.{◌<◌, ◌∙◌, ap, length, subst, sym}
use Rattle.std.proofs.lemmas.Result.{on_ok_weaker}
use Rattle.ld_tracks.specs.Format.{PlainTrack}
use Rattle.ld_tracks.specs.Track.{elsewhere}
use Rattle.ld_tracks.proofs.TrackLemmas.{behind, elsewhere-without, fewer, inner-without, outer-without, writes-then}
use Rattle.ld_tracks.proofs.track.Track.leave.Goals as goal

pub loop-lock-smaller : goal.loop-lock-smaller
loop-lock-smaller c =
    subst (λ (t : PlainTrack). length t.held < length c.loop-lock.self.held) (sym c.in_ok-release.ensures.task)
    (fewer c.in-Some-latest_here.lock c.loop-lock.self c.in-Some-latest_here.ensures.some)

pub loop-lock-preserved : goal.loop-lock-preserved
loop-lock-preserved c = record {
  inner = ap (λ t. t.inner) c.in_ok-release.ensures.task ∙ inner-without c.in-Some-latest_here.lock c.loop-lock.self ∙ c.loop-lock.invariant.inner;
  outer = ap (λ t. t.outer) c.in_ok-release.ensures.task ∙ outer-without c.in-Some-latest_here.lock c.loop-lock.self ∙ c.loop-lock.invariant.outer;
  elsewhere = ap elsewhere c.in_ok-release.ensures.task ∙ elsewhere-without c.in-Some-latest_here.lock c.loop-lock.self ∙ c.loop-lock.invariant.elsewhere;
  taken = writes-then _ _ _ _ _ _ c.loop-lock.invariant.taken c.in_ok-release.ensures.taken;
}

pub returns-clause-task : goal.returns-clause-task
returns-clause-task c =
    on_ok_weaker c.go_out.result
    (λ ends. behind c.args.self.now c.loop-lock.self c.go_out.new.self c.loop-lock.invariant.outer c.loop-lock.invariant.elsewhere c.in_default-latest_here.ensures.none ends)
    c.go_out.ensures.task

pub returns-clause-taken : goal.returns-clause-taken
returns-clause-taken c =
    on_ok_weaker c.go_out.result (writes-then _ _ _ _ _ _ c.loop-lock.invariant.taken) c.go_out.ensures.taken
