-- Each line that is passed takes the tasks one position further.
use Rattle.std.proofs.Common.{◌≡◌, ap, length, arith, length-append}
use Rattle.ld_replay.proofs.replay.Replay.go_to.Goals as goal

pub loop-self-smaller : goal.loop-self-smaller
loop-self-smaller c =
    let first = c.in-Some.ensures in
    omega (arith, ap length first.whole, length-append first.line c.in-Some.others.now, first.nonempty, ap length c.in_ok-pass.ensures.rest)

pub loop-self-preserved : goal.loop-self-preserved
loop-self-preserved c = record {
  bound = omega (arith, c.in_ok-pass.ensures.number, c.loop-self-test.true);
  replay = λ source is. c.in_ok-pass.ensures.replay source c.in-Some.ensures (c.loop-self.invariant.replay source is);
}
