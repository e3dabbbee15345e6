use Rattle.std.proofs.Common.{◌≡◌, ◌≤◌, length}
use Rattle.ld_trace.specs.Sources.{PlainSource}
use Rattle.ld_replay.specs.Inner.Replay.{IsReading}
use Rattle.ld_replay.proofs.lines.Reading.line.Given as goal

abbrev pub invariant-loop-self : goal.invariant-loop-self
invariant-loop-self l = record {
  bound : l.self.number ≤ l.number;
  reading : (source : PlainSource) → IsReading source l.initial.self → IsReading source l.self;
}

abbrev pub decreases-loop-self : goal.decreases-loop-self
decreases-loop-self l = length l.self.rest.now
