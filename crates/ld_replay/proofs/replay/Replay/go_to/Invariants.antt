use Rattle.std.proofs.Common.{◌≡◌, ◌≤◌, length}
use Rattle.ld_trace.specs.Sources.{PlainSource}
use Rattle.ld_replay.specs.Inner.Replay.{IsReplayed}
use Rattle.ld_replay.proofs.replay.Replay.go_to.Given as goal

abbrev pub invariant-loop-self : goal.invariant-loop-self
invariant-loop-self l = record {
  bound : l.self.number ≤ l.line;
  replay : (source : PlainSource) → IsReplayed source l.initial.self.number l.initial.self.rest.now l.initial.self.place l.initial.self.tasks
      → IsReplayed source l.self.number l.self.rest.now l.self.place l.self.tasks;
}

abbrev pub decreases-loop-self : goal.decreases-loop-self
decreases-loop-self l = length l.self.rest.now
