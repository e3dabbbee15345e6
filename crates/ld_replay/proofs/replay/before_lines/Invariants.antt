use Rattle.std.proofs.Common.{◌≡◌, map, take}
use Rattle.std.specs.Prelude.{All}
use Rattle.ld_trace.specs.Sources.{plain}
use Rattle.ld_replay.specs.Before.{IsBefore}
use Rattle.ld_replay.specs.Inner.Replay.{IsReplayed}
use Rattle.ld_replay.proofs.replay.before_lines.Given as goal

abbrev pub invariant-loop-line : goal.invariant-loop-line
invariant-loop-line l = record {
  lines : map (λ one. one.0) l.all.items ≡ take l.line-index l.lines;
  before : All (λ one. IsBefore (plain l.source) one.0 one.1) l.all.items;
  replay : IsReplayed (plain l.source) l.replay.number l.replay.rest.now l.replay.place l.replay.tasks;
}
