use Rattle.std.proofs.Common.{◌≡◌, map, take}
use Rattle.std.specs.Prelude.{All}
use Rattle.ld_trace.specs.Sources.{plain}
use Rattle.ld_replay.specs.Before.{IsLine}
use Rattle.ld_replay.specs.Inner.Replay.{IsReading}
use Rattle.ld_replay.proofs.lines.lines_at.Given as goal

abbrev pub invariant-loop-number : goal.invariant-loop-number
invariant-loop-number l = record {
  numbers : map (λ one. one.0) l.found.items ≡ take l.number-index l.numbers;
  lines : All (λ one. IsLine (plain l.source) one.0 one.1) l.found.items;
  reading : IsReading (plain l.source) l.reading;
}
