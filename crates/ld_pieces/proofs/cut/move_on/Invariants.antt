use Rattle.std.proofs.Common.{◌≡◌, drop, map, take}
use Rattle.ld_trace.specs.Sources.{plain}
use Rattle.ld_pieces.specs.Pieces.{moved}
use Rattle.ld_pieces.proofs.cut.move_on.Given as goal

abbrev pub invariant-loop-source : goal.invariant-loop-source
invariant-loop-source l = record {
  front : map plain (take l.source-index l.sources) ≡ map (moved l.traces l.lines) (map plain (take l.source-index l.fn.sources));
  rest : drop l.source-index l.sources ≡ drop l.source-index l.fn.sources;
}
