use Rattle.std.specs.Prelude.{All, map, take}
use Rattle.std.specs.List.{Contains}
use Rattle.ld_trace.specs.Sources.{plain}
use Rattle.ld_batch.specs.Batch.{sources_of}
use Rattle.ld_work.proofs.coming.first_other.Given as goal

abbrev pub invariant-loop-trace : goal.invariant-loop-trace
invariant-loop-trace l = All (Contains (map plain l.sources)) (sources_of (take l.trace-index l.listed))
