-- The traces so far are read.
use Rattle.std.specs.Prelude.{◌≡◌, map, take}
use Rattle.ld_trace.specs.Sources.{plain}
use Rattle.ld_cut.proofs.alike.batch_of.Given as goal

abbrev pub invariant-loop-source : goal.invariant-loop-source
invariant-loop-source l = l.batch.sources ≡ map plain (take l.source-index l.sources)
