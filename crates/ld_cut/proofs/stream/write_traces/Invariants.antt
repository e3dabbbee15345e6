-- The traces so far are written.
use Rattle.std.proofs.Common.{◌≡◌, ◌++◌, map, take}
use Rattle.ld_trace.specs.Sources.{plain}
use Rattle.ld_reduce.specs.Written.{written}
use Rattle.ld_cut.proofs.stream.write_traces.Given as goal

abbrev pub invariant-loop-source : goal.invariant-loop-source
invariant-loop-source l = l.text.items ≡ l.fn.text.items ++ written (map plain (take l.source-index l.sources))
