-- The traces so far are written.
use Rattle.std.specs.Prelude.{◌≡◌, map, take}
use Rattle.ld_trace.specs.Sources.{plain}
use Rattle.ld_origin.specs.Origin.{marked, plain_home}
use Rattle.ld_reduce.specs.Written.{written}
use Rattle.ld_reduce.proofs.written.write_traces.Given as goal

abbrev pub invariant-loop-source : goal.invariant-loop-source
invariant-loop-source l = l.text.items ≡ written (map (marked (map plain_home l.homes)) (map plain (take l.source-index l.sources)))
