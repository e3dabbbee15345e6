-- Those of the traces so far are kept.
use Rattle.std.specs.Prelude.{◌≡◌, map, nat_eq, take}
use Rattle.std.specs.List.{list_any}
use Rattle.ld_trace.specs.Sources.{plain}
use Rattle.ld_batch.specs.Batch.{sources_of}
use Rattle.ld_reduce.specs.Kept.{kept_by}
use Rattle.ld_reduce.proofs.reduce.kept.Given as goal

abbrev pub invariant-loop-trace : goal.invariant-loop-trace
invariant-loop-trace l = map plain l.kept.items ≡ kept_by (λ number. list_any (nat_eq number) l.firsts) l.keep_refused (sources_of (take l.trace-index l.traces))
