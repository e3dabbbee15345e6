use Rattle.std.specs.Prelude.{◌≡◌, ◌++◌, take}
use Rattle.ld_batch.specs.Batch.{sources_of}
use Rattle.ld_work.specs.Inner.Seen.{entries_of}
use Rattle.ld_work.proofs.kept.note_all.Given as goal

abbrev pub invariant-loop-trace : goal.invariant-loop-trace
invariant-loop-trace g l = l.keeper ≡ l.initial.keeper ++ entries_of (sources_of (take l.trace-index l.traces))
