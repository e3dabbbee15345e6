use Rattle.std.specs.Prelude.{◌≡◌, map, take}
use Rattle.ld_batch.specs.Batch.{sources_of}
use Rattle.ld_explain.specs.Faults.{fault_said}
use Rattle.ld_explain.specs.Rows.{refusals}
use Rattle.ld_explain.proofs.fault.faults_of.Given as goal

abbrev pub invariant-loop-trace : goal.invariant-loop-trace
invariant-loop-trace l = map fault_said l.faults.items ≡ refusals (sources_of (take l.trace-index l.listed))
