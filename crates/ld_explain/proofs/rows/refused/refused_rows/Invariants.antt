use Rattle.std.specs.Prelude.{◌≡◌, map, take}
use Rattle.ld_explain.specs.Faults.{fault_said}
use Rattle.ld_explain.specs.Rows.{refusal_said}
use Rattle.ld_explain.proofs.rows.refused.refused_rows.Given as goal

abbrev pub invariant-loop-fault : goal.invariant-loop-fault
invariant-loop-fault l = map refusal_said l.rows.items ≡ map fault_said (take l.fault-index l.faults)
