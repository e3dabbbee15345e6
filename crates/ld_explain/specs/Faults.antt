-- The faults of refused traces, as rows are made of them.
use Rattle.std.specs.Prelude.{ℕ, List}
use Rattle.ld_rules.specs.Outcome.{name_of}
use Rattle.ld_explain.specs.declared.fault.Fault.{Fault}

-- the faulty line, and the name of the fault
abbrev pub fault_said : Fault → ℕ × List ℕ
fault_said fault = (fault.at.line, name_of fault.fault)
