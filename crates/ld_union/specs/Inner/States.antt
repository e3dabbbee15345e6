-- One of each interrupt state. No contract of a `Book` cites this file.
use Rattle.ld_trace.specs.declared.event.State.{State}
use Rattle.ld_trace.specs.declared.event.State.TheVariants.{Hard, Soft}
use Rattle.ld_union.specs.declared.reaches.PerState.{PerState}

-- that of the state
abbrev pub of_state : {T : Type 0} → PerState T → State → T
of_state each Hard = each.hard
of_state each Soft = each.soft
