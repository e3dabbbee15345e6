-- What a row says of a forbidden walk.
use Rattle.std.specs.Prelude.{ℕ, List}
use Rattle.ld_class.specs.Names.{PlainClass}
use Rattle.ld_trace.specs.declared.event.State.{State}
use Rattle.ld_rules.specs.declared.outcome.Witness.{Witness}

-- a forbidden walk, with the usage of its ends, and where their bits were first seen
pub record PlainForbiddenRow : Type 0 where
  pub state : State
  pub from : PlainClass
  pub from_marks : List ℕ
  pub safe_at : Witness
  pub to : PlainClass
  pub to_marks : List ℕ
  pub unsafe_at : Witness
  pub via : List PlainClass
