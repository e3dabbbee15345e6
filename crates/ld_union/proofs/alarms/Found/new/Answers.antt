use Rattle.std.proofs.Common.{◌≡◌, Option, None, ℕ, refl}
use Rattle.ld_trace.specs.declared.event.State.{State}
use Rattle.ld_trace.specs.declared.event.State.TheVariants.{Hard, Soft}
use Rattle.ld_union.specs.declared.alarms.Forbidden.{Forbidden}
use Rattle.ld_union.specs.declared.reaches.PerState.{PerState}
use Rattle.ld_union.specs.Inner.States.{of_state}
use Rattle.ld_union.proofs.FoundLemmas.{nothing_found}
use Rattle.ld_union.proofs.alarms.Found.new.Goals as goal

pub returns : goal.returns
returns c = nothing_found _ refl conflict forbidden
  where
    nothing : {A : Type 0} → PerState (Option A)
    nothing = record { hard = None; soft = None }

    conflict : (state : State) → of_state (nothing {A = ℕ}) state ≡ None
    conflict Hard = refl
    conflict Soft = refl

    forbidden : (state : State) → of_state (nothing {A = Forbidden}) state ≡ None
    forbidden Hard = refl
    forbidden Soft = refl
