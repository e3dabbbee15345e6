-- *Flags*.
use Rattle.std.specs.Prelude.{ℕ, Bool, true, false, ◌&&◌, List, [], ◌∷◌, take, reverse, filter_map}
use Rattle.std.specs.Prelude.{Option, Some, None, if◌then◌else◌}
use Rattle.std.specs.List.{last_or}
use Rattle.std.specs.Option.{unwrap_or}
use Rattle.std.specs.Str.{bytes_eq}
use Rattle.ld_trace.specs.declared.event.State.{State}
use Rattle.ld_trace.specs.declared.event.State.TheVariants.{Hard, Soft}
use Rattle.ld_trace.specs.Events.{PlainEvent}
use Rattle.ld_trace.specs.Events.PlainEvent.{Enable, Disable, Begin}
use Rattle.ld_rules.specs.Open.{is_some_and}
use Rattle.ld_rules.specs.Frames.{Frame, frames, state_entered}
use Rattle.ld_rules.specs.Held.{Placed, placed, same_frame}

abbrev pub same_state : State → State → Bool
same_state Hard Hard = true
same_state Hard Soft = false
same_state Soft Hard = false
same_state Soft Soft = true

-- what an event says of the flag of this task for this state
abbrev pub says_flag : List ℕ → State → PlainEvent → Option Bool
says_flag task state (Enable by changed) =
    if bytes_eq task by && same_state state changed then Some true else None
says_flag task state (Disable by changed) =
    if bytes_eq task by && same_state state changed then Some false else None
says_flag task state other = None

-- the same of an event in this frame, and nothing in another
abbrev pub says_flag_in : List ℕ → State → Option ℕ → Placed → Option Bool
says_flag_in task state frame x =
    if same_frame frame x.frame then says_flag task state x.event else None

-- what the last `enable` or `disable` of the state by the task says, where the task has this frame
abbrev pub last_said : List PlainEvent → List ℕ → State → Option ℕ → Option Bool
last_said past task state frame =
    last_or None (filter_map (says_flag_in task state frame) (placed past))

-- of a hard and a soft flag the one for this state
abbrev pub flag_for : State → Bool → Bool → Bool
flag_for Hard hard soft = hard
flag_for Soft hard soft = soft

-- what a `begin` says of the flag of this task for this state
abbrev pub says_begun : List ℕ → State → PlainEvent → Option Bool
says_begun task state (Begin by hard soft) =
    if bytes_eq task by then Some (flag_for state hard soft) else None
says_begun task state other = None

-- what the last `begin` of the task says of the flag, else on
abbrev pub flag_begun : List PlainEvent → List ℕ → State → Bool
flag_begun past task state = unwrap_or (last_or None (filter_map (says_begun task state) past)) true

-- The flag of a task whose open enters are these, innermost first. Where no `enable` or `disable`
-- said it in its frame, it is outside frames what the last `begin` of the task says, else on; off in
-- a frame of the state itself; and else as just before the enter of that frame: the frames around it
-- are those that were open then (`flag-before` in proofs/BeforeLemmas.antt).
--
-- For example, after `disable t soft`, `enter t hard`: the frames are the one that the hard enter at
-- place 1 opened. The hard flag is off in it, since it is a hard frame. Nothing was said in it of soft,
-- so soft is as just before place 1: off, as the `disable` outside frames says. After `exit t hard`
-- there is no frame, and hard is on again.
abbrev pub flag_in : List ℕ → State → List PlainEvent → List Frame → Bool
flag_in task state past [] = unwrap_or (last_said past task state None) (flag_begun past task state)
flag_in task state past (inner ∷ outer) =
    let before = flag_in task state (take inner.place past) outer in
    unwrap_or (last_said past task state (Some inner.place))
    (if is_some_and (same_state state) (state_entered inner.element) then false else before)

abbrev pub flag : List PlainEvent → List ℕ → State → Bool
flag past task state = flag_in task state past (reverse (frames past task))

-- softirqs count as enabled only where both flags are on
abbrev pub is_enabled : List PlainEvent → List ℕ → State → Bool
is_enabled past task Hard = flag past task Hard
is_enabled past task Soft = flag past task Hard && flag past task Soft
