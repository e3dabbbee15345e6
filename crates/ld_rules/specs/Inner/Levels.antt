-- The open frames of a task as a stack, and what stands in each: its state, its flags, and how many
-- locks the task held before it. The innermost frame comes first. Of public contracts those
-- of a scan alone cite this file.
use Rattle.std.specs.Prelude.{ℕ, Bool, true, false, List, [], ◌∷◌, length, map, reverse, take}
use Rattle.std.specs.Option.{unwrap_or}
use Rattle.ld_trace.specs.declared.event.State.{State}
use Rattle.ld_trace.specs.declared.event.State.TheVariants.{Hard}
use Rattle.ld_trace.specs.Events.{PlainEvent}
use Rattle.ld_trace.specs.Events.PlainEvent.{Enter, Exit, Enable, Disable, Begin}
use Rattle.ld_rules.specs.Frames.{Frame, frames, state_entered}
use Rattle.ld_rules.specs.Held.{held_by}
use Rattle.ld_rules.specs.Flags.{flag_in}

-- the verbs of interrupts: `enter`, `exit`, `enable`, `disable` and `begin`
abbrev pub is_interrupt : PlainEvent → Bool
is_interrupt (Enter task state) = true
is_interrupt (Exit task state) = true
is_interrupt (Enable task state) = true
is_interrupt (Disable task state) = true
is_interrupt (Begin task hard soft) = true
is_interrupt other = false

-- the open frames of a task
abbrev pub stack : List PlainEvent → List ℕ → List Frame
stack past task = reverse (frames past task)

-- the flag in each of these frames, and last the one outside frames
abbrev pub levels_in : List ℕ → State → List PlainEvent → List Frame → List Bool
levels_in task state past [] = flag_in task state past [] ∷ []
levels_in task state past (inner ∷ outer) =
    flag_in task state past (inner ∷ outer) ∷ levels_in task state past outer

abbrev pub levels : List PlainEvent → List ℕ → State → List Bool
levels past task state = levels_in task state past (stack past task)

-- the state of a frame; its element is always an enter
abbrev pub state_of_frame : Frame → State
state_of_frame frame = unwrap_or (state_entered frame.element) Hard

abbrev pub states : List PlainEvent → List ℕ → List State
states past task = map state_of_frame (stack past task)

-- how many locks the task held just before the enter of each frame
abbrev pub starts_in : List PlainEvent → List ℕ → List Frame → List ℕ
starts_in past task [] = []
starts_in past task (f ∷ fs) = length (held_by (take f.place past) task) ∷ starts_in past task fs

abbrev pub starts : List PlainEvent → List ℕ → List ℕ
starts past task = starts_in past task (stack past task)
