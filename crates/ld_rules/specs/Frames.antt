-- *Frames*. A list of events is read here as a past: the events up to a position stand for "at"
-- that position, and the events before it for "just before" it.
use Rattle.std.specs.Prelude.{ℕ, List, map, filter, filter_map, Option, Some, None}
use Rattle.std.specs.List.{last_or}
use Rattle.std.specs.Str.{bytes_eq}
use Rattle.ld_trace.specs.declared.event.State.{State}
use Rattle.ld_trace.specs.Events.{PlainEvent}
use Rattle.ld_trace.specs.Events.PlainEvent.{Acquire, Try, Nested, Release}
use Rattle.ld_trace.specs.Events.PlainEvent.{Enter, Exit, Enable, Disable, Begin}
use Rattle.ld_rules.specs.Open.{Opening, openings}

-- the task that an event is of
abbrev pub task_of : PlainEvent → List ℕ
task_of (Acquire task lock) = task
task_of (Try task lock) = task
task_of (Nested task lock sub) = task
task_of (Release task lock) = task
task_of (Enter task state) = task
task_of (Exit task state) = task
task_of (Enable task state) = task
task_of (Disable task state) = task
task_of (Begin task hard soft) = task

-- the task that enters, and the one that exits
abbrev pub enters : PlainEvent → Option (List ℕ)
enters (Enter task state) = Some task
enters other = None

abbrev pub exits : PlainEvent → Option (List ℕ)
exits (Exit task state) = Some task
exits other = None

-- the state that is entered
abbrev pub state_entered : PlainEvent → Option State
state_entered (Enter task state) = Some state
state_entered other = None

-- an open enter: its position, its event and its task
abbrev pub Frame : Type 0
Frame = Opening PlainEvent (List ℕ)

-- The frames of a task: its open enters, outermost first. An `enter` at e of task t is open at p if
-- for each q in (e, p] the exits of t in (e, q] are no more than its enters there.
abbrev pub frames : List PlainEvent → List ℕ → List Frame
frames past task = filter (λ o. bytes_eq task o.key) (openings bytes_eq enters exits past)

-- the frame of a task, told by the position of its enter: its last open enter, or none
abbrev pub frame_of : List PlainEvent → List ℕ → Option ℕ
frame_of past task = last_or None (map (λ o. o.place) (frames past task))

-- the contexts of a task: the states of all its open enters
abbrev pub contexts : List PlainEvent → List ℕ → List State
contexts past task = filter_map (λ o. state_entered o.element) (frames past task)
