-- What a task is in and holds after some events, and what each event makes of it.
use Rattle.std.specs.Prelude.{ℕ, Bool, true, false, List, [], ◌∷◌, ◌++◌, fold, filter_map, Option, Some, None, Ok, Err, if◌then◌else◌}
use Rattle.std.specs.Str.{bytes_eq}
use Rattle.ld_trace.specs.declared.event.State.{State}
use Rattle.ld_trace.specs.declared.event.State.TheVariants.{Hard, Soft}
use Rattle.ld_trace.specs.Lines.{lines, text_of}
use Rattle.ld_trace.specs.Events.{PlainEvent, PlainLock, Said, said_by}
use Rattle.ld_trace.specs.Events.PlainEvent.{Acquire, Try, Nested, Release, Enter, Exit, Enable, Disable, Begin}
use Rattle.ld_rules.specs.Frames.{task_of}
use Rattle.ld_rules.specs.Held.{same_lock}
use Rattle.ld_rules.specs.Inner.Scanned.{remove_last}

-- a lock that is held, and the subclass that it was acquired as: 0 where that is none
pub record Hold : Type 0 where
  pub lock : PlainLock
  pub sub : ℕ

-- A frame: the handler that the task runs there, or none outside handlers; the hard and the soft flag there, where true is
-- on; and the locks that were acquired there and are held, in order of acquisition.
pub record PlainFrame : Type 0 where
  pub handler : Option State
  pub hard : Bool
  pub soft : Bool
  pub held : List Hold

-- the innermost frame of a task, and those around it from the inside out
pub record PlainState : Type 0 where
  pub inner : PlainFrame
  pub outer : List PlainFrame

-- a task before its first event: outside handlers, with both flags on and nothing held
abbrev pub idle : PlainState
idle = record { inner = record { handler = None; hard = true; soft = true; held = [] }; outer = [] }

-- one more lock is held
abbrev pub acquired : PlainLock → ℕ → PlainFrame → PlainFrame
acquired lock sub frame = record frame { held = frame.held ++ record { lock = lock; sub = sub } ∷ [] }

-- the latest acquisition of the lock is closed
abbrev pub released : PlainLock → PlainFrame → PlainFrame
released lock frame = record frame { held = remove_last (λ one. same_lock lock one.lock) frame.held }

-- a flag is set
abbrev pub with_flag : State → Bool → PlainFrame → PlainFrame
with_flag Hard on frame = record frame { hard = on }
with_flag Soft on frame = record frame { soft = on }

-- the frame of a handler that begins over this one: nothing is held there, and the flag of its own state is off
abbrev pub entered : State → PlainFrame → PlainFrame
entered state around = with_flag state false (record { handler = Some state; hard = around.hard; soft = around.soft; held = [] })

-- the innermost handler ends, where there is one
abbrev pub left : PlainFrame → List PlainFrame → PlainState
left inner [] = record { inner = inner; outer = [] }
left inner (around ∷ others) = record { inner = around; outer = others }

-- the task after an event of its own
abbrev pub after : PlainState → PlainEvent → PlainState
after t (Acquire task lock) = record t { inner = acquired lock 0 t.inner }
after t (Try task lock) = record t { inner = acquired lock 0 t.inner }
after t (Nested task lock sub) = record t { inner = acquired lock sub t.inner }
after t (Release task lock) = record t { inner = released lock t.inner }
after t (Enter task state) = record { inner = entered state t.inner; outer = t.inner ∷ t.outer }
after t (Exit task state) = left t.inner t.outer
after t (Enable task state) = record t { inner = with_flag state true t.inner }
after t (Disable task state) = record t { inner = with_flag state false t.inner }
after t (Begin task hard soft) = record t { inner = record t.inner { hard = hard; soft = soft } }

-- the task of this name after an event of whichever task
abbrev pub after_any : List ℕ → PlainState → PlainEvent → PlainState
after_any task t event = if bytes_eq task (task_of event) then after t event else t

-- the same after these events
abbrev pub state_after : List ℕ → List PlainEvent → PlainState
state_after task events = fold (after_any task) idle events

-- the event that a line says, if it says one
abbrev pub event_said : Said → Option PlainEvent
event_said (Ok said) = said
event_said (Err fault) = None

-- the same of a line with its end
abbrev pub event_in : List ℕ → Option PlainEvent
event_in line = event_said (said_by (text_of line))

-- the events of the lines of these bytes
abbrev pub events_in : List ℕ → List PlainEvent
events_in bytes = filter_map event_in (lines bytes)

-- what the task of this name is in and holds after these bytes
abbrev pub state_in : List ℕ → List ℕ → PlainState
state_in task bytes = state_after task (events_in bytes)
