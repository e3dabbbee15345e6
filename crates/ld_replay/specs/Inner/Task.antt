-- What one task has open, as plain data, and what an event makes of it.
use Rattle.std.specs.Prelude.{◌≡◌, ℕ, ◌-◌, Bool, ◌&&◌, List, [], ◌∷◌, ◌++◌, length, map, take, Option, Some, if◌then◌else◌}
use Rattle.std.specs.List.{last_or}
use Rattle.std.specs.Str.{bytes_eq}
use Rattle.std.specs.Prelude.{None}
use Rattle.ld_trace.specs.declared.event.State.{State}
use Rattle.ld_trace.specs.Events.{PlainEvent, PlainLock, Position, plain_lock}
use Rattle.ld_trace.specs.Events.PlainEvent.{Acquire, Try, Nested, Release, Enter, Exit}
use Rattle.ld_rules.specs.Frames.{Frame, frames, state_entered, task_of}
use Rattle.ld_rules.specs.Held.{Acquisition, Key, class_with, same_frame, same_key, same_lock}
use Rattle.ld_rules.specs.Outcome.{events}
use Rattle.ld_rules.specs.Dependency.{Seen}
use Rattle.ld_rules.specs.Inner.Scanned.{remove_last}
use Rattle.ld_replay.specs.declared.hold.Handler.{Handler}
use Rattle.ld_replay.specs.declared.hold.Hold.{Hold}
use Rattle.ld_replay.specs.HeldAt.{event_lines, held_lines_by, opened_at, plain_handler}

-- a handler with the place of its enter among the events
pub record InnerHandler : Type 0 where
  pub place : ℕ
  pub seen : Seen (Option State)

abbrev pub inner_handler : Handler → InnerHandler
inner_handler handler = record { place = handler.place; seen = plain_handler handler }

pub record PlainTask : Type 0 where
  pub name : List ℕ
  pub handlers : List InnerHandler
  pub holds : List (Seen Acquisition)

-- the frame that a task is in
abbrev pub frame_now : PlainTask → Option ℕ
frame_now task = last_or None (map (λ handler. handler.place) task.handlers)

-- the key under which it acquires and releases a lock now
abbrev pub key_now : PlainTask → PlainLock → Key
key_now task lock = record { task = task.name; frame = frame_now task; lock = lock }

-- a lock was acquired under this key
abbrev pub has_key : Key → Seen Acquisition → Bool
has_key key one = same_key key one.what.key

-- the same of a lock as it lies in memory, whose task is known
abbrev pub is_under : Option ℕ → PlainLock → Hold → Bool
is_under frame lock hold = same_frame frame hold.frame && same_lock lock (plain_lock hold.lock)

-- the task with one more lock, of this subclass, acquired at this line
abbrev pub acquired : PlainTask → PlainLock → ℕ → ℕ → PlainTask
acquired task lock sub line = record task {
  holds =
      task.holds ++ record {
        what = record { key = key_now task lock; class = class_with lock sub };
        line = line;
      } ∷ [];
}

-- the task in one more handler, entered at this line, with so many events before it
abbrev pub entered : PlainTask → State → ℕ → ℕ → PlainTask
entered task state place line = record task {
  handlers = task.handlers ++ record { place = place; seen = record { what = Some state; line = line } } ∷ [];
}

-- the task without its innermost handler
abbrev pub exited : PlainTask → PlainTask
exited task = record task { handlers = take (length task.handlers - 1) task.handlers }

-- the task after an event of its own, with so many events before it, at this line
abbrev pub changed : PlainTask → PlainEvent → ℕ → ℕ → PlainTask
changed task (Acquire by lock) place line = acquired task lock 0 line
changed task (Try by lock) place line = acquired task lock 0 line
changed task (Nested by lock sub) place line = acquired task lock sub line
changed task (Release by lock) place line = record task { holds = remove_last (has_key (key_now task lock)) task.holds }
changed task (Enter by state) place line = entered task state place line
changed task (Exit by state) place line = exited task
changed task other place line = task

-- the same after an event of any task
abbrev pub stepped : PlainTask → PlainEvent → ℕ → ℕ → PlainTask
stepped task event place line = if bytes_eq task.name (task_of event) then changed task event place line else task

-- a frame, with the line of its enter
abbrev pub handler_of : List ℕ → Frame → InnerHandler
handler_of lines frame = record {
  place = frame.place;
  seen = opened_at (λ o. state_entered o.element) lines frame;
}

-- what the task of this name has open after these positions
pub record IsAfter (past : List Position) (task : PlainTask) : Type 0 where
  pub handlers : task.handlers ≡ map (handler_of (event_lines past)) (frames (events past) task.name)
  pub holds : task.holds ≡ held_lines_by past task.name

-- a task of this name before its first event
abbrev pub idle : List ℕ → PlainTask
idle name = record { name = name; handlers = []; holds = [] }

-- what the task of this name has open, where these tasks had events
abbrev pub task_in : List PlainTask → List ℕ → PlainTask
task_in [] name = idle name
task_in (task ∷ tasks) name = if bytes_eq name task.name then task else task_in tasks name
