-- *Outcome*: the tasks and classes of a trace, its faults, and what became of it.
use Rattle.std.specs.Prelude.{ℕ, Bool, true, false, ◌&&◌, ◌==◌, not, List, map, length, take}
use Rattle.std.specs.Prelude.{filter_map, slice_get, Option, Some, None, option_map, Result, Ok}
use Rattle.std.specs.Prelude.{Err, if◌then◌else◌, codes}
use Rattle.std.specs.List.{enumerate_from, list_any, last_or}
use Rattle.std.specs.Str.{bytes_eq}
use Rattle.ld_class.specs.Names.{PlainClass, same_class}
use Rattle.ld_trace.specs.declared.event.State.TheVariants.{Hard, Soft}
use Rattle.ld_trace.specs.declared.event.LineFault.{LineFault}
use Rattle.ld_trace.specs.declared.event.LineFault.TheVariants as line_faults
use Rattle.ld_trace.specs.Sources.{PlainSource}
use Rattle.ld_trace.specs.Events.{PlainEvent, Position, positions}
use Rattle.ld_trace.specs.Events.PlainEvent.{Release, Enter, Exit, Enable, Begin}
use Rattle.ld_rules.specs.declared.fault.TraceFault.{TraceFault}
use Rattle.ld_rules.specs.declared.fault.TraceFault.TheVariants.{BadVerb, BadCount, BadName}
use Rattle.ld_rules.specs.declared.fault.TraceFault.TheVariants.{BadState, TooManyTasks}
use Rattle.ld_rules.specs.declared.fault.TraceFault.TheVariants.{TooManyClasses, TooDeep, NotHeld}
use Rattle.ld_rules.specs.declared.fault.TraceFault.TheVariants.{BadNest, Masked, BadExit}
use Rattle.ld_rules.specs.declared.fault.TraceFault.TheVariants.{HeldAtExit, BadEnable, LateBegin}
use Rattle.ld_rules.specs.declared.outcome.Outcome.{Outcome}
use Rattle.ld_rules.specs.declared.outcome.Outcome.TheVariants.{Read, Refused}
use Rattle.ld_rules.specs.declared.outcome.TheConstants.{MOST_TASKS, MOST_CLASSES, MOST_HELD}
use Rattle.ld_rules.specs.Open.{is_some_and}
use Rattle.ld_rules.specs.Frames.{task_of, frame_of, contexts}
use Rattle.ld_rules.specs.Held.{Key, class_acquired, lock_acquired, held, held_by, held_in, same_key}
use Rattle.ld_rules.specs.Flags.{same_state, is_enabled}

-- the elements without those that are the same as an earlier one
abbrev pub each_once : {X : Type 0} → (X → X → Bool) → List X → List X
each_once same xs =
    filter_map (λ p. if list_any (same p.1) (take p.0 xs) then None else Some p.1)
    (enumerate_from 0 xs)

-- the tasks of a trace, in order of first event
abbrev pub tasks : List PlainEvent → List (List ℕ)
tasks past = each_once bytes_eq (map task_of past)

-- the classes of a trace, in order of first acquisition
abbrev pub classes : List PlainEvent → List PlainClass
classes past = each_once same_class (filter_map class_acquired past)

-- the name is none of these, of which there are as many as there may be
abbrev pub is_one_too_many : {A : Type 0} → (A → A → Bool) → ℕ → List A → A → Bool
is_one_too_many same most names name = length names == most && not (list_any (same name) names)

-- the conditions of the faults that an event has by what came before it, each by its fault's name

abbrev pub has_too_many_classes : List PlainEvent → PlainEvent → Bool
has_too_many_classes past event =
    is_some_and (is_one_too_many same_class MOST_CLASSES (classes past)) (class_acquired event)

abbrev pub is_too_deep : List PlainEvent → PlainEvent → Bool
is_too_deep past event =
    is_some_and (λ lock. length (held_by past (task_of event)) == MOST_HELD) (lock_acquired event)

abbrev pub is_not_held : List PlainEvent → PlainEvent → Bool
is_not_held past (Release task lock) =
    let key : Key = record { task = task; frame = frame_of past task; lock = lock } in
    not (list_any (λ one. same_key key one.key) (held past))
is_not_held past other = false

abbrev pub is_badly_nested : List PlainEvent → PlainEvent → Bool
is_badly_nested past (Enter task Hard) = list_any (same_state Hard) (contexts past task)
is_badly_nested past (Enter task Soft) = list_any (λ state. true) (contexts past task)
is_badly_nested past other = false

abbrev pub is_masked : List PlainEvent → PlainEvent → Bool
is_masked past (Enter task state) = not (is_enabled past task state)
is_masked past other = false

abbrev pub is_bad_exit : List PlainEvent → PlainEvent → Bool
is_bad_exit past (Exit task state) =
    not (is_some_and (same_state state) (last_or None (contexts past task)))
is_bad_exit past other = false

abbrev pub is_held_at_exit : List PlainEvent → PlainEvent → Bool
is_held_at_exit past (Exit task state) =
    list_any (λ one. true) (held_in past task (frame_of past task))
is_held_at_exit past other = false

abbrev pub is_bad_enable : List PlainEvent → PlainEvent → Bool
is_bad_enable past (Enable task state) = list_any (same_state state) (contexts past task)
is_bad_enable past other = false

-- a `begin` of a task that has an earlier event
abbrev pub is_late_begin : List PlainEvent → PlainEvent → Bool
is_late_begin past (Begin task hard soft) = list_any (bytes_eq task) (map task_of past)
is_late_begin past other = false

-- the fault of an event after these, by the first condition that holds
abbrev pub event_fault : List PlainEvent → PlainEvent → Option TraceFault
event_fault past event =
    if is_one_too_many bytes_eq MOST_TASKS (tasks past) (task_of event) then Some TooManyTasks
    else if has_too_many_classes past event then Some TooManyClasses
    else if is_too_deep past event then Some TooDeep
    else if is_not_held past event then Some NotHeld
    else if is_badly_nested past event then Some BadNest
    else if is_masked past event then Some Masked
    else if is_bad_exit past event then Some BadExit
    else if is_held_at_exit past event then Some HeldAtExit
    else if is_bad_enable past event then Some BadEnable
    else if is_late_begin past event then Some LateBegin
    else None

-- a line's own fault, as a fault of the trace
abbrev pub of_line : LineFault → TraceFault
of_line line_faults.BadVerb = BadVerb
of_line line_faults.BadCount = BadCount
of_line line_faults.BadName = BadName
of_line line_faults.BadState = BadState

-- the event that a position says, if it has no fault of its own
abbrev pub event_said : Result PlainEvent LineFault → Option PlainEvent
event_said (Ok event) = Some event
event_said (Err fault) = None

-- the events of these positions
abbrev pub events : List Position → List PlainEvent
events past = filter_map (λ position. event_said position.says) past

-- the fault of what a position says, where these events came before
abbrev pub said_fault : List PlainEvent → Result PlainEvent LineFault → Option TraceFault
said_fault past (Err fault) = Some (of_line fault)
said_fault past (Ok event) = event_fault past event

-- a line with a fault
pub record FaultyLine : Type 0 where
  pub line : ℕ
  pub fault : TraceFault

-- the positions that have a fault, in order
abbrev pub faulty_lines : List Position → List FaultyLine
faulty_lines all =
    filter_map (λ p. option_map (λ fault. record { line = p.1.line; fault = fault })
    (said_fault (events (take p.0 all)) p.1.says))
    (enumerate_from 0 all)

-- refused at the first faulty position, or read with the number of positions
abbrev pub outcome_by : ℕ → Option FaultyLine → Outcome
outcome_by count None = Read count
outcome_by count (Some first) = Refused first.line first.fault

abbrev pub outcome : PlainSource → Outcome
outcome source =
    outcome_by (length (positions source)) (slice_get (faulty_lines (positions source)) 0)

-- the name of a fault
abbrev pub name_of : TraceFault → List ℕ
name_of BadVerb = codes "BadVerb"
name_of BadCount = codes "BadCount"
name_of BadName = codes "BadName"
name_of BadState = codes "BadState"
name_of TooManyTasks = codes "TooManyTasks"
name_of TooManyClasses = codes "TooManyClasses"
name_of TooDeep = codes "TooDeep"
name_of NotHeld = codes "NotHeld"
name_of BadNest = codes "BadNest"
name_of Masked = codes "Masked"
name_of BadExit = codes "BadExit"
name_of HeldAtExit = codes "HeldAtExit"
name_of BadEnable = codes "BadEnable"
name_of LateBegin = codes "LateBegin"
