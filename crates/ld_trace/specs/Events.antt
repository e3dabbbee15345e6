-- The event that a line names, or its fault.
use Rattle.std.specs.Prelude.{ℕ, ◌-◌, Bool, true, false, ◌&&◌, ◌==◌, nat_le, List, [], ◌∷◌, Option, Some, None, Result, Ok, Err, if◌then◌else◌, codes}
use Rattle.std.specs.List.{filter_map, enumerate_from, before_first, after_first}
use Rattle.std.specs.Option.{option_map}
use Rattle.std.specs.Str.{bytes_eq}
use Rattle.ld_trace.specs.declared.event.Event.{Event}
use Rattle.ld_trace.specs.declared.event.Event.TheVariants as events
use Rattle.ld_trace.specs.declared.event.Lock.{Lock}
use Rattle.ld_trace.specs.declared.event.State.{State}
use Rattle.ld_trace.specs.declared.event.State.TheVariants.{Hard, Soft}
use Rattle.ld_trace.specs.declared.event.LineFault.{LineFault}
use Rattle.ld_trace.specs.declared.event.LineFault.TheVariants.{BadVerb, BadCount, BadName, BadState}
use Rattle.ld_trace.specs.Lines.{lines, text_of, fields, begins_comment, is_word, is_name}
use Rattle.ld_trace.specs.Sources.{PlainSource}

-- a lock without where it lies in memory: `CLASS` alone differs from every `CLASS@INSTANCE`
pub record PlainLock : Type 0 where
  pub class : List ℕ
  pub instance : Option (List ℕ)

-- an event: verb, task, and lock or state; a nested one says its subclass too, and a begin says
-- the hard and the soft flag, where true is on
pub data PlainEvent : Type 0 where
  Acquire : (task : List ℕ) (lock : PlainLock) → PlainEvent
  Nested : (task : List ℕ) (lock : PlainLock) (sub : ℕ) → PlainEvent
  Try : (task : List ℕ) (lock : PlainLock) → PlainEvent
  Release : (task : List ℕ) (lock : PlainLock) → PlainEvent
  Enter : (task : List ℕ) (state : State) → PlainEvent
  Exit : (task : List ℕ) (state : State) → PlainEvent
  Enable : (task : List ℕ) (state : State) → PlainEvent
  Disable : (task : List ℕ) (state : State) → PlainEvent
  Begin : (task : List ℕ) (hard soft : Bool) → PlainEvent

abbrev pub plain_lock : Lock → PlainLock
plain_lock lock = record { class = lock.class.now; instance = option_map (λ name. name.now) lock.instance }

abbrev pub plain_event : Event → PlainEvent
plain_event (events.Acquire task lock) = Acquire task.now (plain_lock lock)
plain_event (events.Nested task lock sub) = Nested task.now (plain_lock lock) sub
plain_event (events.Try task lock) = Try task.now (plain_lock lock)
plain_event (events.Release task lock) = Release task.now (plain_lock lock)
plain_event (events.Enter task state) = Enter task.now state
plain_event (events.Exit task state) = Exit task.now state
plain_event (events.Enable task state) = Enable task.now state
plain_event (events.Disable task state) = Disable task.now state
plain_event (events.Begin task hard soft) = Begin task.now hard soft

-- the sign between class and instance, `@`
abbrev pub is_sign : ℕ → Bool
is_sign b = b == 64

-- a LOCK is `CLASS` or `CLASS@INSTANCE`, both of them names
abbrev pub lock_of : List ℕ → Option PlainLock
lock_of field =
    let class = before_first is_sign field in
    let instance = after_first is_sign field in
    if is_name field then Some (record { class = field; instance = None })
    else if is_name class && is_name instance then Some (record { class = class; instance = Some instance })
    else None

-- an N is one byte from `1` to `7`
abbrev pub sub_of : List ℕ → Option ℕ
sub_of [] = None
sub_of (b ∷ []) = if nat_le 49 b && nat_le b 55 then Some (b - 48) else None
sub_of (b ∷ second ∷ others) = None

-- a STATE is `hard` or `soft`
abbrev pub state_of : List ℕ → Option State
state_of field =
    if bytes_eq field (codes "hard") then Some Hard
    else if bytes_eq field (codes "soft") then Some Soft
    else None

-- a HARD or a SOFT is `on`, which is true, or `off`
abbrev pub setting_of : List ℕ → Option Bool
setting_of field =
    if bytes_eq field (codes "on") then Some true
    else if bytes_eq field (codes "off") then Some false
    else None

-- what a line says: nothing, an event or a fault
abbrev pub Said : Type 0
Said = Result (Option PlainEvent) LineFault

-- what `read_event` answers, without where it lies in memory
abbrev pub answer_seen : Result (Option Event) LineFault → Said
answer_seen (Ok found) = Ok (option_map plain_event found)
answer_seen (Err fault) = Err fault

-- the event with what its last field means, or the fault where that means nothing
abbrev pub said_with : {X : Type 0} → (X → PlainEvent) → LineFault → Option X → Said
said_with make fault None = Err fault
said_with make fault (Some x) = Ok (Some (make x))

-- what follows a verb that takes a TASK and a LOCK
abbrev pub said_of_lock : (List ℕ → PlainLock → PlainEvent) → List (List ℕ) → Said
said_of_lock make [] = Err BadCount
said_of_lock make (task ∷ []) = Err BadCount
said_of_lock make (task ∷ lock ∷ []) = if is_word task then said_with (make task) BadName (lock_of lock) else Err BadName
said_of_lock make (task ∷ lock ∷ fourth ∷ others) = Err BadCount

-- the nested acquisition by a task, where its lock and its N mean something
abbrev pub said_nested : List ℕ → Option PlainLock → Option ℕ → Said
said_nested task None sub = Err BadName
said_nested task (Some lock) sub = said_with (Nested task lock) BadName sub

-- what follows the verb that takes a TASK, a LOCK and an N
abbrev pub said_of_nested : List (List ℕ) → Said
said_of_nested [] = Err BadCount
said_of_nested (task ∷ []) = Err BadCount
said_of_nested (task ∷ lock ∷ []) = Err BadCount
said_of_nested (task ∷ lock ∷ sub ∷ []) = if is_word task then said_nested task (lock_of lock) (sub_of sub) else Err BadName
said_of_nested (task ∷ lock ∷ sub ∷ fifth ∷ others) = Err BadCount

-- what follows a verb that takes a TASK and a STATE
abbrev pub said_of_state : (List ℕ → State → PlainEvent) → List (List ℕ) → Said
said_of_state make [] = Err BadCount
said_of_state make (task ∷ []) = Err BadCount
said_of_state make (task ∷ state ∷ []) = if is_word task then said_with (make task) BadState (state_of state) else Err BadName
said_of_state make (task ∷ state ∷ fourth ∷ others) = Err BadCount

-- the begin of a task, where its HARD and its SOFT mean something
abbrev pub said_begun : List ℕ → Option Bool → Option Bool → Said
said_begun task None soft = Err BadState
said_begun task (Some hard) soft = said_with (Begin task hard) BadState soft

-- what follows the verb that takes a TASK, a HARD and a SOFT
abbrev pub said_of_begin : List (List ℕ) → Said
said_of_begin [] = Err BadCount
said_of_begin (task ∷ []) = Err BadCount
said_of_begin (task ∷ hard ∷ []) = Err BadCount
said_of_begin (task ∷ hard ∷ soft ∷ []) = if is_word task then said_begun task (setting_of hard) (setting_of soft) else Err BadName
said_of_begin (task ∷ hard ∷ soft ∷ fifth ∷ others) = Err BadCount

-- what a line with these fields says: its fault is the first that applies, from the verb on
abbrev pub said_by_fields : List (List ℕ) → Said
said_by_fields [] = Ok None
said_by_fields (verb ∷ others) =
    if begins_comment verb then Ok None
    else if bytes_eq verb (codes "acquire") then said_of_lock Acquire others
    else if bytes_eq verb (codes "nested") then said_of_nested others
    else if bytes_eq verb (codes "try") then said_of_lock Try others
    else if bytes_eq verb (codes "release") then said_of_lock Release others
    else if bytes_eq verb (codes "enter") then said_of_state Enter others
    else if bytes_eq verb (codes "exit") then said_of_state Exit others
    else if bytes_eq verb (codes "enable") then said_of_state Enable others
    else if bytes_eq verb (codes "disable") then said_of_state Disable others
    else if bytes_eq verb (codes "begin") then said_of_begin others
    else Err BadVerb

-- what a line without its end says
abbrev pub said_by : List ℕ → Said
said_by line = said_by_fields (fields line)

-- a line of a source that says something: its number in the stream, and the event or the fault
pub record Position : Type 0 where
  pub line : ℕ
  pub says : Result PlainEvent LineFault

-- the position that a line with this number is, where it says something
abbrev pub position_of : ℕ → Said → Option Position
position_of line (Ok None) = None
position_of line (Ok (Some event)) = Some (record { line = line; says = Ok event })
position_of line (Err fault) = Some (record { line = line; says = Err fault })

-- the positions of a source, in order
abbrev pub positions : PlainSource → List Position
positions source = filter_map (λ p. position_of p.0 (said_by (text_of p.1))) (enumerate_from source.first_line (lines source.bytes))
