-- *Held locks*.
use Rattle.std.specs.Prelude.{ℕ, ◌+◌, Bool, true, false, ◌&&◌, ◌==◌, List, map, take, filter}
use Rattle.std.specs.Prelude.{Option, Some, None, option_map, if◌then◌else◌}
use Rattle.std.specs.List.{enumerate_from}
use Rattle.std.specs.Str.{bytes_eq}
use Rattle.ld_class.specs.Names.{PlainClass}
use Rattle.ld_trace.specs.Events.{PlainEvent, PlainLock}
use Rattle.ld_trace.specs.Events.PlainEvent.{Acquire, Try, Nested, Release}
use Rattle.ld_rules.specs.Open.{Opening, openings}
use Rattle.ld_rules.specs.Frames.{task_of, frame_of}

-- an event, and the frame of its task there
pub record Placed : Type 0 where
  pub event : PlainEvent
  pub frame : Option ℕ

-- each event of a past with the frame of its task at its position
abbrev pub placed : List PlainEvent → List Placed
placed past =
    map (λ p. record { event = p.1; frame = frame_of (take (p.0 + 1) past) (task_of p.1) })
    (enumerate_from 0 past)

-- the key of an acquisition or release: its task, that task's frame there, and its lock, whatever
-- the subclass
pub record Key : Type 0 where
  pub task : List ℕ
  pub frame : Option ℕ
  pub lock : PlainLock

-- an acquisition is an `acquire`, a `try` or a `nested`
abbrev pub lock_acquired : PlainEvent → Option PlainLock
lock_acquired (Acquire task lock) = Some lock
lock_acquired (Try task lock) = Some lock
lock_acquired (Nested task lock sub) = Some lock
lock_acquired other = None

abbrev pub lock_released : PlainEvent → Option PlainLock
lock_released (Release task lock) = Some lock
lock_released other = None

-- the class of a lock: its class part, of this subclass
abbrev pub class_with : PlainLock → ℕ → PlainClass
class_with lock sub = record { name = lock.class; sub = sub }

-- the subclass that an event names: N of a `nested`, and 0, which is none, of any other
abbrev pub sub_taken : PlainEvent → ℕ
sub_taken (Nested task lock sub) = sub
sub_taken other = 0

-- the class that an event acquires
abbrev pub class_acquired : PlainEvent → Option PlainClass
class_acquired event = option_map (λ lock. class_with lock (sub_taken event)) (lock_acquired event)

-- a waiting acquisition is an `acquire` or a `nested`
abbrev pub may_wait : PlainEvent → Bool
may_wait (Acquire task lock) = true
may_wait (Nested task lock sub) = true
may_wait other = false

-- the class that an event waits for
abbrev pub class_awaited : PlainEvent → Option PlainClass
class_awaited event = if may_wait event then class_acquired event else None

-- the key of an event that names this lock
abbrev pub key_with : Placed → Option PlainLock → Option Key
key_with x None = None
key_with x (Some lock) = Some (record { task = task_of x.event; frame = x.frame; lock = lock })

-- the key under which an event acquires, and the one under which it releases
abbrev pub acquires : Placed → Option Key
acquires x = key_with x (lock_acquired x.event)

abbrev pub releases : Placed → Option Key
releases x = key_with x (lock_released x.event)

-- both absent, or both there and the same by the test
abbrev pub same_option : {A : Type 0} → (A → A → Bool) → Option A → Option A → Bool
same_option same None None = true
same_option same None (Some y) = false
same_option same (Some x) None = false
same_option same (Some x) (Some y) = same x y

abbrev pub same_frame : Option ℕ → Option ℕ → Bool
same_frame = same_option (λ a b. a == b)

abbrev pub same_lock : PlainLock → PlainLock → Bool
same_lock a b = bytes_eq a.class b.class && same_option bytes_eq a.instance b.instance

abbrev pub same_key : Key → Key → Bool
same_key a b = bytes_eq a.task b.task && same_frame a.frame b.frame && same_lock a.lock b.lock

-- an acquisition that is open: its key, and the class that it acquired
pub record Acquisition : Type 0 where
  pub key : Key
  pub class : PlainClass

abbrev pub acquisition_of : Opening Placed Key → Acquisition
acquisition_of o = record { key = o.key; class = class_with o.key.lock (sub_taken o.element.event) }

-- The open acquisitions, in order of position. An acquisition at i is open at p if for each q in
-- (i, p] the releases of its key in (i, q] are no more than the acquisitions of its key there.
abbrev pub held : List PlainEvent → List Acquisition
held past = map acquisition_of (openings same_key acquires releases (placed past))

-- those of one task, over all its frames
abbrev pub held_by : List PlainEvent → List ℕ → List Acquisition
held_by past task = filter (λ one. bytes_eq task one.key.task) (held past)

-- those of one task in one frame of it
abbrev pub held_in : List PlainEvent → List ℕ → Option ℕ → List Acquisition
held_in past task frame = filter (λ one. same_frame frame one.key.frame) (held_by past task)
