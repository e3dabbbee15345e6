-- What the scan of a trace keeps, against what it had when the trace began and the positions so far. No
-- promise cites this file.
use Rattle.std.specs.Prelude.{◌≡◌, ◌<◌, ◌≤◌, ◌+◌, ℕ, Bool, None, Some, Result, Ok, Err, List, [], ◌∷◌, ◌++◌}
use Rattle.std.specs.Prelude.{All, fold, map, length, slice_index_or, slice_set, take}
use Rattle.ld_class.specs.Names.{AreDistinct, IsTaskAt, PlainClass, no_class, place_of_task}
use Rattle.ld_class.specs.Names.{with_name, with_task}
use Rattle.ld_class.specs.declared.names.TheConstants.{MOST_NAMES}
use Rattle.ld_trace.specs.declared.event.State.{State}
use Rattle.ld_trace.specs.Events.{PlainEvent, PlainLock, Position}
use Rattle.ld_trace.specs.Events.PlainEvent.{Acquire, Try, Nested}
use Rattle.ld_rules.specs.declared.outcome.TheConstants.{MOST_CLASSES, MOST_HELD, MOST_TASKS}
use Rattle.ld_tables.specs.declared.interrupts.Interrupts.{Interrupts}
use Rattle.ld_facts.specs.declared.scan.Scan.{Scan}
use Rattle.ld_facts.specs.declared.scan.Stop.{Stop}
use Rattle.ld_facts.specs.declared.scan.Stop.TheVariants.{Fault}
use Rattle.ld_facts.specs.declared.acquire_kind.AcquireKind.{AcquireKind}
use Rattle.ld_facts.specs.declared.acquire_kind.AcquireKind.TheVariants.{Nesting, Trying, Waiting}
use Rattle.ld_tables.specs.Inner.Edges.{AreApart}
use Rattle.ld_tables.specs.Inner.Interrupts.{fresh, levels_of, starts_of, states_of}
use Rattle.ld_rules.specs.Inner.Levels.{levels, starts, states}
use Rattle.ld_facts.specs.Named.{IsBetween, IsUse, named_dependency, named_use}
use Rattle.ld_tables.specs.Inner.Uses.{in_facts, on_facts, with_use}
use Rattle.ld_rules.specs.Usage.{uses_at}
use Rattle.ld_rules.specs.Held.{Acquisition, class_with, held_by, may_wait, sub_taken}
use Rattle.ld_tables.specs.Inner.Locks.{Hold, Tells, inner_of}
use Rattle.ld_rules.specs.declared.fault.TraceFault.{TraceFault}
use Rattle.ld_rules.specs.Outcome.{classes, event_fault, events, faulty_lines, tasks}
use Rattle.ld_rules.specs.Dependency.{Dependency, Seen, dependencies_at, seen}
use Rattle.ld_rules.specs.Usage.{Use}
use Rattle.ld_rules.specs.Inner.Scanned.{AreSame, same_dependency_seen, same_use_seen, with_new}

-- what a scan had when its trace began: classes, and by their names dependencies and usage bits, each
-- with the line at which it was told
pub record Start : Type 0 where
  pub classes : List PlainClass
  pub edges : List (Seen Dependency)
  pub uses : List (Seen Use)

abbrev pub no_start : Start
no_start = record { classes = []; edges = []; uses = [] }

-- what is there after these positions: what they show is added, where it isn't there yet

abbrev pub classes_after : Start → List PlainEvent → List PlainClass
classes_after start past = fold with_name start.classes (classes past)

abbrev pub edges_after : Start → List Position → List (Seen Dependency)
edges_after start all = fold (with_new same_dependency_seen) start.edges (seen dependencies_at all)

abbrev pub uses_after : Start → List Position → List (Seen Use)
uses_after start all = fold (with_new same_use_seen) start.uses (seen uses_at all)

-- the names of the classes with these numbers
abbrev pub names_at : List PlainClass → List ℕ → List PlainClass
names_at names numbers = map (λ n. slice_index_or names n no_class) numbers

-- the trace's own classes
abbrev pub own_names : Scan → List PlainClass
own_names scan = names_at scan.classes scan.own

-- a lock that is held, and the class by which it was acquired
pub record HeldLock : Type 0 where
  pub lock : PlainLock
  pub class : PlainClass

-- what the scan keeps of one, read by the names of the classes
abbrev pub named_hold : List PlainClass → Hold → HeldLock
named_hold names hold = record {
  lock = hold.lock;
  class = slice_index_or names hold.class no_class;
}

abbrev pub lock_held : Acquisition → HeldLock
lock_held one = record { lock = one.key.lock; class = one.class }

-- what the scan keeps of a task: what it holds, and its frames and flags
pub record IsTask (names : List PlainClass) (stack : List Hold) (interrupts : Interrupts)
    (past : List PlainEvent) (task : List ℕ) : Type 0 where
  pub holds : map (named_hold names) stack ≡ map lock_held (held_by past task)
  pub within : All (λ hold. hold.class < length names) stack
  pub states : states_of interrupts ≡ states past task
  pub starts : starts_of interrupts ≡ starts past task
  pub levels : (state : State) → levels_of state interrupts ≡ levels past task state

-- each task has its stack, and its frames and flags; the trace's own classes are among the classes, and
-- there are numbers for as many as it may have
abbrev pub AreMany : Scan → Type 0
AreMany scan =
    (length scan.locks.stacks ≡ length scan.tasks)
    × (length scan.locks.interrupts ≡ length scan.tasks)
    × All (λ class. class < length scan.classes) scan.own
    × (length scan.classes + MOST_CLASSES ≤ MOST_NAMES + length scan.own)

-- On top of what it had, the scan is what these positions leave, none of which has a fault. The dependencies that it had
-- stand first, and behind them, in whatever order, those that it hadn't; each stands there once.
pub record IsAt (start : Start) (all : List Position) (scan : Scan) : Type 0 where
  pub clean : faulty_lines all ≡ []
  pub tasks : scan.tasks ≡ tasks (events all)
  pub names : scan.classes ≡ classes_after start (events all)
  pub distinct : AreDistinct scan.classes
  pub own : own_names scan ≡ classes (events all)
  pub few_tasks : length scan.tasks ≤ MOST_TASKS
  pub few_classes : length scan.own ≤ MOST_CLASSES
  pub many : AreMany scan
  pub each : (id : ℕ) (name : List ℕ) → IsTaskAt scan.tasks id name
      → IsTask scan.classes (slice_index_or scan.locks.stacks id [])
      (slice_index_or scan.locks.interrupts id fresh) (events all) name
  pub shallow : (id : ℕ) → length (slice_index_or scan.locks.stacks id []) ≤ MOST_HELD
  pub edges : AreSame (map (named_dependency scan.classes) scan.locks.edges) (edges_after start all)
  pub first : take (length start.edges) (map (named_dependency scan.classes) scan.locks.edges) ≡ start.edges
  pub once : AreApart scan.locks.edges
  pub within : All (IsBetween scan.classes) scan.locks.edges
  pub uses : map (named_use scan.classes) scan.uses ≡ uses_after start all
  pub used : All (IsUse scan.classes) scan.uses

-- the position of an event at this line
abbrev pub happens : ℕ → PlainEvent → Position
happens line event = record { line = line; says = Ok event }

-- wherever the old scan was, the new one is one event further, which stands at this line
abbrev pub IsStep : Scan → ℕ → PlainEvent → Scan → Type 0
IsStep old line event new =
    (start : Start) (all : List Position) → IsAt start all old
    → IsAt start (all ++ happens line event ∷ []) new

-- a fault that is answered is that of the event, wherever the old scan was
abbrev pub IsItsFault : {A : Type 0} → Scan → PlainEvent → Result A Stop → Type 0
IsItsFault old event answer =
    (fault : TraceFault) → answer ≡ Err (Fault fault)
    → (start : Start) (all : List Position) → IsAt start all old
    → event_fault (events all) event ≡ Some fault

-- a scan before the first trace, which knows these names already
abbrev pub fresh_scan : List PlainClass → Scan
fresh_scan names = record {
  tasks = [];
  classes = names;
  own = [];
  locks = record { stacks = []; interrupts = []; edges = []; before = [] };
  uses = [];
  before = record { classes = length names; uses = 0 };
}

-- what a scan has, as the start of another trace
abbrev pub start_of : Scan → Start
start_of scan = record {
  classes = scan.classes;
  edges = map (named_dependency scan.classes) scan.locks.edges;
  uses = map (named_use scan.classes) scan.uses;
}

-- the scan when another trace begins on top of what it has
abbrev pub begun : Scan → Scan
begun scan = record scan {
  tasks = [];
  own = [];
  locks = record { stacks = []; interrupts = []; edges = scan.locks.edges; before = scan.locks.edges };
  before = record { classes = length scan.classes; uses = length scan.uses };
}

-- what the old scan had stands first in the new one, which is still that of the same trace
pub record StandsOn (old new : Scan) : Type 0 where
  pub classes : take (length old.classes) new.classes ≡ old.classes
  pub edges : new.locks.before ≡ old.locks.before
  pub before : new.before ≡ old.before
  pub uses : take (length old.uses) new.uses ≡ old.uses

-- the scan without what its trace added
abbrev pub undone : Scan → Scan
undone scan = record scan {
  tasks = [];
  classes = take scan.before.classes scan.classes;
  own = [];
  locks = record { stacks = []; interrupts = []; edges = scan.locks.before; before = scan.locks.before };
  uses = take scan.before.uses scan.uses;
}

-- the task has this number now, and all else is as before
pub record HasTask (old : Scan) (name : List ℕ) (id : ℕ) (new : Scan) : Type 0 where
  pub tasks : new.tasks ≡ with_task old.tasks name
  pub place : IsTaskAt new.tasks id name
  pub fits : place_of_task old.tasks name ≡ None → length old.tasks < MOST_TASKS
  pub many : AreMany new
  pub classes : new.classes ≡ old.classes
  pub own : new.own ≡ old.own
  pub stacks : (k : ℕ) → slice_index_or new.locks.stacks k [] ≡ slice_index_or old.locks.stacks k []
  pub interrupts : (k : ℕ)
      → slice_index_or new.locks.interrupts k fresh ≡ slice_index_or old.locks.interrupts k fresh
  pub edges : new.locks.edges ≡ old.locks.edges
  pub uses : new.uses ≡ old.uses

-- an acquisition by this way of taking a lock
abbrev pub acquisition : AcquireKind → List ℕ → PlainLock → PlainEvent
acquisition Waiting task lock = Acquire task lock
acquisition Trying task lock = Try task lock
acquisition (Nesting sub) task lock = Nested task lock sub

-- whether the task may have waited for it, whatever task and lock
abbrev pub waits : AcquireKind → Bool
waits how = may_wait (acquisition how [] (record { class = []; instance = None }))

-- the class that it acquires
abbrev pub class_taken : AcquireKind → PlainLock → PlainClass
class_taken how lock = class_with lock (sub_taken (acquisition how [] lock))

-- the scan when the task waits at this line for a lock of the class with this number: the dependencies are told, in
-- whatever order, and the class is used in the task's contexts
pub record HasWaited (old : Scan) (id class line : ℕ) (new : Scan) : Type 0 where
  pub told : Tells (map (λ hold. hold.class) (inner_of old.locks id)) class line old.locks new.locks
  pub others : new ≡ record old {
    locks = new.locks;
    uses = fold with_use old.uses (in_facts (slice_index_or old.locks.interrupts id fresh) line class);
  }

-- the scan when the task holds the lock, which counts under its flags
abbrev pub taken : Scan → ℕ → ℕ → PlainLock → ℕ → Scan
taken scan id class lock line =
    let held = slice_index_or scan.locks.stacks id [] in
    let stack = held ++ record { lock = lock; class = class } ∷ [] in
    let interrupts = slice_index_or scan.locks.interrupts id fresh in
    record scan {
      locks = record scan.locks { stacks = slice_set scan.locks.stacks id stack };
      uses = fold with_use scan.uses (on_facts interrupts line (class ∷ []));
    }
