-- The lines of a task that say what it is in and holds.
use Rattle.std.specs.Prelude.{◌≡◌, ℕ, Bool, true, false, ◌&&◌, List, [], ◌∷◌, ◌++◌, map, flat_map, fold, IfSome, Option, Some, None, Ok, All, if◌then◌else◌}
use Rattle.std.specs.Option.{option_map, option_to_list}
use Rattle.std.specs.Str.{bytes_eq}
use Rattle.ld_trace.specs.declared.event.State.{State}
use Rattle.ld_trace.specs.declared.event.State.TheVariants.{Hard, Soft}
use Rattle.ld_trace.specs.Lines.{is_empty, lines, text_of}
use Rattle.ld_trace.specs.Events.{PlainEvent, PlainLock, plain_lock, said_by}
use Rattle.ld_trace.specs.Events.PlainEvent.{Acquire, Try, Nested, Release, Enter, Exit, Enable, Disable, Begin}
use Rattle.ld_rules.specs.Frames.{task_of}
use Rattle.ld_rules.specs.Held.{same_lock}
use Rattle.ld_rules.specs.Inner.Scanned.{remove_last}
use Rattle.ld_reduce.specs.Written.{ended}
use Rattle.ld_cut.specs.declared.task.Hold.{Hold}
use Rattle.ld_cut.specs.declared.task.Flag.{Flag}
use Rattle.ld_cut.specs.declared.task.Begun.{Begun}
use Rattle.ld_cut.specs.State.{PlainState, after, idle}

-- an acquisition that is open, how a line sets a flag, and how one sets both; each with its line
pub record KeptHold : Type 0 where
  pub line : List ℕ
  pub lock : PlainLock
  pub sub : ℕ

pub record KeptFlag : Type 0 where
  pub line : List ℕ
  pub on : Bool

pub record KeptBegun : Type 0 where
  pub line : List ℕ
  pub hard : Bool
  pub soft : Bool

abbrev pub kept_hold : Hold → KeptHold
kept_hold hold = record { line = hold.line.now; lock = plain_lock hold.lock; sub = hold.sub }

abbrev pub kept_flag : Flag → KeptFlag
kept_flag flag = record { line = flag.line.now; on = flag.on }

abbrev pub kept_begun : Begun → KeptBegun
kept_begun begun = record { line = begun.line.now; hard = begun.hard; soft = begun.soft }

-- what stands in one frame
pub record KeptFrame : Type 0 where
  pub begun : Option KeptBegun
  pub hard : Option KeptFlag
  pub soft : Option KeptFlag
  pub held : List KeptHold

-- a frame, and the handler that began over it
pub record KeptAround : Type 0 where
  pub frame : KeptFrame
  pub line : List ℕ
  pub state : State

-- a task: its innermost frame, and those around it, the outermost first
pub record KeptTask : Type 0 where
  pub name : List ℕ
  pub inner : KeptFrame
  pub outer : List KeptAround

-- a frame in which nothing is said, and a task before its first event
abbrev pub bare : KeptFrame
bare = record { begun = None; hard = None; soft = None; held = [] }

abbrev pub new_task : List ℕ → KeptTask
new_task name = record { name = name; inner = bare; outer = [] }

-- a line with what it does
pub record Kept : Type 0 where
  pub line : List ℕ
  pub event : PlainEvent

abbrev pub flag_event : List ℕ → State → Bool → PlainEvent
flag_event task state true = Enable task state
flag_event task state false = Disable task state

abbrev pub of_begun : List ℕ → KeptBegun → Kept
of_begun task begun = record { line = begun.line; event = Begin task begun.hard begun.soft }

abbrev pub of_flag : List ℕ → State → KeptFlag → Kept
of_flag task state flag = record { line = flag.line; event = flag_event task state flag.on }

abbrev pub of_hold : List ℕ → KeptHold → Kept
of_hold task hold = record { line = hold.line; event = Nested task hold.lock hold.sub }

abbrev pub of_enter : List ℕ → KeptAround → Kept
of_enter task around = record { line = around.line; event = Enter task around.state }

-- the lines of a frame: those that set its flags come first
abbrev pub of_frame : List ℕ → KeptFrame → List Kept
of_frame task frame =
    option_to_list (option_map (of_begun task) frame.begun)
    ++ (option_to_list (option_map (of_flag task Hard) frame.hard)
    ++ (option_to_list (option_map (of_flag task Soft) frame.soft) ++ map (of_hold task) frame.held))

abbrev pub of_around : List ℕ → KeptAround → List Kept
of_around task around = of_frame task around.frame ++ of_enter task around ∷ []

abbrev pub of_task : KeptTask → List Kept
of_task task = flat_map (of_around task.name) task.outer ++ of_frame task.name task.inner

-- what these lines make of a task
abbrev pub after_kept : PlainState → List Kept → PlainState
after_kept t kept = fold after t (map (λ k. k.event) kept)

abbrev pub stands : KeptTask → PlainState
stands task = after_kept idle (of_task task)

-- these lines as bytes
abbrev pub text_of_kept : List Kept → List ℕ
text_of_kept kept = flat_map (λ k. ended k.line) kept

-- It is one line, which says an event of the task that does just this.
pub record IsSaid (task : List ℕ) (kept : Kept) : Type 0 where
  pub one : lines kept.line ≡ kept.line ∷ []
  pub event : PlainEvent
  pub says : said_by (text_of kept.line) ≡ Ok (Some event)
  pub of : task_of event ≡ task
  pub does : (t : PlainState) → after t event ≡ after t kept.event

abbrev pub AreSaid : List ℕ → List Kept → Type 0
AreSaid task kept = All (IsSaid task) kept

-- each line of a frame is said, and each of a task
pub record IsToldFrame (task : List ℕ) (frame : KeptFrame) : Type 0 where
  pub begun : IfSome frame.begun (λ begun. IsSaid task (of_begun task begun))
  pub hard : IfSome frame.hard (λ flag. IsSaid task (of_flag task Hard flag))
  pub soft : IfSome frame.soft (λ flag. IsSaid task (of_flag task Soft flag))
  pub held : All (λ hold. IsSaid task (of_hold task hold)) frame.held

pub record IsTold (task : KeptTask) : Type 0 where
  pub inner : IsToldFrame task.name task.inner
  pub frames : All (λ around. IsToldFrame task.name around.frame) task.outer
  pub enters : All (λ around. IsSaid task.name (of_enter task.name around)) task.outer

-- one more lock is held in a frame; the latest acquisition of a lock goes; a flag is set; both are

abbrev pub with_hold : KeptHold → KeptFrame → KeptFrame
with_hold hold frame = record frame { held = frame.held ++ hold ∷ [] }

abbrev pub is_of : PlainLock → KeptHold → Bool
is_of lock hold = same_lock lock hold.lock

-- the same of a hold as it lies in memory
abbrev pub is_hold_of : PlainLock → Hold → Bool
is_hold_of lock hold = same_lock lock (plain_lock hold.lock)

abbrev pub without : PlainLock → KeptFrame → KeptFrame
without lock frame = record frame { held = remove_last (is_of lock) frame.held }

abbrev pub with_set : State → KeptFlag → KeptFrame → KeptFrame
with_set Hard flag frame = record frame { hard = Some flag }
with_set Soft flag frame = record frame { soft = Some flag }

abbrev pub with_begun : KeptBegun → KeptFrame → KeptFrame
with_begun begun frame = record frame { begun = Some begun; hard = None; soft = None }

-- whether a flag is on that was so before a line set it, if one did
abbrev pub is_on : Option KeptFlag → Bool → Bool
is_on None before = before
is_on (Some flag) before = flag.on

abbrev pub hard_begun : Option KeptBegun → Bool → Bool
hard_begun None before = before
hard_begun (Some begun) before = begun.hard

abbrev pub soft_begun : Option KeptBegun → Bool → Bool
soft_begun None before = before
soft_begun (Some begun) before = begun.soft

-- both flags are on, if they were before
abbrev pub has_both_on : KeptFrame → Bool
has_both_on frame = is_on frame.hard (hard_begun frame.begun true) && is_on frame.soft (soft_begun frame.begun true)

-- the frame without the lines that set its flags
abbrev pub without_flags : KeptFrame → KeptFrame
without_flags frame = record frame { begun = None; hard = None; soft = None }

abbrev pub is_outside : List KeptAround → Bool
is_outside [] = true
is_outside (around ∷ others) = false

-- outside handlers flags that are both on are as before the first event
abbrev pub settled : KeptTask → KeptTask
settled task = if is_outside task.outer && has_both_on task.inner then record task { inner = without_flags task.inner } else task

-- The second is the first behind the end of its innermost handler, where there is one.
pub record IsExited (task left : KeptTask) : Type 0 where
  pub name : left.name ≡ task.name
  pub outside : task.outer ≡ [] → left ≡ task
  pub inside : (others : List KeptAround) (around : KeptAround) → task.outer ≡ others ++ around ∷ [] → left ≡ record { name = task.name; inner = around.frame; outer = others }

-- the task in one more handler, which began at this line
abbrev pub in_handler : KeptTask → List ℕ → State → KeptTask
in_handler task line state = record {
  name = task.name;
  inner = bare;
  outer = task.outer ++ record { frame = task.inner; line = line; state = state } ∷ [];
}

-- the task with another innermost frame
abbrev pub in_frame : KeptFrame → KeptTask → KeptTask
in_frame frame task = record task { inner = frame }

-- The second is the first after an event of its own, which this line says.
abbrev pub IsChanged : KeptTask → PlainEvent → List ℕ → KeptTask → Type 0
IsChanged t (Acquire by lock) line new = new ≡ in_frame (with_hold (record { line = line; lock = lock; sub = 0 }) t.inner) t
IsChanged t (Try by lock) line new = new ≡ in_frame (with_hold (record { line = line; lock = lock; sub = 0 }) t.inner) t
IsChanged t (Nested by lock sub) line new = new ≡ in_frame (with_hold (record { line = line; lock = lock; sub = sub }) t.inner) t
IsChanged t (Release by lock) line new = new ≡ in_frame (without lock t.inner) t
IsChanged t (Enter by state) line new = new ≡ in_handler t line state
IsChanged t (Exit by state) line new = IsExited t new
IsChanged t (Enable by state) line new = new ≡ settled (in_frame (with_set state (record { line = line; on = true }) t.inner) t)
IsChanged t (Disable by state) line new = new ≡ settled (in_frame (with_set state (record { line = line; on = false }) t.inner) t)
IsChanged t (Begin by hard soft) line new = new ≡ settled (in_frame (with_begun (record { line = line; hard = hard; soft = soft }) t.inner) t)

-- the task of this name among those that had events
abbrev pub task_in : List KeptTask → List ℕ → KeptTask
task_in [] name = new_task name
task_in (task ∷ tasks) name = if bytes_eq name task.name then task else task_in tasks name

-- these tasks' lines, one task behind another
abbrev pub text_of_tasks : List KeptTask → List ℕ
text_of_tasks tasks = flat_map (λ task. text_of_kept (of_task task)) tasks
