-- What the trace format takes of the lines of one task. The limits on tasks and classes are a trace's.
use Rattle.std.specs.Prelude.{◌≡◌, ℕ, ◌+◌, ◌==◌, nat_lt, Bool, true, false, ◌&&◌, not, List, [], ◌∷◌, ◌++◌, length, Option, Some, None, if◌then◌else◌}
use Rattle.std.specs.List.{list_any}
use Rattle.ld_trace.specs.declared.event.State.{State}
use Rattle.ld_trace.specs.declared.event.State.TheVariants.{Hard, Soft}
use Rattle.ld_rules.specs.declared.outcome.TheConstants.{MOST_HELD}
use Rattle.ld_rules.specs.Flags.{same_state}
use Rattle.ld_rules.specs.Open.{is_some_and}
use Rattle.ld_rules.specs.Inner.Scanned.{remove_last}
use Rattle.ld_tracks.specs.declared.line.Flags.{Flags}
use Rattle.ld_tracks.specs.declared.line.Held.{Held}
use Rattle.ld_tracks.specs.declared.line.Lock.{Lock}
use Rattle.ld_tracks.specs.declared.line.Line.{Line}
use Rattle.ld_tracks.specs.declared.line.Line.TheVariants.{Begin, Acquire, Release, Enter, Exit, Enable, Disable}

-- a handler that runs over a task, or what runs outside any; and the flags there
pub record Frame : Type 0 where
  pub state : Option State
  pub flags : Flags

-- What the lines of a task have it be: whether it has no line yet, its innermost frame, those around that one
-- from the inside out, and its locks in order of acquisition.
pub record PlainTrack : Type 0 where
  pub is_new : Bool
  pub inner : Frame
  pub outer : List Frame
  pub held : List Held

-- how many frames it has
abbrev pub depth : PlainTrack → ℕ
depth t = length t.outer + 1

-- a frame of this state
abbrev pub is_in : State → Frame → Bool
is_in state frame = is_some_and (same_state state) frame.state

-- a frame of a handler
abbrev pub is_handler : Frame → Bool
is_handler frame = is_some_and (λ state. true) frame.state

abbrev pub with_flag : State → Bool → Flags → Flags
with_flag Hard on flags = record flags { hard = on }
with_flag Soft on flags = record flags { soft = on }

-- a handler's frame, as it begins over this one: the flag of its own state is off
abbrev pub handler : State → Frame → Frame
handler state around = record { state = Some state; flags = with_flag state false around.flags }

-- softirqs come in only if both flags are on
abbrev pub lets_in : State → Flags → Bool
lets_in Hard flags = flags.hard
lets_in Soft flags = flags.hard && flags.soft

-- a handler of the state may begin over these frames
abbrev pub nests : State → List Frame → Bool
nests Hard frames = not (list_any (is_in Hard) frames)
nests Soft frames = not (list_any is_handler frames)

abbrev pub same_lock : Lock → Lock → Bool
same_lock a b = a.name == b.name && a.address == b.address

-- acquired at this depth
abbrev pub is_at : ℕ → Held → Bool
is_at depth one = one.depth == depth

-- this lock, acquired at this depth
abbrev pub is_of : ℕ → Lock → Held → Bool
is_of depth lock one = is_at depth one && same_lock lock one.lock

-- the task with a flag of its innermost frame set
abbrev pub set_flag : State → Bool → PlainTrack → PlainTrack
set_flag state on t = record t { is_new = false; inner = record t.inner { flags = with_flag state on t.inner.flags } }

-- the task with one more lock
abbrev pub acquired : Lock → PlainTrack → PlainTrack
acquired lock t = record t { is_new = false; held = t.held ++ record { lock = lock; depth = depth t } ∷ [] }

-- the task without its latest acquisition of the lock in its innermost frame
abbrev pub released : Lock → PlainTrack → PlainTrack
released lock t = record t { is_new = false; held = remove_last (is_of (depth t) lock) t.held }

-- the task in one more handler
abbrev pub entered : State → PlainTrack → PlainTrack
entered state t = record t { is_new = false; inner = handler state t.inner; outer = t.inner ∷ t.outer }

-- the task behind the end of its innermost handler, if there is one
abbrev pub exited : List Frame → PlainTrack → Option PlainTrack
exited [] t = None
exited (frame ∷ frames) t = Some (record t { is_new = false; inner = frame; outer = frames })

-- What a line of the task makes of it; `None` if the format rejects the line there.
abbrev pub after_line : PlainTrack → Line → Option PlainTrack
after_line t (Begin flags) =
    if t.is_new then Some (record t { is_new = false; inner = record t.inner { flags = flags } }) else None
after_line t (Acquire how lock) = if nat_lt (length t.held) MOST_HELD then Some (acquired lock t) else None
after_line t (Release lock) = if list_any (is_of (depth t) lock) t.held then Some (released lock t) else None
after_line t (Enter state) =
    if nests state (t.inner ∷ t.outer) && lets_in state t.inner.flags then Some (entered state t) else None
after_line t (Exit state) =
    if is_in state t.inner && not (list_any (is_at (depth t)) t.held) then exited t.outer t else None
after_line t (Enable state) =
    if list_any (is_in state) (t.inner ∷ t.outer) then None else Some (set_flag state true t)
after_line t (Disable state) = Some (set_flag state false t)

-- what lines of the task make of it; `None` if one is rejected
abbrev pub after_lines : Option PlainTrack → List Line → Option PlainTrack
after_lines t [] = t
after_lines None (line ∷ lines) = None
after_lines (Some t) (line ∷ lines) = after_lines (after_line t line) lines

-- Lines were added, each of which the format takes: they lead from the one state to the other.
pub record Writes (before : PlainTrack) (old : List Line) (after : PlainTrack) (new : List Line) : Type 0 where
  pub said : List Line
  pub added : new ≡ old ++ said
  pub taken : after_lines (Some before) said ≡ Some after
