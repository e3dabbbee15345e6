-- Which lines a call writes of a task, and what it makes of it.
use Rattle.std.specs.Prelude.{◌≡◌, nat_lt, Bool, true, false, ◌&&◌, not, List, [], ◌∷◌, ◌++◌, filter, length, None, if◌then◌else◌}
use Rattle.std.specs.List.{list_any}
use Rattle.ld_trace.specs.declared.event.State.{State}
use Rattle.ld_trace.specs.declared.event.State.TheVariants.{Hard, Soft}
use Rattle.ld_rules.specs.declared.outcome.TheConstants.{MOST_HELD}
use Rattle.ld_rules.specs.Flags.{flag_for}
use Rattle.ld_tracks.specs.declared.line.Flags.{Flags}
use Rattle.ld_tracks.specs.declared.line.Held.{Held}
use Rattle.ld_tracks.specs.declared.line.How.{How}
use Rattle.ld_tracks.specs.declared.line.Lock.{Lock}
use Rattle.ld_tracks.specs.declared.line.Line.{Line}
use Rattle.ld_tracks.specs.declared.line.Line.TheVariants.{Begin, Acquire, Release, Enter, Enable, Disable}
use Rattle.ld_tracks.specs.declared.place.Place.{Place}
use Rattle.ld_tracks.specs.Format.{Frame, PlainTrack, acquired, depth, entered, is_at, is_handler, is_of, released, set_flag}
use Rattle.ld_tracks.specs.Place.{has_effect, inner_of, outer_of}

-- a task that is at this place and holds these locks
abbrev pub track_at : Bool → Place → List Held → PlainTrack
track_at is_new place held = record { is_new = is_new; inner = inner_of place; outer = outer_of place; held = held }

-- a task without a line: outside handlers, with both flags on and nothing held
abbrev pub fresh : PlainTrack
fresh = record {
  is_new = true;
  inner = record { state = None; flags = record { hard = true; soft = true } };
  outer = [];
  held = [];
}

-- the flag of the state in the innermost frame
abbrev pub flag_now : State → PlainTrack → Bool
flag_now state t = flag_for state t.inner.flags.hard t.inner.flags.soft

-- *A flag changes* if it has an effect there, and isn't so already.
abbrev pub changes : State → Bool → PlainTrack → Bool
changes state true t = has_effect state t.inner && not (flag_now state t)
changes state false t = has_effect state t.inner && flag_now state t

abbrev pub flag_line : State → Bool → Line
flag_line state true = Enable state
flag_line state false = Disable state

abbrev pub flag_lines : State → Bool → PlainTrack → List Line
flag_lines state on t = if changes state on t then flag_line state on ∷ [] else []

abbrev pub flagged : State → Bool → PlainTrack → PlainTrack
flagged state on t = if changes state on t then set_flag state on t else t

-- *A task begins* by its flags outside handlers, as its first line, unless both are on.
abbrev pub begins : Flags → PlainTrack → Bool
begins flags t = t.is_new && (not (is_handler t.inner) && not (flags.hard && flags.soft))

abbrev pub begin_lines : Flags → PlainTrack → List Line
begin_lines flags t = if begins flags t then Begin flags ∷ [] else []

abbrev pub begun : Flags → PlainTrack → PlainTrack
begun flags t = if begins flags t then record t { is_new = false; inner = record t.inner { flags = flags } } else t

-- *A handler begins* where interrupts of its state are enabled: if they aren't, the flags go on before it.
abbrev pub ready : State → PlainTrack → PlainTrack
ready Hard t = flagged Hard true t
ready Soft t = flagged Soft true (flagged Hard true t)

abbrev pub ready_lines : State → PlainTrack → List Line
ready_lines Hard t = flag_lines Hard true t
ready_lines Soft t = flag_lines Hard true t ++ flag_lines Soft true (flagged Hard true t)

abbrev pub enter_lines : State → PlainTrack → List Line
enter_lines state t = if has_effect state t.inner then ready_lines state t ++ Enter state ∷ [] else []

abbrev pub handled : State → PlainTrack → PlainTrack
handled state t = if has_effect state t.inner then entered state (ready state t) else t

-- *A lock is acquired* if the task has room for it.
abbrev pub has_room : PlainTrack → Bool
has_room t = nat_lt (length t.held) MOST_HELD

abbrev pub acquire_lines : How → Lock → PlainTrack → List Line
acquire_lines how lock t = if has_room t then Acquire how lock ∷ [] else []

abbrev pub holding : Lock → PlainTrack → PlainTrack
holding lock t = if has_room t then acquired lock t else t

-- *A lock is released* if the task holds it in its innermost frame.
abbrev pub holds_here : Lock → PlainTrack → Bool
holds_here lock t = list_any (is_of (depth t) lock) t.held

abbrev pub release_lines : Lock → PlainTrack → List Line
release_lines lock t = if holds_here lock t then Release lock ∷ [] else []

abbrev pub without : Lock → PlainTrack → PlainTrack
without lock t = if holds_here lock t then released lock t else t

-- *A handler ends* with none of its locks held, and what it interrupted goes on as it was. Where no handler
-- runs nothing ends.
abbrev pub elsewhere : PlainTrack → List Held
elsewhere t = filter (λ one. not (is_at (depth t) one)) t.held

abbrev pub IsBehind : List Frame → PlainTrack → PlainTrack → Type 0
IsBehind [] t after = after ≡ t
IsBehind (frame ∷ frames) t after =
    after ≡ record { is_new = false; inner = frame; outer = frames; held = elsewhere t }
