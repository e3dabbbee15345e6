-- What a task holds at a line of its trace, with the line of each acquisition. Positions are read here as a
-- past: those up to a position stand for "at" it, and those before it for "just before" it.
use Rattle.std.specs.Prelude.{◌≡◌, ℕ, ◌==◌, nat_lt, List, map, filter, filter_map, slice_index_or, Option, Some}
use Rattle.std.specs.List.{enumerate_from}
use Rattle.std.specs.Option.{option_map}
use Rattle.std.specs.Str.{bytes_eq}
use Rattle.ld_trace.specs.declared.event.State.{State}
use Rattle.ld_trace.specs.Lines.{lines}
use Rattle.ld_trace.specs.Sources.{PlainSource}
use Rattle.ld_trace.specs.Events.{PlainEvent, Position, plain_event, plain_lock}
use Rattle.ld_rules.specs.Open.{Opening, openings}
use Rattle.ld_rules.specs.Frames.{frame_of, frames, state_entered, task_of}
use Rattle.ld_rules.specs.Held.{Acquisition, acquires, acquisition_of, class_with, held_in, placed, releases, same_frame, same_key}
use Rattle.ld_rules.specs.Outcome.{event_said, events}
use Rattle.ld_rules.specs.Dependency.{Seen}
use Rattle.ld_replay.specs.declared.hold.Handler.{Handler}
use Rattle.ld_replay.specs.declared.hold.Hold.{Hold}
use Rattle.ld_replay.specs.declared.hold.HeldAt.{HeldAt}

-- the lines of a source with this number in the stream: one, or none
abbrev pub lines_at : PlainSource → ℕ → List (List ℕ)
lines_at source line =
    map (λ p. p.1) (filter (λ p. p.0 == line) (enumerate_from source.first_line (lines source.bytes)))

-- the events at a line: one, or none
abbrev pub events_at : List Position → ℕ → List PlainEvent
events_at all line = events (filter (λ p. p.line == line) all)

-- the positions before a line
abbrev pub before_line : List Position → ℕ → List Position
before_line all line = filter (λ p. nat_lt p.line line) all

-- the lines of the events of these positions: that of each event stands at the event's place
abbrev pub event_lines : List Position → List ℕ
event_lines past = filter_map (λ p. option_map (λ event. p.line) (event_said p.says)) past

-- something that an event opened, with the line of that event
abbrev pub opened_at : {X K A : Type 0} → (Opening X K → A) → List ℕ → Opening X K → Seen A
opened_at what lines o = record { what = what o; line = slice_index_or lines o.place 0 }

-- the open acquisitions of *Held locks*, each with the line of its event
abbrev pub held_lines : List Position → List (Seen Acquisition)
held_lines past =
    map (opened_at acquisition_of (event_lines past))
    (openings same_key acquires releases (placed (events past)))

-- those of one task, over all its frames
abbrev pub held_lines_by : List Position → List ℕ → List (Seen Acquisition)
held_lines_by past task = filter (λ one. bytes_eq task one.what.key.task) (held_lines past)

-- those of one task in one frame of it
abbrev pub held_lines_in : List Position → List ℕ → Option ℕ → List (Seen Acquisition)
held_lines_in past task frame =
    filter (λ one. same_frame frame one.what.key.frame) (held_lines_by past task)

-- the frames of a task, the outermost first: the state of each, and the line of its enter
abbrev pub handler_lines : List Position → List ℕ → List (Seen (Option State))
handler_lines past task =
    map (opened_at (λ o. state_entered o.element) (event_lines past)) (frames (events past) task)

-- a held lock without where its names lie in memory
abbrev pub plain_hold : List ℕ → Hold → Seen Acquisition
plain_hold task hold = record {
  what = record {
    key = record { task = task; frame = hold.frame; lock = plain_lock hold.lock };
    class = class_with (plain_lock hold.lock) hold.sub;
  };
  line = hold.line;
}

abbrev pub plain_handler : Handler → Seen (Option State)
plain_handler handler = record { what = Some handler.state; line = handler.line }

-- What the task of an event after these positions holds and where it is: the locks are those of *Held locks*
-- in the task's frame, and each stands with the line of its acquisition.
pub record IsHeldAt (past : List Position) (at : HeldAt) : Type 0 where
  pub held :
      map (λ one. one.what) (map (plain_hold (task_of (plain_event at.event))) at.holds.items)
      ≡ held_in (events past) (task_of (plain_event at.event)) (frame_of (events past) (task_of (plain_event at.event)))
  pub lines :
      map (plain_hold (task_of (plain_event at.event))) at.holds.items
      ≡ held_lines_in past (task_of (plain_event at.event)) (frame_of (events past) (task_of (plain_event at.event)))
  pub handlers :
      map plain_handler at.handlers.items ≡ handler_lines past (task_of (plain_event at.event))
