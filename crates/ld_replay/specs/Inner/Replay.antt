-- How far a source is read. The loops of this crate cite this, and no promise.
use Rattle.std.specs.Prelude.{◌≡◌, ◌≤◌, ◌<◌, ◌==◌, ℕ, All, List, [], ◌∷◌, Option, None, Ok, Err, ◌++◌, length, map, filter}
use Rattle.std.specs.List.{enumerate_from, filter_map}
use Rattle.ld_trace.specs.Lines.{lines, text_of}
use Rattle.ld_trace.specs.Sources.{PlainSource}
use Rattle.ld_trace.specs.Events.{PlainEvent, Position, Said, position_of, positions, said_by}
use Rattle.ld_rules.specs.Outcome.{events}
use Rattle.ld_replay.specs.HeldAt.{lines_at}
use Rattle.ld_replay.specs.Inner.Task.{IsAfter, PlainTask, task_in}
use Rattle.ld_replay.specs.declared.lines.Reading.{Reading}

-- the positions of lines, the first of which has this number
abbrev pub positions_from : ℕ → List (List ℕ) → List Position
positions_from n all = filter_map (λ p. position_of p.0 (said_by (text_of p.1))) (enumerate_from n all)

-- the lines with this number among lines, the first of which has the number n
abbrev pub lines_from : ℕ → List (List ℕ) → ℕ → List (List ℕ)
lines_from n all line = map (λ p. p.1) (filter (λ p. p.0 == line) (enumerate_from n all))

-- what a line says as an event
abbrev pub event_of : Said → Option PlainEvent
event_of (Ok event) = event
event_of (Err fault) = None

-- the event that the first of some lines says
abbrev pub first_said : List (List ℕ) → Option PlainEvent
first_said [] = None
first_said (line ∷ others) = event_of (said_by (text_of line))

-- what is left of the source has each line that isn't passed
abbrev pub IsReading : PlainSource → Reading → Type 0
IsReading source reading =
    (line : ℕ) → reading.number ≤ line →
    lines_at source line ≡ lines_from reading.number (lines reading.rest.now) line

-- the positions before these lines, with what each task has open after them, and how many events they are
pub record IsReplayed (source : PlainSource) (number : ℕ) (rest : List ℕ) (place : ℕ) (tasks : List PlainTask) : Type 0 where
  pub past : List Position
  pub whole : positions source ≡ past ++ positions_from number (lines rest)
  pub passed : All (λ p. p.line < number) past
  pub after : (name : List ℕ) → IsAfter past (task_in tasks name)
  pub count : place ≡ length (events past)
