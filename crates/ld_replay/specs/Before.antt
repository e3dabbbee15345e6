-- What stands at a line of a source: its bytes, and what the task of its event has open there.
use Rattle.std.specs.Prelude.{◌≡◌, ℕ, List, [], ◌∷◌, Option, MatchOption}
use Rattle.std.specs.Borrow.{Bor}
use Rattle.ld_trace.specs.Sources.{PlainSource}
use Rattle.ld_trace.specs.Events.{Position, plain_event, positions}
use Rattle.ld_rules.specs.Frames.{task_of}
use Rattle.ld_replay.specs.declared.before.Before.{Before}
use Rattle.ld_replay.specs.HeldAt.{before_line, events_at, lines_at}
use Rattle.ld_replay.specs.Inner.Task.{IsAfter}

-- the line with this number in the stream, if the source has one
abbrev pub IsLine : PlainSource → ℕ → Option (Bor (List ℕ)) → Type 0
IsLine source number line =
    MatchOption line (lines_at source number ≡ []) (λ found. lines_at source number ≡ found.now ∷ [])

-- the task is that of the event, and this is what it has open after these positions
pub record IsOpen (past : List Position) (before : Before) : Type 0 where
  pub name : before.task.name ≡ task_of (plain_event before.event)
  pub after : IsAfter past before.task

-- the event at the line, if there is one, and what its task has open just before it
abbrev pub IsBefore : PlainSource → ℕ → Option Before → Type 0
IsBefore source line found =
    MatchOption found (events_at (positions source) line ≡ []) (λ before.
    (events_at (positions source) line ≡ plain_event before.event ∷ []) × IsOpen (before_line (positions source) line) before)
