-- *Dependency*.
use Rattle.std.specs.Prelude.{ℕ, Bool, ◌&&◌, List, [], map, min, take, filter, flat_map, Option}
use Rattle.std.specs.Prelude.{Some, None, Result, Ok, Err}
use Rattle.std.specs.List.{enumerate_from, reduce}
use Rattle.ld_class.specs.Names.{PlainClass, same_class}
use Rattle.ld_trace.specs.declared.event.LineFault.{LineFault}
use Rattle.ld_trace.specs.Events.{PlainEvent, Position}
use Rattle.ld_rules.specs.Frames.{frame_of, task_of}
use Rattle.ld_rules.specs.Held.{class_awaited, held_in}
use Rattle.ld_rules.specs.Outcome.{events}

-- (a, b): the class of a lock that was held, and that of the lock acquired under it
pub record Dependency : Type 0 where
  pub from : PlainClass
  pub to : PlainClass

abbrev pub same_dependency : Dependency → Dependency → Bool
same_dependency a b = same_class a.from b.from && same_class a.to b.to

-- those of a task that waits for this class, if it waits
abbrev pub dependencies_to : List PlainEvent → List ℕ → Option PlainClass → List Dependency
dependencies_to past task None = []
dependencies_to past task (Some class) =
    map (λ one. record { from = one.class; to = class }) (held_in past task (frame_of past task))

-- The dependencies that stand at an event after these. (a, b) stands at p if p is a waiting
-- acquisition of class b by t and some acquisition of class a by t, of the same frame, is open just
-- before p.
abbrev pub dependencies_at : List PlainEvent → PlainEvent → List Dependency
dependencies_at past event = dependencies_to past (task_of event) (class_awaited event)

-- something that stands at a line
pub record Seen (A : Type 0) : Type 0 where
  pub what : A
  pub line : ℕ

-- what stands at one position, where these events came before
abbrev pub seen_at : {A : Type 0} → (List PlainEvent → PlainEvent → List A) → List PlainEvent → ℕ
    → Result PlainEvent LineFault → List (Seen A)
seen_at at past line (Ok event) = map (λ what. record { what = what; line = line }) (at past event)
seen_at at past line (Err fault) = []

-- what stands at the positions, in order of line
abbrev pub seen : {A : Type 0} → (List PlainEvent → PlainEvent → List A) → List Position
    → List (Seen A)
seen at all =
    flat_map (λ p. seen_at at (events (take p.0 all)) p.1.line p.1.says) (enumerate_from 0 all)

-- the least of the lines at which this stands among these, and nothing where it doesn't stand there
abbrev pub least_line : {A : Type 0} → (A → A → Bool) → List (Seen A) → A → Option ℕ
least_line same all what = reduce min (map (λ s. s.line) (filter (λ s. same what s.what) all))
