-- Names of tasks that were met, and the tasks of a trace among them. Only the invariant and the view of
-- `TaskNames` cite it.
use Rattle.std.specs.Prelude.{◌≡◌, ◌<◌, ◌≤◌, ◌+◌, ℕ, List, length, map, slice_index_or}
use Rattle.std.specs.Prelude.{All}
use Rattle.ld_class.specs.Names.{AreDistinct, PlainClass, class_of_task, no_class}

-- the names of the tasks with these numbers, in the order of the numbers
abbrev pub tasks_at : List PlainClass → List ℕ → List (List ℕ)
tasks_at known numbers = map (λ n. (slice_index_or known n no_class).name) numbers

-- Those that are known are named as tasks are, each once; the tasks of the trace are some of them, each
-- once; and there are at most `most` more than those of the trace.
pub record AreTasksAmong (most : ℕ) (known : List PlainClass) (here : List ℕ) : Type 0 where
  pub named : known ≡ map class_of_task (map (λ class. class.name) known)
  pub distinct : AreDistinct known
  pub within : All (λ n. n < length known) here
  pub few : length known ≤ most + length here
