-- The faults of an acquisition.
use Rattle.std.proofs.Common.{◌≡◌, ◌<◌, ◌≤◌, [], ◌∷◌, true, false, ℕ, List, None, Some, length, refl, sym}
use Rattle.std.proofs.Common.{arith, slice_index_or}
use Rattle.std.proofs.lemmas.Bool.{eq-eqb, ne_eqb, true≢false}
use Rattle.std.proofs.lemmas.List.{length-map}
use Rattle.std.proofs.lemmas.Slice.Eq.{bytes_eq-Decides}
use Rattle.std.specs.Str.{bytes_eq}
use Rattle.ld_class.specs.Names.{no_class, place_of, place_of_task, same_class}
use Rattle.ld_class.proofs.NameLemmas.{same_class-Decides}
use Rattle.ld_trace.specs.Events.{PlainEvent, PlainLock, Position}
use Rattle.ld_rules.specs.declared.fault.TraceFault.TheVariants.{TooManyClasses, TooDeep}
use Rattle.ld_rules.specs.declared.outcome.TheConstants.{MOST_CLASSES, MOST_HELD, MOST_TASKS}
use Rattle.ld_facts.specs.declared.scan.Scan.{Scan}
use Rattle.ld_rules.specs.Frames.{task_of}
use Rattle.ld_rules.specs.Held.{class_awaited, class_with, held_by, lock_acquired, sub_taken}
use Rattle.ld_rules.specs.Inner.Levels.{is_interrupt}
use Rattle.ld_rules.specs.Outcome.{classes, event_fault, events, is_bad_enable, is_bad_exit, is_badly_nested}
use Rattle.ld_rules.specs.Held.{class_acquired}
use Rattle.ld_rules.specs.Outcome.{is_held_at_exit, is_late_begin, is_masked, is_not_held, is_one_too_many, tasks}
use Rattle.ld_facts.specs.declared.acquire_kind.AcquireKind.{AcquireKind}
use Rattle.ld_facts.specs.declared.acquire_kind.AcquireKind.TheVariants.{Nesting, Trying, Waiting}
use Rattle.ld_facts.specs.Inner.Scan.{IsAt, Start, acquisition, class_taken, own_names, waits}
use Rattle.ld_rules.proofs.HeldLemmas.{acquisition_at}
use Rattle.ld_rules.proofs.UsageLemmas.{newly_held}
use Rattle.ld_facts.proofs.TaskLemmas.{is_one_too_many-fits, is_one_too_many-full}

-- an acquisition is of its task and its lock
module _ (name : List ℕ) (lock : PlainLock) where
  pub acquired : (how : AcquireKind) → lock_acquired (acquisition how name lock) ≡ Some lock
  acquired (Nesting sub) = refl
  acquired Trying = refl
  acquired Waiting = refl

  pub class-acquired : (how : AcquireKind) → class_acquired (acquisition how name lock) ≡ Some (class_taken how lock)
  class-acquired (Nesting sub) = refl
  class-acquired Trying = refl
  class-acquired Waiting = refl

  pub class-named : (how : AcquireKind) → class_with lock (sub_taken (acquisition how name lock)) ≡ class_taken how lock
  class-named (Nesting sub) = refl
  class-named Trying = refl
  class-named Waiting = refl

  -- the class that it waits for, where it waits
  pub class-awaited : (how : AcquireKind) → waits how ≡ true → class_awaited (acquisition how name lock) ≡ Some (class_taken how lock)
  class-awaited (Nesting sub) is = refl
  class-awaited Trying is = absurd (true≢false (sym is))
  class-awaited Waiting is = refl

  pub none-awaited : (how : AcquireKind) → waits how ≡ false → class_awaited (acquisition how name lock) ≡ None
  none-awaited (Nesting sub) is = absurd (true≢false is)
  none-awaited Trying is = refl
  none-awaited Waiting is = absurd (true≢false is)

  -- what it may newly count
  pub counts-itself : (how : AcquireKind) (past : List PlainEvent) → newly_held past (acquisition how name lock) ≡
      acquisition_at past (acquisition how name lock) lock ∷ []
  counts-itself (Nesting sub) past = refl
  counts-itself Trying past = refl
  counts-itself Waiting past = refl

  pub task-acquired : (how : AcquireKind) → task_of (acquisition how name lock) ≡ name
  task-acquired (Nesting sub) = refl
  task-acquired Trying = refl
  task-acquired Waiting = refl

  pub calm : (how : AcquireKind) → is_interrupt (acquisition how name lock) ≡ false
  calm (Nesting sub) = refl
  calm Trying = refl
  calm Waiting = refl

-- it has none of the later faults
record NoLater (past : List PlainEvent) (event : PlainEvent) : Type 0 where
  is_held : is_not_held past event ≡ false
  nests : is_badly_nested past event ≡ false
  unmasked : is_masked past event ≡ false
  exits : is_bad_exit past event ≡ false
  holds_none : is_held_at_exit past event ≡ false
  enables : is_bad_enable past event ≡ false
  begins : is_late_begin past event ≡ false

no-later : (past : List PlainEvent) (name : List ℕ) (lock : PlainLock) (how : AcquireKind) → NoLater past (acquisition how name lock)
no-later past name lock (Nesting sub) = record { is_held = refl; nests = refl; unmasked = refl; exits = refl; holds_none = refl; enables = refl; begins = refl }
no-later past name lock Trying = record { is_held = refl; nests = refl; unmasked = refl; exits = refl; holds_none = refl; enables = refl; begins = refl }
no-later past name lock Waiting = record { is_held = refl; nests = refl; unmasked = refl; exits = refl; holds_none = refl; enables = refl; begins = refl }

-- the faults of an acquisition, in their order
module _ {start : Start} (all : List Position) (old : Scan) (is : IsAt start all old)
    (how : AcquireKind) (name : List ℕ) (lock : PlainLock) (fits : place_of_task old.tasks name ≡ None → length old.tasks < MOST_TASKS) where
  tasks_fit : is_one_too_many bytes_eq MOST_TASKS (tasks (events all)) (task_of (acquisition how name lock)) ≡ false
  tasks_fit = rw (task-acquired name lock how, ← is.tasks) (is_one_too_many-fits bytes_eq [] bytes_eq-Decides MOST_TASKS old.tasks name fits)

  count : length (own_names old) ≡ length old.own
  count = length-map old.own (λ n. slice_index_or old.classes n no_class)

  pub fault-classes : place_of (own_names old) (class_taken how lock) ≡ None → MOST_CLASSES ≤ length old.own → event_fault (events all) (acquisition how name lock) ≡ Some TooManyClasses
  fault-classes new full =
      let many : is_one_too_many same_class MOST_CLASSES (classes (events all)) (class_taken how lock) ≡ true =
      rw (← is.own) (is_one_too_many-full same_class no_class same_class-Decides MOST_CLASSES (own_names old) (class_taken how lock) new
      (omega (arith, count, full)) (omega (arith, count, is.few_classes))) in
      rw (tasks_fit, class-acquired name lock how, many) refl

  module _ (class_fits : place_of (own_names old) (class_taken how lock) ≡ None → length old.own < MOST_CLASSES) where
    classes_fit : is_one_too_many same_class MOST_CLASSES (classes (events all)) (class_taken how lock) ≡ false
    classes_fit = rw (← is.own) (is_one_too_many-fits same_class no_class same_class-Decides MOST_CLASSES
        (own_names old) (class_taken how lock) (λ new. let low = class_fits new in omega (arith, count, low)))

    pub fault-deep : length (held_by (events all) name) ≡ MOST_HELD → event_fault (events all) (acquisition how name lock) ≡ Some TooDeep
    fault-deep deep = rw (
      tasks_fit,
      class-acquired name lock how,
      classes_fit,
      acquired name lock how,
      task-acquired name lock how,
      eq-eqb
          (length (held_by (events all) name)) MOST_HELD deep,
    ) refl

    pub fault-none : length (held_by (events all) name) < MOST_HELD → event_fault (events all) (acquisition how name lock) ≡ None
    fault-none shallow =
        let later = no-later (events all) name lock how in
        rw (
          tasks_fit,
          class-acquired name lock how,
          classes_fit,
          acquired name lock how,
          task-acquired name lock how,
          ne_eqb
              (length (held_by (events all) name)) MOST_HELD (λ same. omega arith),
          later.is_held,
          later.nests,
          later.unmasked,
          later.exits,
          later.holds_none,
          later.enables,
          later.begins,
        ) refl
