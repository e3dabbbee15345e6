-- The tasks that had events, by their names.
use Rattle.std.proofs.Common.{◌≡◌, ◌≢◌, ◌<◌, ◌+◌, ◌++◌, ◌∷◌, ◌&&◌, [], List, ℕ, Bool, true, false, length, map, get_or, set, Option, Some, None, refl, ap, sym, subst, ◌∙◌, arith, if◌then◌else◌}
use Rattle.std.proofs.Math.ListN.{get_or-map}
use Rattle.std.proofs.Math.Seq.{map-set_same}
use Rattle.std.proofs.Common.{suc, zero}
use Rattle.std.proofs.lemmas.List.{length-map}
use Rattle.std.proofs.Common.{cond, eqb, ltb, length-append}
use Rattle.std.proofs.lemmas.Bool.{eq-eqb, lt-ltb}
use Rattle.std.proofs.lemmas.List.Folds.{position_or_len_push}
use Rattle.std.specs.List.{position_or_len}
use Rattle.ld_class.proofs.AnyNames as any
use Rattle.ld_class.proofs.NameLemmas.{same_class-Decides}
use Rattle.std.proofs.lemmas.List.Quantifiers.{position-Some}
use Rattle.std.proofs.lemmas.Slice.Eq.{bytes_eq-Decides}
use Rattle.std.specs.Str.{bytes_eq}
use Rattle.ld_class.specs.Names.{IsNameAt, PlainClass, class_of_task, no_class, place_of, same_class, with_name}
use Rattle.ld_trace.specs.Events.{PlainEvent}
use Rattle.ld_rules.specs.Frames.{task_of}
use Rattle.ld_replay.specs.Inner.Task.{PlainTask, changed, idle, stepped, task_in}
use Rattle.ld_replay.proofs.StepLemmas.{stepped-name}

abbrev pub names_of : List PlainTask → List PlainClass
names_of tasks = map (λ task. class_of_task task.name) tasks

-- the task at a place
abbrev pub at : List PlainTask → ℕ → PlainTask
at tasks i = get_or tasks i (idle [])

-- the first task of this name stands at the place i
pub record IsFirst (tasks : List PlainTask) (name : List ℕ) (i : ℕ) : Type 0 where
  pub within : i < length tasks
  pub here : bytes_eq name (at tasks i).name ≡ true
  pub before : (k : ℕ) → k < i → bytes_eq name (at tasks k).name ≡ false

same-as : (name other : List ℕ) → same_class (class_of_task name) (class_of_task other) ≡ bytes_eq name other
same-as name other = by (bytes_eq name other)
  where
    by : (b : Bool) → (b && true) ≡ b
    by true = refl
    by false = refl

test-at : (tasks : List PlainTask) (name : List ℕ) (k : ℕ) → same_class (class_of_task name) (get_or (names_of tasks) k no_class) ≡ bytes_eq name (at tasks k).name
test-at tasks name k = ap (same_class (class_of_task name)) (get_or-map (λ task. class_of_task task.name) tasks k (idle [])) ∙ same-as name (at tasks k).name

pub first-of : (tasks : List PlainTask) (name : List ℕ) (i : ℕ) → place_of (names_of tasks) (class_of_task name) ≡ Some i → IsFirst tasks name i
first-of tasks name i found =
    let facts = position-Some (same_class (class_of_task name)) (names_of tasks) i no_class found in
    record {
      within = omega (arith, facts.0, length-map tasks (λ task. class_of_task task.name));
      here = sym (test-at tasks name i) ∙ facts.1;
      before = λ k low. sym (test-at tasks name k) ∙ facts.2 k low;
    }

later : (task : PlainTask) (tasks : List PlainTask) (name : List ℕ) (i : ℕ) → IsFirst (task ∷ tasks) name (suc i) → IsFirst tasks name i
later task tasks name i first = record {
  within = let low = first.within in omega arith;
  here = first.here;
  before = λ k low. first.before (suc k) (omega arith);
}

-- what is found by a name is the first task that has it
pub in-at : (tasks : List PlainTask) (name : List ℕ) (i : ℕ) → IsFirst tasks name i → task_in tasks name ≡ at tasks i
in-at [] name i first = let low = first.within in absurd (omega arith)
in-at (task ∷ tasks) name zero first = ap (λ b. if b then task else task_in tasks name) first.here
in-at (task ∷ tasks) name (suc i) first = ap (λ b. if b then task else task_in tasks name) (first.before 0 (omega arith)) ∙ in-at tasks name i (later task tasks name i first)

pub name-in : (tasks : List PlainTask) (name : List ℕ) → (task_in tasks name).name ≡ name
name-in [] name = refl
name-in (task ∷ tasks) name = by (bytes_eq name task.name) refl (name-in tasks name)
  where
    by : (b : Bool) → bytes_eq name task.name ≡ b → (task_in tasks name).name ≡ name → (if b then task else task_in tasks name).name ≡ name
    by true same rest = sym ((bytes_eq-Decides name task.name).0 same)
    by false other rest = rest

-- the same with another task at this place, of the same name
set-in : (tasks : List PlainTask) (name : List ℕ) (i : ℕ) → IsFirst tasks name i → (new : PlainTask) → new.name ≡ name → (of : List ℕ) → task_in (set tasks i new) of ≡ (if bytes_eq of name then new else task_in tasks of)
set-in [] name i first new named of = let low = first.within in absurd (omega arith)
set-in (task ∷ tasks) name zero first new named of =
    let own : name ≡ task.name = (bytes_eq-Decides name task.name).0 first.here in
    by (bytes_eq of name) (ap (bytes_eq of) named) (ap (bytes_eq of) (sym own))
  where
    by : (b : Bool) → bytes_eq of new.name ≡ b → bytes_eq of task.name ≡ b → (if bytes_eq of new.name then new else task_in tasks of) ≡ (if b then new else (if bytes_eq of task.name then task else task_in tasks of))
    by true a b = ap (λ c. if c then new else task_in tasks of) a
    by false a b = ap (λ c. if c then new else task_in tasks of) a ∙ sym (ap (λ c. if c then task else task_in tasks of) b)
set-in (task ∷ tasks) name (suc i) first new named of = by (bytes_eq of task.name) refl (bytes_eq of name) refl (set-in tasks name i (later task tasks name i first) new named of)
  where
    by : (b : Bool) → bytes_eq of task.name ≡ b → (c : Bool) → bytes_eq of name ≡ c → task_in (set tasks i new) of ≡ (if bytes_eq of name then new else task_in tasks of) →
        (if b then task else task_in (set tasks i new) of) ≡ (if c then new else (if b then task else task_in tasks of))
    by true a true c rest =
        let own : of ≡ task.name = (bytes_eq-Decides of task.name).0 a in
        let other : of ≡ name = (bytes_eq-Decides of name).0 c in
        let no : bytes_eq name task.name ≡ false = first.before 0 (omega arith) in
        let yes : bytes_eq name task.name ≡ true = (bytes_eq-Decides name task.name).1 (sym other ∙ own) in
        let bad : true ≡ false = sym yes ∙ no in cc
    by true a false c rest = refl
    by false a true c rest = rest ∙ ap (λ d. if d then new else task_in tasks of) c
    by false a false c rest = rest ∙ ap (λ d. if d then new else task_in tasks of) c

-- an event changes the task that it is of alone
pub stepped-in : (tasks : List PlainTask) (e : PlainEvent) (i place line : ℕ) → IsFirst tasks (task_of e) i → (of : List ℕ) →
    task_in (set tasks i (stepped (at tasks i) e place line)) of ≡ stepped (task_in tasks of) e place line
stepped-in tasks e i place line first of =
    let own : (at tasks i).name ≡ task_of e = sym ((bytes_eq-Decides (task_of e) (at tasks i).name).0 first.here) in
    set-in tasks (task_of e) i first (stepped (at tasks i) e place line) (stepped-name (at tasks i) e place line ∙ own) of
    ∙ by (bytes_eq of (task_of e)) refl
  where
    by : (b : Bool) → bytes_eq of (task_of e) ≡ b → (if b then stepped (at tasks i) e place line else task_in tasks of) ≡ stepped (task_in tasks of) e place line
    by true same =
        let is : of ≡ task_of e = (bytes_eq-Decides of (task_of e)).0 same in
        ap (λ t. stepped t e place line) (sym (ap (task_in tasks) is ∙ in-at tasks (task_of e) i first))
    by false other = sym (ap (λ b. if b then changed (task_in tasks of) e place line else task_in tasks of) (ap (λ n. bytes_eq n (task_of e)) (name-in tasks of) ∙ other))

-- a task without an event more changes nothing
pub in-more : (tasks : List PlainTask) (name of : List ℕ) → task_in (tasks ++ idle name ∷ []) of ≡ task_in tasks of
in-more [] name of = by (bytes_eq of name) refl
  where
    by : (b : Bool) → bytes_eq of name ≡ b → (if b then idle name else idle of) ≡ idle of
    by true same = ap idle (sym ((bytes_eq-Decides of name).0 same))
    by false other = refl
in-more (task ∷ tasks) name of = ap (λ t. if bytes_eq of task.name then task else t) (in-more tasks name of)

-- a name that no task has
pub in-none : (tasks : List PlainTask) (name : List ℕ) → ((i : ℕ) → ¬ IsNameAt (names_of tasks) i (class_of_task name)) → task_in tasks name ≡ idle name
in-none [] name none = refl
in-none (task ∷ tasks) name none = by (bytes_eq name task.name) refl (in-none tasks name (λ i at. none (suc i) (let low = at.0 in omega arith, at.1)))
  where
    by : (b : Bool) → bytes_eq name task.name ≡ b → task_in tasks name ≡ idle name → (if b then task else task_in tasks name) ≡ idle name
    by true same rest = absurd (none 0 (omega arith, ap class_of_task (sym ((bytes_eq-Decides name task.name).0 same))))
    by false other rest = rest

-- the names stay
pub names-set : (tasks : List PlainTask) (i : ℕ) (new : PlainTask) → new.name ≡ (at tasks i).name → names_of (set tasks i new) ≡ names_of tasks
names-set tasks i new same = map-set_same (λ task. class_of_task task.name) tasks i new (idle []) (ap class_of_task same)

-- a new name stands behind the others
pub place-new : (names : List PlainClass) (name : PlainClass) → place_of names name ≡ None → place_of (names ++ name ∷ []) name ≡ Some (length names)
place-new names name none =
    let end : position_or_len (same_class name) names ≡ length names = any.search_end-new same_class no_class same_class-Decides names name none in
    let own : same_class name name ≡ true = (same_class-Decides name name).1 refl in
    let here : eqb (length names) (length names) ≡ true = eq-eqb (length names) (length names) refl in
    let last : position_or_len (same_class name) (names ++ name ∷ []) ≡ length names =
    position_or_len_push (same_class name) names name
    ∙ (λ i. cond (eqb (end i) (length names)) (length names + cond (own i) 0 1) (end i))
    ∙ ap (λ b. cond b (length names + 0) (length names)) here
    ∙ (omega arith) in
    let low : ltb (length names) (length (names ++ name ∷ [])) ≡ true = lt-ltb (length names) (length (names ++ name ∷ [])) (omega (arith, length-append names (name ∷ []))) in
    ap (λ n. cond (ltb n (length (names ++ name ∷ []))) (Some n) None) last ∙ ap (λ b. cond b (Some (length names)) None) low

-- the names with one more task
pub names-more : (tasks : List PlainTask) (name : List ℕ) → names_of (tasks ++ idle name ∷ []) ≡ names_of tasks ++ class_of_task name ∷ []
names-more [] name = refl
names-more (task ∷ tasks) name = ap (λ ns. class_of_task task.name ∷ ns) (names-more tasks name)

-- of a task whose name isn't there: the names with it, and its place among them
pub added : (tasks : List PlainTask) (names : List PlainClass) (name : List ℕ) → names ≡ names_of tasks → place_of (names_of tasks) (class_of_task name) ≡ None →
    with_name names (class_of_task name) ≡ names_of (tasks ++ idle name ∷ [])
added tasks names name same none =
    ap (λ ns. with_name ns (class_of_task name)) same
    ∙ any.with_one-new same_class no_class same_class-Decides (names_of tasks) (class_of_task name) none
    ∙ sym (names-more tasks name)

pub added-place : (tasks : List PlainTask) (name : List ℕ) → place_of (names_of tasks) (class_of_task name) ≡ None →
    place_of (names_of (tasks ++ idle name ∷ [])) (class_of_task name) ≡ Some (length tasks)
added-place tasks name none =
    ap (λ ns. place_of ns (class_of_task name)) (names-more tasks name)
    ∙ place-new (names_of tasks) (class_of_task name) none
    ∙ ap Some (length-map tasks (λ task. class_of_task task.name))
