-- The tasks of a scan before and after the task of one more event, and what a task that is new to the trace holds.
use Rattle.std.proofs.Common.{◌≡◌, ◌≢◌, ◌<◌, ◌≤◌, ◌++◌, ◌∷◌, [], ◌||◌, ◌&&◌, List, ℕ, Bool, true, false, not, length, map, get_or, Option, Some, None, Result, Err}
use Rattle.std.proofs.Common.{refl, ap, sym, subst, ◌∙◌, ◌⊎◌, inl, inr, arith, eqb, length-append}
use Rattle.std.proofs.Math.Bool.{and-false}
use Rattle.std.proofs.Math.Seq.{get_or-append_seam}
use Rattle.std.proofs.lemmas.Bool.{or_parts, eq-eqb, ne_eqb, cases_lt}
use Rattle.std.proofs.lemmas.List.{map-append, get_or_append_left, get_or_past}
use Rattle.std.proofs.lemmas.List.Elements.{All-nil, All-same}
use Rattle.std.proofs.lemmas.List.Folds.{list_any-append}
use Rattle.std.proofs.lemmas.Slice.Eq.{bytes_eq-Decides}
use Rattle.std.specs.List.{list_any}
use Rattle.std.specs.Str.{bytes_eq}
use Rattle.std.specs.Bool.{Decides}
use Rattle.ld_class.specs.Names.{AreDistinctTasks, IsNameAt, IsTaskAt, PlainClass, first_place, place_of_task, with_one, with_task}
use Rattle.ld_class.proofs.AnyNames.{apart-with_one, list_any-known, list_any-new, with_one-known, with_one-new}
use Rattle.ld_trace.specs.Events.{PlainEvent, PlainLock, Position}
use Rattle.ld_trace.specs.Events.PlainEvent.{Acquire, Try, Nested}
use Rattle.ld_trace.specs.declared.event.State.{State}
use Rattle.ld_trace.specs.declared.event.State.TheVariants.{Hard, Soft}
use Rattle.ld_rules.specs.declared.fault.TraceFault.{TraceFault}
use Rattle.ld_rules.specs.declared.fault.TraceFault.TheVariants.{TooManyTasks}
use Rattle.ld_rules.specs.declared.outcome.TheConstants.{MOST_TASKS}
use Rattle.ld_facts.specs.declared.scan.Scan.{Scan}
use Rattle.ld_tables.specs.declared.interrupts.Interrupts.{Interrupts}
use Rattle.ld_rules.specs.Flags.{last_said}
use Rattle.ld_rules.specs.Frames.{task_of}
use Rattle.ld_rules.specs.Held.{held_by}
use Rattle.ld_tables.specs.Inner.Interrupts.{fresh, levels_of, starts_of, states_of}
use Rattle.ld_rules.specs.Inner.Levels.{levels, stack, starts_in, state_of_frame}
use Rattle.ld_tables.specs.Inner.Locks.{Hold}
use Rattle.ld_rules.specs.Outcome.{is_one_too_many, event_fault, events, tasks}
use Rattle.ld_facts.specs.declared.scan.Stop.{Stop}
use Rattle.ld_facts.specs.declared.scan.Stop.TheVariants.{Fault}
use Rattle.ld_facts.specs.declared.acquire_kind.AcquireKind.{AcquireKind}
use Rattle.ld_facts.specs.declared.acquire_kind.AcquireKind.TheVariants.{Nesting, Trying, Waiting}
use Rattle.ld_facts.specs.Inner.Scan.{IsAt, IsItsFault, IsTask, Start, acquisition, lock_held, named_hold}
use Rattle.ld_facts.proofs.NamedLemmas.{holds-stay, holds-stay_within}
use Rattle.ld_rules.proofs.PlaceLemmas.{alike_from_decides, any_each_once, by_pushes}
use Rattle.ld_rules.proofs.FlagLemmas.{last_said-other, levels-other, stack-other, states-other}
use Rattle.ld_rules.proofs.GroupLemmas.{held_by-other_task, starts-kept}
use Rattle.ld_rules.proofs.StepLemmas.{tasks-push}

-- the test whether a name is one too many
module _ {A : Type 0} (same : A → A → Bool) (none : A) (decides : (a b : A) → Decides (same a b) (a ≡ b)) (most : ℕ) (names : List A) (name : A) where
  pub is_one_too_many-full : first_place same names name ≡ None → most ≤ length names → length names ≤ most → is_one_too_many same most names name ≡ true
  is_one_too_many-full new low high =
      let full : length names ≡ most = omega arith in
      (λ i. eq-eqb (length names) most full i && not (list_any-new same none decides names name new i))

  pub is_one_too_many-known : (id : ℕ) → first_place same names name ≡ Some id → is_one_too_many same most names name ≡ false
  is_one_too_many-known id known = ap (λ b. eqb (length names) most && not b) (list_any-known same none decides names name id known) ∙ and-false (eqb (length names) most)

  pub is_one_too_many-fits : (first_place same names name ≡ None → length names < most) → is_one_too_many same most names name ≡ false
  is_one_too_many-fits fits = by (first_place same names name) refl
    where
      by : (r : Option ℕ) → first_place same names name ≡ r → is_one_too_many same most names name ≡ false
      by None new = let low = fits new in ap (λ b. b && not (list_any (same name) names)) (ne_eqb (length names) most (λ equal. omega arith))
      by (Some id) known = is_one_too_many-known id known

  -- the names with it are no more than there may be
  pub with_one-few : (first_place same names name ≡ None → length names < most) → length names ≤ most → length (with_one same names name) ≤ most
  with_one-few fits few = by (first_place same names name) refl
    where
      by : (r : Option ℕ) → first_place same names name ≡ r → length (with_one same names name) ≤ most
      by None new = let low = fits new in omega (arith, ap length (with_one-new same none decides names name new), length-append names (name ∷ []))
      by (Some id) known = omega (arith, ap length (with_one-known same none decides names name id known))

-- the fault of an event of one task too many
pub too_many_tasks : (past : List PlainEvent) (e : PlainEvent) → is_one_too_many bytes_eq MOST_TASKS (tasks past) (task_of e) ≡ true → event_fault past e ≡ Some TooManyTasks
too_many_tasks past e is = rw is refl

-- the tasks of a trace are distinct
pub tasks-AreDistinct : (past : List PlainEvent) → AreDistinctTasks (tasks past)
tasks-AreDistinct past = by_pushes (λ xs. AreDistinctTasks (tasks xs)) (λ i j name at_i at_j. absurd (omega (arith, at_i.0)))
    (λ xs e rest. subst AreDistinctTasks (sym (tasks-push xs e)) (apart-with_one bytes_eq [] bytes_eq-Decides (tasks xs) (task_of e) rest)) past

-- a name has an event where it is among the tasks
pub heard_of : (past : List PlainEvent) (name : List ℕ) (id : ℕ) → place_of_task (tasks past) name ≡ Some id → list_any (bytes_eq name) (map task_of past) ≡ true
heard_of past name id known =
    sym (any_each_once bytes_eq (alike_from_decides bytes_eq bytes_eq-Decides) name (map task_of past))
    ∙ list_any-known bytes_eq [] bytes_eq-Decides (tasks past) name id known

pub unheard_of : (past : List PlainEvent) (name : List ℕ) → place_of_task (tasks past) name ≡ None → list_any (bytes_eq name) (map task_of past) ≡ false
unheard_of past name new =
    sym (any_each_once bytes_eq (alike_from_decides bytes_eq bytes_eq-Decides) name (map task_of past))
    ∙ list_any-new bytes_eq [] bytes_eq-Decides (tasks past) name new

-- a task without an event holds nothing, has no frame, and its flags are on, of which nothing was said
pub record IsUnheard (past : List PlainEvent) (name : List ℕ) : Type 0 where
  pub holds : held_by past name ≡ []
  pub frames : stack past name ≡ []
  pub flags : (state : State) → levels past name state ≡ true ∷ []
  pub said : (state : State) → last_said past name state None ≡ None

pub unheard : (past : List PlainEvent) (name : List ℕ) → place_of_task (tasks past) name ≡ None → IsUnheard past name
unheard past name new =
    by_pushes (λ xs. list_any (bytes_eq name) (map task_of xs) ≡ false → IsUnheard xs name) (λ _. record { holds = refl; frames = refl; flags = λ state. refl; said = λ state. refl }) step past
    (unheard_of past name new)
  where
    step : (xs : List PlainEvent) (e : PlainEvent) → (list_any (bytes_eq name) (map task_of xs) ≡ false → IsUnheard xs name) → list_any
        (bytes_eq name) (map task_of (xs ++ e ∷ [])) ≡ false → IsUnheard (xs ++ e ∷ []) name
    step xs e rest none =
        let parts = or_parts (list_any (bytes_eq name) (map task_of xs)) (bytes_eq name (task_of e) || false)
        (sym (list_any-append (bytes_eq name) (map task_of xs) (task_of e ∷ [])) ∙ ap (list_any (bytes_eq name)) (sym (map-append task_of xs (e ∷ []))) ∙ none) in
        let other = (or_parts (bytes_eq name (task_of e)) false parts.1).0 in
        let before = rest parts.0 in
        record {
          holds = held_by-other_task xs name e other ∙ before.holds;
          frames = stack-other xs name e other ∙ before.frames;
          flags = λ state. levels-other xs e name state other ∙ before.flags state;
          said = λ state. last_said-other xs e name state None other ∙ before.said state;
        }

-- an event of another task leaves what the scan keeps of this one, also among more classes
pub task-unmoved : (names more : List PlainClass) (held : List Hold) (interrupts : Interrupts) (past : List PlainEvent) (e : PlainEvent) (task : List ℕ)
    → bytes_eq task (task_of e) ≡ false → ((number : ℕ) (name : PlainClass) → IsNameAt names number name → IsNameAt more number name) → IsTask names held
    interrupts past task → IsTask more held interrupts (past ++ e ∷ []) task
task-unmoved names more held interrupts past e task other stays is = record {
  holds = holds-stay names more stays held is.within ∙ is.holds ∙ ap (map lock_held) (sym (held_by-other_task past task e other));
  within = holds-stay_within names more stays held is.within;
  states = is.states ∙ sym (states-other past task e other);
  starts = is.starts ∙ sym (starts-kept past e task (stack-other past task e other));
  levels = λ state. is.levels state ∙ sym (levels-other past e task state other);
}

fresh_levels : (state : State) → levels_of state fresh ≡ true ∷ []
fresh_levels Hard = refl
fresh_levels Soft = refl

-- the scan with the task of one more event among its tasks
module _ {start : Start} (all : List Position) (scan : Scan) (is_at : IsAt start all scan) (name : List ℕ) (names : List (List ℕ)) (is : names ≡ with_task scan.tasks name) where
  -- what it keeps of each task, and of a new one
  pub task-at : (id : ℕ) (other : List ℕ) → IsTaskAt names id other → IsTask scan.classes (get_or scan.locks.stacks id []) (get_or scan.locks.interrupts id fresh) (events all) other
  task-at id other at = by (place_of_task scan.tasks name) refl
    where
      by : (r : Option ℕ) → place_of_task scan.tasks name ≡ r → IsTask scan.classes (get_or scan.locks.stacks id []) (get_or scan.locks.interrupts id fresh) (events all) other
      by (Some k) known = is_at.each id other (subst (λ ns. IsTaskAt ns id other) (is ∙ with_one-known bytes_eq [] bytes_eq-Decides scan.tasks name k known) at)
      by None new = split (subst (λ ns. IsTaskAt ns id other) (is ∙ with_one-new bytes_eq [] bytes_eq-Decides scan.tasks name new) at) (cases_lt id (length scan.tasks))
        where
          split : IsTaskAt (scan.tasks ++ name ∷ []) id other → (id < length scan.tasks) ⊎ (length scan.tasks ≤ id) → IsTask scan.classes
              (get_or scan.locks.stacks id []) (get_or scan.locks.interrupts id fresh) (events all) other
          split end (inl low) = is_at.each id other (low, sym (get_or_append_left scan.tasks (name ∷ []) [] id low) ∙ end.1)
          split end (inr high) =
              let last : id ≡ length scan.tasks = omega (arith, end.0, length-append scan.tasks (name ∷ [])) in
              let same : other ≡ name = sym end.1 ∙ ap (λ k. get_or (scan.tasks ++ name ∷ []) k []) last ∙ get_or-append_seam scan.tasks name [] [] in
              let holds : get_or scan.locks.stacks id [] ≡ [] = get_or_past scan.locks.stacks id [] (omega (arith, is_at.many.0)) in
              let frames : get_or scan.locks.interrupts id fresh ≡ fresh = get_or_past scan.locks.interrupts id fresh (omega (arith, is_at.many.1)) in
              let none = unheard (events all) other (ap (λ n. place_of_task (tasks (events all)) n) same ∙ ap (λ ns. place_of_task ns name) (sym is_at.tasks) ∙ new) in
              record {
                holds = ap (map (named_hold scan.classes)) holds ∙ sym (ap (map lock_held) none.holds);
                within = All-same (λ hold. hold.class < length scan.classes) (get_or scan.locks.stacks id []) [] holds
                    (All-nil (λ hold. hold.class < length scan.classes));
                states = ap states_of frames ∙ sym (ap (map state_of_frame) none.frames);
                starts = ap starts_of frames ∙ sym (ap (starts_in (events all) other) none.frames);
                levels = λ state. ap (levels_of state) frames ∙ fresh_levels state ∙ sym (none.flags state);
              }

  -- the names are distinct
  pub task-distinct : AreDistinctTasks names
  task-distinct = subst AreDistinctTasks (sym (is ∙ ap (λ ns. with_task ns name) is_at.tasks)) (apart-with_one bytes_eq [] bytes_eq-Decides (tasks (events all)) name (tasks-AreDistinct (events all)))

  -- so another number is that of another name
  pub task-other : (id k : ℕ) (other : List ℕ) → IsTaskAt names id name → IsTaskAt names k other → k ≢ id → bytes_eq other name ≡ false
  task-other id k other here there apart = by (bytes_eq other name) refl
    where
      by : (b : Bool) → bytes_eq other name ≡ b → b ≡ false
      by false eq = refl
      by true eq = absurd (apart (task-distinct k id name (there.0, there.1 ∙ (bytes_eq-Decides other name).0 eq) here))

-- a scan that has too many tasks for one more
pub scan_too_many_tasks : {start : Start} (all : List Position) (scan : Scan) (e : PlainEvent) → IsAt start all scan → place_of_task scan.tasks (task_of e) ≡ None → MOST_TASKS ≤
    length scan.tasks → event_fault (events all) e ≡ Some TooManyTasks
scan_too_many_tasks all scan e is_at new full =
    too_many_tasks (events all) e (ap (λ ns. is_one_too_many bytes_eq MOST_TASKS ns (task_of e)) (sym is_at.tasks)
    ∙ is_one_too_many-full bytes_eq [] bytes_eq-Decides MOST_TASKS scan.tasks (task_of e) new full is_at.few_tasks)

-- an answer that hands on the refusal of a task tells the event's fault
pub task-refused : {A : Type 0} (scan : Scan) (event : PlainEvent) (told : Stop) (answer : Result A Stop)
    → ((fault : TraceFault) → told ≡ Fault fault
    → (fault ≡ TooManyTasks) × (place_of_task scan.tasks (task_of event) ≡ None) × (MOST_TASKS ≤ length scan.tasks))
    → (stop : Stop) × (answer ≡ Err stop) × (stop ≡ told) → IsItsFault scan event answer
task-refused scan event told answer why handed fault is start all is_at =
    let same : told ≡ Fault fault = cc (handed.1, handed.2, is) in
    let at = why fault same in
    scan_too_many_tasks all scan event is_at at.1 at.2 ∙ ap Some (sym at.0)

-- one task too many for an acquisition
pub acquisition_too_many_tasks : {start : Start} (all : List Position) (scan : Scan) (how : AcquireKind) (name : List ℕ) (lock : PlainLock) → IsAt start all scan → place_of_task
    scan.tasks name ≡ None → MOST_TASKS ≤ length scan.tasks → event_fault (events all) (acquisition how name lock) ≡ Some TooManyTasks
acquisition_too_many_tasks all scan Trying name lock is_at new full = scan_too_many_tasks all scan (Try name lock) is_at new full
acquisition_too_many_tasks all scan (Nesting sub) name lock is_at new full = scan_too_many_tasks all scan (Nested name lock sub) is_at new full
acquisition_too_many_tasks all scan Waiting name lock is_at new full = scan_too_many_tasks all scan (Acquire name lock) is_at new full

-- one that has not
pub scan_not_too_many_tasks : {start : Start} (all : List Position) (scan : Scan) (name : List ℕ) → IsAt start all scan →
    (place_of_task scan.tasks name ≡ None → length scan.tasks < MOST_TASKS) → is_one_too_many bytes_eq MOST_TASKS (tasks (events all)) name ≡ false
scan_not_too_many_tasks all scan name is_at fits =
    ap (λ ns. is_one_too_many bytes_eq MOST_TASKS ns name) (sym is_at.tasks) ∙ is_one_too_many-fits bytes_eq [] bytes_eq-Decides MOST_TASKS scan.tasks name fits
