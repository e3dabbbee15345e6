-- The interrupt verbs, seen through what the scan keeps of their task.
use Rattle.std.proofs.Common.{◌≡◌, ◌≢◌, ◌<◌, ◌≤◌, ◌-◌, ◌++◌, ◌∷◌, [], ◌∙◌, Bool, true, false, not, ℕ, List, None, Some, fold, length, map, drop}
use Rattle.std.proofs.Common.{get_or, refl, ap, sym, subst, arith, if◌then◌else◌, All, Option, is_some}
use Rattle.std.proofs.lemmas.Bool.{true≢false}
use Rattle.std.specs.Prelude.{slice_get}
use Rattle.std.specs.List.{list_any}
use Rattle.std.specs.Str.{bytes_eq}
use Rattle.std.proofs.lemmas.List.{length-drop, length-map}
use Rattle.std.proofs.lemmas.Slice.Eq.{bytes_eq-Decides}
use Rattle.ld_class.specs.Names.{place_of_task}
use Rattle.ld_trace.specs.declared.event.State.{State}
use Rattle.ld_trace.specs.declared.event.State.TheVariants.{Hard, Soft}
use Rattle.ld_trace.specs.Events.{PlainEvent, Position}
use Rattle.ld_trace.specs.Events.PlainEvent.{Enter, Exit, Enable, Disable, Begin}
use Rattle.ld_rules.specs.declared.fault.TraceFault.TheVariants.{BadEnable, BadExit, BadNest, HeldAtExit, LateBegin, Masked}
use Rattle.ld_tables.specs.declared.interrupts.Interrupts.{Interrupts}
use Rattle.ld_rules.specs.declared.outcome.TheConstants.{MOST_HELD, MOST_TASKS}
use Rattle.ld_facts.specs.declared.scan.Scan.{Scan}
use Rattle.ld_tables.specs.declared.uses.UsageFact.{UsageFact}
use Rattle.ld_rules.specs.Dependency.{dependencies_at}
use Rattle.ld_facts.specs.Named.{named_use}
use Rattle.ld_rules.specs.Flags.{flag_for, is_enabled, same_state}
use Rattle.ld_rules.specs.Frames.{contexts, frame_of, task_of}
use Rattle.ld_rules.specs.Held.{class_awaited, held_by, held_in}
use Rattle.ld_tables.specs.Inner.Interrupts.{IsEntered, IsLeft, IsSet, enabled_now, fresh, levels_of, nests_in, start_now, states_of}
use Rattle.ld_rules.specs.Inner.Levels.{stack, state_of_frame}
use Rattle.ld_tables.specs.Inner.Locks.{Hold, ChangesInterrupts, HeldByTasks}
use Rattle.ld_rules.specs.Open.{is_some_and}
use Rattle.ld_rules.specs.Outcome.{event_fault, events, is_bad_enable, is_bad_exit, is_badly_nested, is_held_at_exit, is_late_begin, is_masked, is_one_too_many, tasks}
use Rattle.ld_rules.specs.Held.{class_acquired}
use Rattle.ld_facts.specs.Inner.Scan.{HasTask, IsAt, IsTask, Start, happens, lock_held, named_hold, uses_after}
use Rattle.ld_rules.specs.Inner.Scanned.{same_use_seen, with_new}
use Rattle.ld_facts.specs.Named.{IsUse}
use Rattle.ld_tables.specs.Inner.Uses.{on_facts, with_use}
use Rattle.ld_rules.proofs.FlagLemmas.{levels-begin, levels-disable, levels-enable, levels-enter, levels-exit_good, stack-quiet, states-enter, states-exit}
use Rattle.ld_rules.proofs.GroupLemmas.{IsGrouped, start-within, starts-enter, starts-exit, starts-kept}
use Rattle.ld_rules.proofs.HeldLemmas.{held_by-other}
use Rattle.ld_facts.proofs.InnerLemmas.{any-context, classes-are, clean-grouped, enabled-is, flag-is, inner-is, last-context, length-is, start-is}
use Rattle.ld_facts.proofs.MovedLemmas.{Changed, own-before, shallow-before, tasks-fit, unacquired}
use Rattle.ld_facts.proofs.NamedLemmas.{holds-within}
use Rattle.ld_facts.proofs.ReleaseLemmas.{uses-uncounted}
use Rattle.ld_facts.proofs.TaskLemmas.{IsUnheard, heard_of, is_one_too_many-known, unheard, unheard_of}
use Rattle.ld_rules.proofs.UsageLemmas.{newly_held, on_use, uses_from-push, with_uses}
use Rattle.ld_rules.specs.Usage.{uses_in}
use Rattle.ld_facts.proofs.UseLemmas.{on_facts-named, on_facts-within, uses-named, uses-within}

not_not : (b : Bool) → b ≡ not (not b)
not_not true = refl
not_not false = refl

some_there : {X : Type 0} (xs : List X) → 0 < length xs → list_any (λ x. true) xs ≡ true
some_there [] some = absurd (omega arith)
some_there (x ∷ xs) some = refl

none_there : {X : Type 0} (xs : List X) → length xs ≡ 0 → list_any (λ x. true) xs ≡ false
none_there [] none = refl
none_there (x ∷ xs) none = absurd (omega (arith, none))

is_none : (place : Option ℕ) → is_some place ≡ false → place ≡ None
is_none None none = refl
is_none (Some id) none = absurd (true≢false none)

-- the faults of the verbs, by a task that isn't one too many
module _ (past : List PlainEvent) (name : List ℕ) (state : State) (fits : is_one_too_many bytes_eq MOST_TASKS (tasks past) name ≡ false) where
  enter_fault : event_fault past (Enter name state) ≡ (if is_badly_nested past (Enter name state) then Some BadNest else if is_masked past (Enter name state) then Some Masked else None)
  enter_fault = rw fits refl

  exit_fault : event_fault past (Exit name state) ≡ (if is_bad_exit past (Exit name state) then Some BadExit else if is_held_at_exit past (Exit name state) then Some HeldAtExit else None)
  exit_fault = rw fits refl

  enable_fault : event_fault past (Enable name state) ≡ (if is_bad_enable past (Enable name state) then Some BadEnable else None)
  enable_fault = rw fits refl

  disable_fault : event_fault past (Disable name state) ≡ None
  disable_fault = rw fits refl

-- the fault of a `begin`, by a task that isn't one too many
begin_fault : (past : List PlainEvent) (name : List ℕ) (hard soft : Bool) → is_one_too_many bytes_eq MOST_TASKS (tasks past) name ≡ false → event_fault past
    (Begin name hard soft) ≡ (if is_late_begin past (Begin name hard soft) then Some LateBegin else None)
begin_fault past name hard soft fits = rw fits refl

-- the scan with the task of the event
module _ {start : Start} (all : List Position) (old : Scan) (is : IsAt start all old) (name : List ℕ) (id : ℕ) (mid : Scan) (has : HasTask old name id mid) where
  abbrev held_now : List Hold
  held_now = get_or mid.locks.stacks id []

  abbrev frames_now : Interrupts
  frames_now = get_or mid.locks.interrupts id fresh

  before : IsTask old.classes held_now frames_now (events all) name
  before = own-before all old is name id mid has

  grouped : IsGrouped (events all) name
  grouped = clean-grouped all name is.clean

  fits : is_one_too_many bytes_eq MOST_TASKS (tasks (events all)) name ≡ false
  fits = tasks-fit all old is name id mid has

  -- where only the frames and flags of the task change
  changed : (locks : HeldByTasks) (uses : List UsageFact) → ChangesInterrupts mid.locks locks id → Changed mid id (record mid { locks = locks; uses = uses })
  changed locks uses moved = record {
    tasks = refl;
    classes = refl;
    own = refl;
    edges = moved.edges;
    many = (ap length moved.stacks ∙ has.many.0, moved.many ∙ has.many.1, has.many.2, has.many.3);
    stacks = λ k apart. ap (λ ss. get_or ss k []) moved.stacks;
    interrupts = moved.others;
  }

  held_same : (locks : HeldByTasks) → ChangesInterrupts mid.locks locks id → get_or locks.stacks id [] ≡ held_now
  held_same locks moved = ap (λ ss. get_or ss id []) moved.stacks

  shallow : (locks : HeldByTasks) → ChangesInterrupts mid.locks locks id → length (get_or locks.stacks id []) ≤ MOST_HELD
  shallow locks moved = subst (λ (held : List Hold). length held ≤ MOST_HELD) (sym (held_same locks moved)) (shallow-before all old is name id mid has)

  -- a verb without usage
  module _ (e : PlainEvent) (line : ℕ) (own_task : task_of e ≡ name) (locks : HeldByTasks) (moved : ChangesInterrupts mid.locks locks id)
      (fault : event_fault (events all) e ≡ None) (acquires_none : class_acquired e ≡ None) (depends_none : dependencies_at (events all) e ≡ [])
      (own : IsTask old.classes held_now (get_or locks.interrupts id fresh) (events all ++ e ∷ []) name) where
    moved-by : (uses : List UsageFact) → map (named_use old.classes) uses ≡ uses_after start (all ++ happens line e ∷ []) → All
        (IsUse old.classes) uses → IsAt start (all ++ happens line e ∷ []) (record mid { locks = locks; uses = uses })
    moved-by uses shown used =
        unacquired all old e line id mid (record mid { locks = locks; uses = uses }) is
        (subst (λ task. HasTask old task id mid) (sym own_task) has) (changed locks uses moved) fault acquires_none depends_none
        (subst (λ task. IsTask old.classes (get_or locks.stacks id []) (get_or locks.interrupts id fresh) (events all ++ e ∷ []) task) (sym own_task)
        (subst (λ held. IsTask old.classes held (get_or locks.interrupts id fresh) (events all ++ e ∷ []) name) (sym (held_same locks moved)) own))
        (shallow locks moved) shown used

    uncounted-by : class_awaited e ≡ None → newly_held (events all) e ≡ [] → IsAt start (all ++ happens line e ∷ []) (record mid { locks = locks })
    uncounted-by waits_none counts_none =
        moved-by mid.uses (ap (map (named_use old.classes)) has.uses ∙ is.uses ∙ sym (uses-uncounted start all e line waits_none counts_none)) (subst (All (IsUse old.classes)) (sym has.uses) is.used)

    -- what the task holds counts under the flags that it has then
    abbrev counted : List UsageFact
    counted = fold with_use mid.uses (on_facts (get_or locks.interrupts id fresh) line (map (λ hold. hold.class) (get_or locks.stacks id [])))

    counted-by : class_awaited e ≡ None → newly_held (events all) e ≡ held_by (events all) name → IsAt start (all ++ happens line e ∷ [])
        (record mid { locks = locks; uses = counted })
    counted-by waits_none counts_held =
        moved-by counted
        ((λ i. map (named_use old.classes) (fold with_use (has.uses i) (on_facts interrupts line (map (λ hold. hold.class) (held_same locks moved i)))))
        ∙ uses-named old.classes is.distinct old.uses (on_facts interrupts line numbers) is.used within
        ∙ (λ i. fold (with_new same_use_seen) (is.uses i) (on_facts-named old.classes interrupts line numbers (held_by (events all) name)
        (classes-are old.classes held_now frames_now (events all) name before) i))
        ∙ ap (with_uses line (uses_after start all)) (
        (λ i. map (on_use Hard) (if enabled Hard i then counts i else []) ++ map (on_use Soft) (if enabled Soft i then counts i else []))
        )
        ∙ sym (uses_from-push start.uses all (happens line e)
        ∙ ap (with_uses line (uses_after start all)) (λ i. uses_in (contexts (events all) (task_of e)) (waits_none i) ++ (new Hard i ++ new Soft i))))
        (subst (λ us. All (IsUse old.classes) (fold with_use us (on_facts interrupts line (map (λ hold. hold.class) (get_or locks.stacks id []))))) (sym has.uses)
        (subst (λ (held : List Hold). All (IsUse old.classes) (fold with_use old.uses (on_facts interrupts line (map (λ hold. hold.class) held)))) (sym (held_same locks moved))
        (uses-within old.classes old.uses (on_facts interrupts line numbers) is.used within)))
      where
        interrupts : Interrupts
        interrupts = get_or locks.interrupts id fresh

        numbers : List ℕ
        numbers = map (λ hold. hold.class) held_now

        within : All (IsUse old.classes) (on_facts interrupts line numbers)
        within = on_facts-within old.classes interrupts line numbers (holds-within old.classes held_now before.within)

        enabled : (of : State) → enabled_now of interrupts ≡ is_enabled (events all ++ e ∷ []) name of
        enabled = enabled-is old.classes held_now interrupts (events all ++ e ∷ []) name own

        counts : held_by (events all) name ≡ held_by (events all) name
        counts = refl

        new : (of : State) → map (on_use of) (if is_enabled (events all ++ e ∷ []) (task_of e) of then newly_held (events all) e else []) ≡ map
            (on_use of) (if is_enabled (events all ++ e ∷ []) name of then held_by (events all) name else [])
        new of = (λ i. map (on_use of) (if is_enabled (events all ++ e ∷ []) (own_task i) of then counts_held i else []))

  module _ (state : State) where
    -- `enter`

    nest-is : is_badly_nested (events all) (Enter name state) ≡ not (nests_in (states_of frames_now) state)
    nest-is = by state
      where
        by : (s : State) → is_badly_nested (events all) (Enter name s) ≡ not (nests_in (states_of frames_now) s)
        by Hard = any-context old.classes held_now frames_now (events all) name before (same_state Hard) ∙ not_not (list_any (same_state Hard) (states_of frames_now))
        by Soft = any-context old.classes held_now frames_now (events all) name before (λ s. true) ∙ not_not (list_any (λ s. true) (states_of frames_now))

    masked-is : is_masked (events all) (Enter name state) ≡ not (enabled_now state frames_now)
    masked-is = ap not (sym (enabled-is old.classes held_now frames_now (events all) name before state))

    pub enter-nested : nests_in (states_of frames_now) state ≡ false → event_fault (events all) (Enter name state) ≡ Some BadNest
    enter-nested nests = enter_fault (events all) name state fits ∙ ap (λ (b : Bool). if b then Some BadNest else if is_masked (events all)
        (Enter name state) then Some Masked else None) (nest-is ∙ ap not nests)

    pub enter-masked : nests_in (states_of frames_now) state ≡ true → enabled_now state frames_now ≡ false → event_fault (events all) (Enter name state) ≡ Some Masked
    enter-masked nests on = enter_fault (events all) name state fits ∙ (λ i. if (nest-is ∙ ap not nests) i then Some BadNest else if (masked-is ∙ ap not on) i then Some Masked else None)

    pub entered-at : (line : ℕ) (locks : HeldByTasks) → nests_in (states_of frames_now) state ≡ true → enabled_now state frames_now ≡ true → ChangesInterrupts
        mid.locks locks id → IsEntered state (length held_now) frames_now (get_or locks.interrupts id fresh) → IsAt start
        (all ++ happens line (Enter name state) ∷ []) (record mid { locks = locks })
    entered-at line locks nests on moved entered =
        uncounted-by (Enter name state) line refl locks moved
        (enter_fault (events all) name state fits ∙ (λ i. if (nest-is ∙ ap not nests) i then Some BadNest else if (masked-is ∙ ap not on) i then Some Masked else None)) refl refl
        (record {
          holds = before.holds ∙ ap (map lock_held) (sym (held_by-other (events all) name (Enter name state) refl refl));
          within = before.within;
          states = entered.states ∙ ap (λ ss. state ∷ ss) before.states ∙ sym (states-enter (events all) name state);
          starts = entered.starts ∙ (λ i. length-is old.classes held_now frames_now (events all) name before i ∷ before.starts i) ∙ sym (starts-enter (events all) name state);
          levels = λ of.
              entered.levels of
              ∙ (λ i. (if same_state of state then false else flag-is old.classes held_now frames_now (events all) name before of i) ∷ before.levels of i)
              ∙ sym (levels-enter (events all) name state of);
        })
        refl refl

    -- `exit`

    bad-exit-is : is_bad_exit (events all) (Exit name state) ≡ not (is_some_and (same_state state) (slice_get (states_of frames_now) 0))
    bad-exit-is = ap (λ o. not (is_some_and (same_state state) o)) (last-context old.classes held_now frames_now (events all) name before)

    length-inner : length (held_in (events all) name (frame_of (events all) name)) ≡ length held_now - start_now frames_now
    length-inner =
        sym (length-map (held_in (events all) name (frame_of (events all) name)) lock_held)
        ∙ ap length (sym (inner-is old.classes held_now frames_now (events all) name before grouped))
        ∙ length-map (drop (start_now frames_now) held_now) (named_hold old.classes)
        ∙ length-drop (start_now frames_now) held_now

    start_least : start_now frames_now ≤ length held_now
    start_least = omega (
      arith,
      start-is old.classes held_now frames_now (events all) name before,
      length-is old.classes held_now frames_now
          (events all) name before,
      start-within (events all) name grouped,
    )

    pub exit-bad : is_some_and (same_state state) (slice_get (states_of frames_now) 0) ≡ false → event_fault (events all) (Exit name state) ≡ Some BadExit
    exit-bad other = exit_fault (events all) name state fits ∙ ap (λ (b : Bool). if b then Some BadExit else if is_held_at_exit (events all)
        (Exit name state) then Some HeldAtExit else None) (bad-exit-is ∙ ap not other)

    pub exit-held : is_some_and (same_state state) (slice_get (states_of frames_now) 0) ≡ true → length held_now ≢ start_now frames_now → event_fault (events all) (Exit name state) ≡ Some HeldAtExit
    exit-held own more =
        exit_fault (events all) name state fits
        ∙ (λ i. if (bad-exit-is ∙ ap not own) i then Some BadExit else if some i then Some HeldAtExit else None)
      where
        some : is_held_at_exit (events all) (Exit name state) ≡ true
        some = some_there (held_in (events all) name (frame_of (events all) name)) (omega (arith, length-inner, start_least, more))

    pub exited-at : (line : ℕ) (locks : HeldByTasks) → is_some_and (same_state state) (slice_get (states_of frames_now) 0) ≡ true → length held_now ≡
        start_now frames_now → ChangesInterrupts mid.locks locks id → IsLeft frames_now (get_or locks.interrupts id fresh) → IsAt start
        (all ++ happens line (Exit name state) ∷ [])
        (record mid {
          locks = locks;
          uses = fold with_use mid.uses
              (on_facts (get_or locks.interrupts id fresh) line (map (λ hold. hold.class) (get_or locks.stacks id [])));
        })
    exited-at line locks own none moved left =
        counted-by (Exit name state) line refl locks moved
        (exit_fault (events all) name state fits ∙ (λ i. if good i then Some BadExit else if empty i then Some HeldAtExit else None)) refl refl
        (record {
          holds = before.holds ∙ ap (map lock_held) (sym (held_by-other (events all) name (Exit name state) refl refl));
          within = before.within;
          states = left.states ∙ ap (drop 1) before.states ∙ sym (states-exit (events all) name state);
          starts = left.starts ∙ ap (drop 1) before.starts ∙ sym (starts-exit (events all) name state);
          levels = λ of. left.levels of ∙ ap (drop 1) (before.levels of) ∙ sym (levels-exit_good (events all) name state of good);
        })
        refl refl
      where
        good : is_bad_exit (events all) (Exit name state) ≡ false
        good = bad-exit-is ∙ ap not own

        empty : is_held_at_exit (events all) (Exit name state) ≡ false
        empty = none_there (held_in (events all) name (frame_of (events all) name)) (omega (arith, length-inner, none))

    -- `enable` and `disable`

    quiet : (e : PlainEvent) → stack (events all ++ e ∷ []) name ≡ stack (events all) name → map state_of_frame (stack (events all) name) ≡ map state_of_frame (stack (events all ++ e ∷ []) name)
    quiet e same = ap (map state_of_frame) (sym same)

    bad-enable-is : is_bad_enable (events all) (Enable name state) ≡ list_any (same_state state) (states_of frames_now)
    bad-enable-is = any-context old.classes held_now frames_now (events all) name before (same_state state)

    pub enable-bad : list_any (same_state state) (states_of frames_now) ≡ true → event_fault (events all) (Enable name state) ≡ Some BadEnable
    enable-bad among = enable_fault (events all) name state fits ∙ ap (λ (b : Bool). if b then Some BadEnable else None) (bad-enable-is ∙ among)

    pub enabled-at : (line : ℕ) (locks : HeldByTasks) → list_any (same_state state) (states_of frames_now) ≡ false → ChangesInterrupts mid.locks locks id → IsSet
        state true frames_now (get_or locks.interrupts id fresh) → IsAt start (all ++ happens line (Enable name state) ∷ [])
        (record mid {
          locks = locks;
          uses = fold with_use mid.uses
              (on_facts (get_or locks.interrupts id fresh) line (map (λ hold. hold.class) (get_or locks.stacks id [])));
        })
    enabled-at line locks among moved set =
        counted-by (Enable name state) line refl locks moved
        (enable_fault (events all) name state fits ∙ ap (λ (b : Bool). if b then Some BadEnable else None) (bad-enable-is ∙ among)) refl refl
        (record {
          holds = before.holds ∙ ap (map lock_held) (sym (held_by-other (events all) name (Enable name state) refl refl));
          within = before.within;
          states = set.states ∙ before.states ∙ quiet (Enable name state) (stack-quiet (events all) name (Enable name state) refl refl);
          starts = set.starts ∙ before.starts ∙ sym (starts-kept (events all) (Enable name state) name (stack-quiet (events all) name (Enable name state) refl refl));
          levels = λ of. set.levels of ∙ ap (λ bs. if same_state of state then true ∷ drop 1 bs else bs) (before.levels of) ∙ sym (levels-enable (events all) name state of);
        })
        refl refl

    pub disabled-at : (line : ℕ) (locks : HeldByTasks) → ChangesInterrupts mid.locks locks id → IsSet state false frames_now (get_or locks.interrupts id fresh) → IsAt start
        (all ++ happens line (Disable name state) ∷ []) (record mid { locks = locks })
    disabled-at line locks moved set =
        uncounted-by (Disable name state) line refl locks moved (disable_fault (events all) name state fits) refl refl
        (record {
          holds = before.holds ∙ ap (map lock_held) (sym (held_by-other (events all) name (Disable name state) refl refl));
          within = before.within;
          states = set.states ∙ before.states ∙ quiet (Disable name state) (stack-quiet (events all) name (Disable name state) refl refl);
          starts = set.starts ∙ before.starts ∙ sym (starts-kept (events all) (Disable name state) name (stack-quiet (events all) name (Disable name state) refl refl));
          levels = λ of. set.levels of ∙ ap (λ bs. if same_state of state then false ∷ drop 1 bs else bs) (before.levels of) ∙ sym (levels-disable (events all) name state of);
        })
        refl refl

  -- `begin`

  module _ (new : is_some (place_of_task old.tasks name) ≡ false) (hard soft : Bool) where
    unplaced : place_of_task (tasks (events all)) name ≡ None
    unplaced = ap (λ ns. place_of_task ns name) (sym is.tasks) ∙ is_none (place_of_task old.tasks name) new

    none : IsUnheard (events all) name
    none = unheard (events all) name unplaced

    first_event : event_fault (events all) (Begin name hard soft) ≡ None
    first_event = begin_fault (events all) name hard soft fits ∙ ap (λ (b : Bool). if b then Some LateBegin else None) (unheard_of (events all) name unplaced)

    pub begun_task-at : (line : ℕ) (mids locks : HeldByTasks) → ChangesInterrupts mid.locks mids id → IsSet Hard hard frames_now (get_or mids.interrupts id fresh)
        → ChangesInterrupts mids locks id → IsSet Soft soft (get_or mids.interrupts id fresh) (get_or locks.interrupts id fresh) → IsAt start
        (all ++ happens line (Begin name hard soft) ∷ []) (record mid { locks = locks })
    begun_task-at line mids locks moved first again second =
        uncounted-by (Begin name hard soft) line refl locks both first_event refl refl
        (record {
          holds = before.holds ∙ ap (map lock_held) (sym (held_by-other (events all) name (Begin name hard soft) refl refl));
          within = before.within;
          states = second.states ∙ first.states ∙ before.states ∙ sym (ap (map state_of_frame) same);
          starts = second.starts ∙ first.starts ∙ before.starts ∙ sym (starts-kept (events all) (Begin name hard soft) name same);
          levels = λ of. said of ∙ sym (levels-begin (events all) name hard soft of none.frames (none.said of));
        })
        refl none.holds
      where
        both : ChangesInterrupts mid.locks locks id
        both = record {
          stacks = again.stacks ∙ moved.stacks;
          edges = again.edges ∙ moved.edges;
          before = again.before ∙ moved.before;
          many = again.many ∙ moved.many;
          others = λ k apart. again.others k apart ∙ moved.others k apart;
        }

        same : stack (events all ++ Begin name hard soft ∷ []) name ≡ stack (events all) name
        same = stack-quiet (events all) name (Begin name hard soft) refl refl

        said : (of : State) → levels_of of (get_or locks.interrupts id fresh) ≡ flag_for of hard soft ∷ []
        said Hard = second.levels Hard ∙ first.levels Hard ∙ ap (λ bs. hard ∷ drop 1 bs) (before.levels Hard ∙ none.flags Hard)
        said Soft = second.levels Soft ∙ ap (λ bs. soft ∷ drop 1 bs) (first.levels Soft ∙ before.levels Soft ∙ none.flags Soft)

-- a task that has an event begins late
pub begun_late : {start : Start} (all : List Position) (old : Scan) (name : List ℕ) (hard soft : Bool) → IsAt start all old → is_some (place_of_task old.tasks name) ≡ true →
    event_fault (events all) (Begin name hard soft) ≡ Some LateBegin
begun_late all old name hard soft is_at known = by (place_of_task old.tasks name) refl known
  where
    by : (place : Option ℕ) → place_of_task old.tasks name ≡ place → is_some place ≡ true → event_fault (events all) (Begin name hard soft) ≡ Some LateBegin
    by None is some = absurd (true≢false (sym some))
    by (Some id) is some =
        let here : place_of_task (tasks (events all)) name ≡ Some id = ap (λ ns. place_of_task ns name) (sym is_at.tasks) ∙ is in
        begin_fault (events all) name hard soft (is_one_too_many-known bytes_eq [] bytes_eq-Decides MOST_TASKS (tasks (events all)) name id here)
        ∙ ap (λ (b : Bool). if b then Some LateBegin else None) (heard_of (events all) name id here)
