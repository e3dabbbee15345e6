-- An acquisition, against the positions before it.
use Rattle.std.proofs.Common.{◌≡◌, ◌<◌, ◌≤◌, ◌++◌, ◌∷◌, [], ◌∙◌, true, false, ℕ, List, Option, None, Some, Ok, length, map, drop, refl, ap, sym, subst}
use Rattle.std.proofs.Common.{arith, slice_index_or, take, All, length-append, if◌then◌else◌}
use Rattle.std.proofs.lemmas.List.{length-map, length-set, get_or-set_same, get_or-set_other, map-append, take-map}
use Rattle.std.proofs.lemmas.List.Elements.{All-cons, All-drop, All-nil, All-push}
use Rattle.std.proofs.lemmas.Slice.Eq.{bytes_eq-Decides}
use Rattle.std.specs.List.{list_any}
use Rattle.std.specs.Prelude.{slice_set, fold}
use Rattle.std.specs.Str.{bytes_eq}
use Rattle.std.proofs.lemmas.Simd.{map-map}
use Rattle.ld_class.specs.Names.{AreDistinct, IsNameAt, IsTaskAt, PlainClass, no_class, place_of, place_of_task, same_class, with_name, with_task}
use Rattle.ld_class.proofs.NameLemmas.{same_class-Decides}
use Rattle.ld_trace.specs.declared.event.State.{State}
use Rattle.ld_trace.specs.declared.event.State.TheVariants.{Hard, Soft}
use Rattle.ld_trace.specs.Events.{PlainEvent, PlainLock, Position}
use Rattle.ld_tables.specs.declared.interrupts.Interrupts.{Interrupts}
use Rattle.ld_rules.specs.declared.outcome.TheConstants.{MOST_CLASSES, MOST_HELD, MOST_TASKS}
use Rattle.ld_tables.specs.declared.edges.EdgeFact.{EdgeFact}
use Rattle.ld_facts.specs.declared.scan.Scan.{Scan}
use Rattle.ld_tables.specs.declared.uses.UsageFact.{UsageFact}
use Rattle.ld_tables.specs.Inner.Edges.{AreApart, edge_to, with_edge_fact}
use Rattle.ld_rules.specs.Flags.{is_enabled}
use Rattle.ld_rules.specs.Frames.{contexts, frame_of, task_of}
use Rattle.ld_rules.specs.Held.{Acquisition, class_awaited, held_by, held_in}
use Rattle.ld_rules.specs.Dependency.{Dependency, Seen, dependencies_at, dependencies_to, seen_at}
use Rattle.ld_rules.specs.Usage.{Use, uses_in}
use Rattle.ld_tables.specs.Inner.Interrupts.{enabled_now, fresh, start_now}
use Rattle.ld_rules.specs.Inner.Levels.{stack, state_of_frame}
use Rattle.ld_tables.specs.Inner.Locks.{HeldByTasks, Hold, Tells}
use Rattle.ld_rules.specs.Outcome.{classes, events}
use Rattle.ld_facts.specs.declared.acquire_kind.AcquireKind.{AcquireKind}
use Rattle.ld_facts.specs.Inner.Scan.{AreMany, HasTask, HasWaited, HeldLock, IsAt, IsTask, Start, acquisition, class_taken, classes_after, edges_after, happens}
use Rattle.ld_facts.specs.Inner.Scan.{lock_held, named_hold, names_at, own_names, taken, uses_after, waits}
use Rattle.ld_facts.specs.Named.{IsBetween, named_dependency, named_use}
use Rattle.ld_rules.specs.Inner.Scanned.{AreSame, same_dependency_seen, same_use_seen, with_new}
use Rattle.ld_facts.specs.Named.{IsUse}
use Rattle.ld_tables.specs.Inner.Uses.{in_facts, on_facts, with_use}
use Rattle.ld_rules.proofs.FlagLemmas.{is_enabled-quiet, levels-quiet, stack-quiet}
use Rattle.ld_rules.proofs.GroupLemmas.{starts-kept}
use Rattle.ld_rules.proofs.HeldLemmas.{acquisition_at, enters_none, held_by-acquires}
use Rattle.ld_rules.proofs.SameLemmas.{same-fold, same-map}
use Rattle.ld_facts.proofs.AcquireFaults.{acquired, calm, class-acquired, class-awaited, class-named, counts-itself, fault-none, none-awaited, task-acquired}
use Rattle.ld_facts.proofs.InnerLemmas.{clean-grouped, contexts-are, enabled-is, inner-is, length-is}
use Rattle.ld_facts.proofs.MovedLemmas.{moved-at}
use Rattle.ld_class.proofs.AnyNames.{apart-with_one}
use Rattle.ld_facts.proofs.NamedLemmas.{IsNameAt-more, holds-classes, holds-stay, holds-stay_within, holds-within, named-more, tell-named, within-more, within-same, within-tell}
use Rattle.ld_facts.proofs.StandsLemmas.{take-first}
use Rattle.ld_rules.proofs.StepLemmas.{added_names-more, classes-acquires, dependencies-push}
use Rattle.ld_facts.proofs.TaskLemmas.{task-at, with_one-few}
use Rattle.ld_rules.proofs.UsageLemmas.{at_line, new_uses, new_uses_at, on_use, uses_from-push, with_uses, with_uses-append}
use Rattle.ld_facts.proofs.UseLemmas.{in_facts-named, in_facts-within, named_use-more, on_facts-named, on_facts-within, uses-named, uses-within, within_use-more}

-- what is known when the task and the class of an acquisition have their numbers
pub record Entered (old : Scan) (name : List ℕ) (class_name : PlainClass) (id number : ℕ) (new : Scan) : Type 0 where
  pub tasks : new.tasks ≡ with_task old.tasks name
  pub place : IsTaskAt new.tasks id name
  pub fits : place_of_task old.tasks name ≡ None → length old.tasks < MOST_TASKS
  pub many : AreMany new
  pub stacks : (k : ℕ) → slice_index_or new.locks.stacks k [] ≡ slice_index_or old.locks.stacks k []
  pub interrupts : (k : ℕ) → slice_index_or new.locks.interrupts k fresh ≡ slice_index_or old.locks.interrupts k fresh
  pub edges : new.locks.edges ≡ old.locks.edges
  pub uses : new.uses ≡ old.uses
  pub classes : new.classes ≡ with_name old.classes class_name
  pub class : IsNameAt new.classes number class_name
  pub own : own_names new ≡ with_name (own_names old) class_name
  pub few_classes : place_of (own_names old) class_name ≡ None → length old.own < MOST_CLASSES

pub entered : (old mid new : Scan) (name : List ℕ) (class : PlainClass) (id number : ℕ) → HasTask old name id mid → (new.tasks ≡ mid.tasks) × (new.locks ≡ mid.locks)
    × (new.uses ≡ mid.uses) → AreMany new → new.classes ≡ with_name mid.classes class → own_names new ≡ with_name (own_names mid) class → IsNameAt new.classes number class →
    (place_of (own_names mid) class ≡ None → length mid.own < MOST_CLASSES) → Entered old name class id number new
entered old mid new name class id number has same many more own at few = record {
  tasks = same.0 ∙ has.tasks;
  place = subst (λ tasks. IsTaskAt tasks id name) (sym same.0) has.place;
  fits = has.fits;
  many = many;
  stacks = λ k. ap (λ locks. slice_index_or locks.stacks k []) same.1 ∙ has.stacks k;
  interrupts = λ k. ap (λ locks. slice_index_or locks.interrupts k fresh) same.1 ∙ has.interrupts k;
  edges = ap (λ locks. locks.edges) same.1 ∙ has.edges;
  uses = same.2 ∙ has.uses;
  classes = more ∙ ap (λ names. with_name names class) has.classes;
  class = at;
  own = own ∙ ap (λ names. with_name names class) names;
  few_classes = λ new. subst (λ (own : List ℕ). length own < MOST_CLASSES) has.own (few (ap (λ ns. place_of ns class) names ∙ new));
}
  where
    names : own_names mid ≡ own_names old
    names = (λ i. names_at (has.classes i) (has.own i))

-- a dependency on this class, told at this line
abbrev on_class : PlainClass → ℕ → PlainClass → Seen Dependency
on_class class line from = record { what = record { from = from; to = class }; line = line }

told-of_held : (class : PlainClass) (line : ℕ) (those : List Acquisition) → map (λ (what : Dependency). record { what = what; line = line })
    (map (λ (one : Acquisition). record { from = one.class; to = class }) those) ≡ map (on_class class line) (map (λ one. one.class) those)
told-of_held class line [] = refl
told-of_held class line (one ∷ those) = ap (λ o. on_class class line one.class ∷ o) (told-of_held class line those)

told-of_numbers : (names : List PlainClass) (number line : ℕ) (froms : List ℕ) → map
    (λ (from : ℕ). record { what = record { from = slice_index_or names from no_class; to = slice_index_or names number no_class }; line = line }) froms ≡ map
    (on_class (slice_index_or names number no_class) line) (map (λ from. slice_index_or names from no_class) froms)
told-of_numbers names number line [] = refl
told-of_numbers names number line (from ∷ froms) = ap (λ o. on_class (slice_index_or names number no_class) line (slice_index_or names from no_class) ∷ o) (told-of_numbers names number line froms)

-- an acquisition that fits is one more position
module _ {start : Start} (all : List Position) (old : Scan) (is : IsAt start all old) (how : AcquireKind)
    (name : List ℕ) (lock : PlainLock) (line id number : ℕ) (new : Scan) (enters : Entered old name (class_taken how lock) id number new) where
  abbrev event : PlainEvent
  event = acquisition how name lock

  abbrev class : PlainClass
  class = class_taken how lock

  abbrev held_now : List Hold
  held_now = slice_index_or new.locks.stacks id []

  abbrev frames_now : Interrupts
  frames_now = slice_index_or new.locks.interrupts id fresh

  abbrev inner : List Hold
  inner = drop (start_now frames_now) held_now

  abbrev top : Hold
  top = record { lock = lock; class = number }

  -- what the task holds by it
  abbrev held : Acquisition
  held = acquisition_at (events all) event lock

  own_task : task_of event ≡ name
  own_task = task-acquired name lock how

  -- the numbers of the classes that were known before are those of the same names now
  stays : (n : ℕ) (other : PlainClass) → IsNameAt old.classes n other → IsNameAt new.classes n other
  stays n other at = subst (λ names. IsNameAt names n other) (sym enters.classes) (IsNameAt-more old.classes class n other at)

  before : IsTask old.classes held_now frames_now (events all) name
  before =
      subst (λ held. IsTask old.classes held frames_now (events all) name) (sym (enters.stacks id))
      (subst (λ interrupts. IsTask old.classes (slice_index_or old.locks.stacks id []) interrupts (events all) name) (sym (enters.interrupts id))
      (task-at all old is name new.tasks enters.tasks id name enters.place))

  now : IsTask new.classes held_now frames_now (events all) name
  now = record {
    holds = holds-stay old.classes new.classes stays held_now before.within ∙ before.holds;
    within = holds-stay_within old.classes new.classes stays held_now before.within;
    states = before.states;
    starts = before.starts;
    levels = before.levels;
  }

  pub length-held : length (held_by (events all) name) ≡ length held_now
  length-held = sym (length-is new.classes held_now frames_now (events all) name now)

  names-now : new.classes ≡ classes_after start (events all ++ event ∷ [])
  names-now =
      enters.classes
      ∙ ap (λ ns. with_name ns class) is.names
      ∙ sym (added_names-more start.classes (classes (events all)) class)
      ∙ ap (fold with_name start.classes) (sym (classes-acquires (events all) event class (class-acquired name lock how)))

  own-now : own_names new ≡ classes (events all ++ event ∷ [])
  own-now = enters.own ∙ ap (λ ns. with_name ns class) is.own ∙ sym (classes-acquires (events all) event class (class-acquired name lock how))

  few-now : length new.own ≤ MOST_CLASSES
  few-now = omega (
    arith,
    length-map new.own (λ n. slice_index_or new.classes n no_class),
    ap length enters.own,
    with_one-few same_class no_class same_class-Decides MOST_CLASSES (own_names old) class
        (λ fresh. let low = enters.few_classes fresh in omega (arith, low, length-map old.own (λ n. slice_index_or old.classes n no_class)))
        (omega (arith, is.few_classes, length-map old.own (λ n. slice_index_or old.classes n no_class))),
  )

  distinct : AreDistinct new.classes
  distinct = subst AreDistinct (sym enters.classes) (apart-with_one same_class no_class same_class-Decides old.classes class is.distinct)

  -- The dependencies.

  named-now : map (named_dependency new.classes) new.locks.edges ≡ map (named_dependency old.classes) old.locks.edges
  named-now = (λ i. map (named_dependency (enters.classes i)) (enters.edges i)) ∙ named-more old.classes class old.locks.edges is.within

  edges-now : AreSame (map (named_dependency new.classes) new.locks.edges) (edges_after start all)
  edges-now test = ap (list_any test) named-now ∙ is.edges test

  first-now : take (length start.edges) (map (named_dependency new.classes) new.locks.edges) ≡ start.edges
  first-now = ap (take (length start.edges)) named-now ∙ is.first

  once-now : AreApart new.locks.edges
  once-now = subst AreApart (sym enters.edges) is.once

  within-now : All (IsBetween new.classes) new.locks.edges
  within-now = subst (All (IsBetween new.classes)) (sym enters.edges) (subst (λ names. All (IsBetween names) old.locks.edges) (sym enters.classes)
      (within-more old.classes class old.locks.edges is.within))

  inner-within : All (λ hold. hold.class < length new.classes) inner
  inner-within = All-drop (λ hold. hold.class < length new.classes) (start_now frames_now) held_now now.within

  abbrev froms : List ℕ
  froms = map (λ hold. hold.class) inner

  froms-are : map (λ from. slice_index_or new.classes from no_class) froms ≡ map (λ one. one.class) (held_in (events all) name (frame_of (events all) name))
  froms-are =
      holds-classes new.classes inner
      ∙ ap (map (λ (one : HeldLock). one.class)) (inner-is new.classes held_now frames_now (events all) name now (clean-grouped all name is.clean))
      ∙ map-map (λ (one : HeldLock). one.class) lock_held (held_in (events all) name (frame_of (events all) name))

  -- what an acquisition tells that waits for this class, or for none
  depends : (awaited : Option PlainClass) → class_awaited event ≡ awaited → dependencies_at (events all) event ≡ dependencies_to (events all) name awaited
  depends awaited waits = (λ i. dependencies_to (events all) (own_task i) (waits i))

  told-now : class_awaited event ≡ Some class → map (λ (from : ℕ). record {
    what = record { from = slice_index_or new.classes from no_class; to = slice_index_or new.classes number no_class };
    line = line;
  }) froms ≡ seen_at dependencies_at (events all) line (Ok event)
  told-now waits =
      told-of_numbers new.classes number line froms
      ∙ (λ i. map (on_class (enters.class.1 i) line) (froms-are i))
      ∙ sym (told-of_held class line (held_in (events all) name (frame_of (events all) name)))
      ∙ ap (map (λ (what : Dependency). record { what = what; line = line })) (sym (depends (Some class) waits))

  -- The dependencies that are told, in whatever order, are those of the event.
  module _ (told : HeldByTasks) (tells : Tells froms number line new.locks told) where
    edges-told : class_awaited event ≡ Some class → AreSame (map (named_dependency new.classes) told.edges) (edges_after start (all ++ happens line event ∷ []))
    edges-told waits test =
        let named = named_dependency new.classes in
        let in_turn = fold with_edge_fact new.locks.edges (map (edge_to number line) froms) in
        sym (same-map named in_turn told.edges tells.told.told test)
        ∙ ap (list_any test) (tell-named new.classes distinct new.locks.edges line number froms within-now enters.class.0 (holds-within new.classes inner inner-within)
        ∙ ap (fold (with_new same_dependency_seen) (map named new.locks.edges)) (told-now waits))
        ∙ same-fold same_dependency_seen (map named new.locks.edges) (edges_after start all) (seen_at dependencies_at (events all) line (Ok event)) edges-now test
        ∙ ap (list_any test) (sym (dependencies-push start.edges all (happens line event)))

    first-told : take (length start.edges) (map (named_dependency new.classes) told.edges) ≡ start.edges
    first-told =
        let named = named_dependency new.classes in
        take-first start.edges (map named new.locks.edges) (map named told.edges) first-now
        (ap (λ n. take n (map named told.edges)) (length-map new.locks.edges named) ∙ take-map named (length new.locks.edges) told.edges ∙ ap (map named) tells.told.first)

    within-told : All (IsBetween new.classes) told.edges
    within-told = within-same new.classes (fold with_edge_fact new.locks.edges (map (edge_to number line) froms)) told.edges tells.told.told
        (within-tell new.classes new.locks.edges line number froms within-now enters.class.0 (holds-within new.classes inner inner-within))

  edges-untold : class_awaited event ≡ None → AreSame (map (named_dependency new.classes) new.locks.edges) (edges_after start (all ++ happens line event ∷ []))
  edges-untold none test =
      edges-now test
      ∙ ap (list_any test) (sym (dependencies-push start.edges all (happens line event) ∙ ap (λ ds. fold (with_new same_dependency_seen) (edges_after start all)
      (map (λ (what : Dependency). record { what = what; line = line }) ds)) (depends None none)))

  -- The usage.

  abbrev ons : List UsageFact
  ons = on_facts frames_now line (number ∷ [])

  abbrev ins : List UsageFact
  ins = in_facts frames_now line number

  ons-within : All (IsUse new.classes) ons
  ons-within = on_facts-within new.classes frames_now line (number ∷ []) (All-cons (λ c. c < length new.classes) number [] enters.class.0 (All-nil (λ c. c < length new.classes)))

  ins-within : All (IsUse new.classes) ins
  ins-within = in_facts-within new.classes frames_now line number enters.class.0

  uses-now : map (named_use new.classes) new.uses ≡ uses_after start all
  uses-now = (λ i. map (named_use (enters.classes i)) (enters.uses i)) ∙ named_use-more old.classes class old.uses is.used ∙ is.uses

  used-now : All (IsUse new.classes) new.uses
  used-now = subst (All (IsUse new.classes)) (sym enters.uses) (subst (λ names. All (IsUse names) old.uses) (sym enters.classes) (within_use-more old.classes class old.uses is.used))

  -- the class of the lock that is acquired
  class-now : slice_index_or new.classes number no_class ≡ held.class
  class-now = enters.class.1 ∙ sym (class-named name lock how)

  -- the lock that is acquired counts under the flags of its task, which stay
  abbrev counted : State → List Use
  counted state = map (on_use state) (if is_enabled (events all ++ event ∷ []) name state then held ∷ [] else [])

  ons-are : map (named_use new.classes) ons ≡ map (at_line line) (counted Hard ++ counted Soft)
  ons-are =
      on_facts-named new.classes frames_now line (number ∷ []) (held ∷ []) (ap (λ class. class ∷ []) class-now)
      ∙ (λ i. map (at_line line) (map (on_use Hard) (if enabled Hard i then held ∷ [] else []) ++ map (on_use Soft) (if enabled Soft i then held ∷ [] else [])))
    where
      enabled : (state : State) → enabled_now state frames_now ≡ is_enabled (events all ++ event ∷ []) name state
      enabled state = enabled-is new.classes held_now frames_now (events all) name now state ∙ sym (is_enabled-quiet (events all) event name state (calm name lock how))

  ins-are : map (named_use new.classes) ins ≡ map (at_line line) (uses_in (contexts (events all) name) (Some class))
  ins-are =
      in_facts-named new.classes frames_now line number class enters.class
      ∙ ap (λ cs. map (at_line line) (uses_in cs (Some class))) (sym (contexts-are new.classes held_now frames_now (events all) name now))

  -- what it shows, where it waits for this class, or for none
  shows : (awaited : Option PlainClass) → class_awaited event ≡ awaited → new_uses_at (events all) event ≡ uses_in (contexts (events all) name) awaited ++ (counted Hard ++ counted Soft)
  shows awaited waits = (λ i. uses_in (contexts (events all) (own_task i)) (waits i) ++ (counts Hard i ++ counts Soft i))
    where
      counts : (state : State) → new_uses (events all) event state ≡ counted state
      counts state = (λ i. map (on_use state) (if is_enabled (events all ++ event ∷ []) (own_task i) state then counts-itself name lock how (events all) i else []))

  uses-tried : class_awaited event ≡ None → map (named_use new.classes) (fold with_use new.uses ons) ≡ uses_after start (all ++ happens line event ∷ [])
  uses-tried none =
      uses-named new.classes distinct new.uses ons used-now ons-within
      ∙ (λ i. fold (with_new same_use_seen) (uses-now i) (ons-are i))
      ∙ sym (uses_from-push start.uses all (happens line event) ∙ ap (with_uses line (uses_after start all)) (shows None none))

  uses-acquired : class_awaited event ≡ Some class → map (named_use new.classes) (fold with_use (fold with_use new.uses ins) ons) ≡ uses_after start (all ++ happens line event ∷ [])
  uses-acquired waits =
      uses-named new.classes distinct (fold with_use new.uses ins) ons (uses-within new.classes new.uses ins used-now ins-within) ons-within
      ∙ ap (λ known. fold (with_new same_use_seen) known (map (named_use new.classes) ons)) (uses-named new.classes distinct new.uses ins used-now ins-within)
      ∙ (λ i. fold (with_new same_use_seen) (fold (with_new same_use_seen) (uses-now i) (ins-are i)) (ons-are i))
      ∙ sym (with_uses-append line (uses_after start all) (uses_in (contexts (events all) name) (Some class)) (counted Hard ++ counted Soft))
      ∙ sym (uses_from-push start.uses all (happens line event) ∙ ap (with_uses line (uses_after start all)) (shows (Some class) waits))

  -- The task.

  task : IsTask new.classes (held_now ++ top ∷ []) frames_now (events all ++ event ∷ []) name
  task = record {
    holds = map-append (named_hold new.classes) held_now (top ∷ [])
        ∙ (λ i. now.holds i ++ record { lock = lock; class = class-now i } ∷ [])
        ∙ sym (ap (map lock_held) those ∙ map-append lock_held (held_by (events all) name) (held ∷ []));
    within = All-push (λ hold. hold.class < length new.classes) held_now top now.within enters.class.0;
    states = now.states ∙ sym (ap (map state_of_frame) quiet);
    starts = now.starts ∙ sym (starts-kept (events all) event name quiet);
    levels = λ state. now.levels state ∙ sym (levels-quiet (events all) event name state (calm name lock how));
  }
    where
      none_entered : (Rattle.ld_rules.specs.Frames.enters event ≡ None) × (Rattle.ld_rules.specs.Frames.exits event ≡ None)
      none_entered = enters_none event lock (acquired name lock how)

      quiet : stack (events all ++ event ∷ []) name ≡ stack (events all) name
      quiet = stack-quiet (events all) name event none_entered.0 none_entered.1

      by_itself : bytes_eq name (task_of event) ≡ true
      by_itself = (bytes_eq-Decides name (task_of event)).1 (sym own_task)

      those : held_by (events all ++ event ∷ []) name ≡ held_by (events all) name ++ held ∷ []
      those = held_by-acquires (events all) name event lock (acquired name lock how) ∙ rw by_itself refl

  -- the scan with it, and with these dependencies and usage bits
  abbrev with_top : List EdgeFact → List UsageFact → Scan
  with_top edges uses = record new {
    locks = record new.locks { stacks = slice_set new.locks.stacks id (held_now ++ top ∷ []); edges = edges };
    uses = uses;
  }

  inside : id < length new.locks.stacks
  inside = omega (arith, enters.place.0, enters.many.0)

  same : slice_index_or (slice_set new.locks.stacks id (held_now ++ top ∷ [])) id [] ≡ held_now ++ top ∷ []
  same = get_or-set_same new.locks.stacks id (held_now ++ top ∷ []) [] inside

  acquired-by : (edges : List EdgeFact) (uses : List UsageFact) → length held_now < MOST_HELD → AreSame (map (named_dependency new.classes) edges)
      (edges_after start (all ++ happens line event ∷ [])) → take (length start.edges) (map (named_dependency new.classes) edges) ≡ start.edges
      → AreApart edges → All (IsBetween new.classes) edges → map (named_use new.classes) uses ≡ uses_after start (all ++ happens line event ∷ []) → All
      (IsUse new.classes) uses → IsAt start (all ++ happens line event ∷ []) (with_top edges uses)
  acquired-by edges uses room shown first once within counted used =
      moved-at all old event line id (with_top edges uses) is (record {
        fault = fault-none all old is how name lock enters.fits enters.few_classes (omega (arith, room, length-held));
        tasks = enters.tasks ∙ ap (with_task old.tasks) (sym own_task);
        place = subst (IsTaskAt new.tasks id) (sym own_task) enters.place;
        fits = subst (λ task. place_of_task old.tasks task ≡ None → length old.tasks < MOST_TASKS) (sym own_task) enters.fits;
        many = (length-set new.locks.stacks id (held_now ++ top ∷ []) ∙ enters.many.0, enters.many.1, enters.many.2, enters.many.3);
        names = names-now;
        distinct = distinct;
        own = own-now;
        few_classes = few-now;
        stays = stays;
        stacks = λ k apart. get_or-set_other new.locks.stacks id k (held_now ++ top ∷ []) [] apart ∙ enters.stacks k;
        interrupts = λ k apart. enters.interrupts k;
        task =
            subst (λ held. IsTask new.classes held frames_now (events all ++ event ∷ []) (task_of event)) (sym same)
            (subst (IsTask new.classes (held_now ++ top ∷ []) frames_now (events all ++ event ∷ [])) (sym own_task) task);
        shallow = omega (arith, ap length same, length-append held_now (top ∷ []), room);
        edges = shown;
        first = first;
        once = once;
        within = within;
        uses = counted;
        used = used;
      })

  pub tried-at : waits how ≡ false → length held_now < MOST_HELD → IsAt start (all ++ happens line event ∷ []) (with_top new.locks.edges (fold with_use new.uses ons))
  tried-at tries room =
      let none = none-awaited name lock how tries in
      acquired-by new.locks.edges (fold with_use new.uses ons) room (edges-untold none) first-now once-now within-now (uses-tried none)
      (uses-within new.classes new.uses ons used-now ons-within)

  pub acquired-at : waits how ≡ true → length held_now < MOST_HELD → (waiting : Scan) → HasWaited new id number line waiting
      → IsAt start (all ++ happens line event ∷ []) (taken waiting id number lock line)
  acquired-at waits_for room waiting has =
      let awaits = class-awaited name lock how waits_for in
      let told = waiting.locks in
      subst (λ (scan : Scan). IsAt start (all ++ happens line event ∷ []) (taken scan id number lock line)) (sym waited-is)
      (acquired-by told.edges (fold with_use (fold with_use new.uses ins) ons) room (edges-told told has.told awaits) (first-told told has.told) (has.told.told.once once-now)
      (within-told told has.told) (uses-acquired awaits)
      (uses-within new.classes (fold with_use new.uses ins) ons (uses-within new.classes new.uses ins used-now ins-within) ons-within))
    where
      -- the scan with these dependencies, used in the task's contexts
      waited-is : waiting ≡ record new { locks = record new.locks { edges = waiting.locks.edges }; uses = fold with_use new.uses ins }
      waited-is = has.others ∙ ap (λ (locks : HeldByTasks). record new { locks = locks; uses = fold with_use new.uses ins }) has.told.others
