-- A release, seen through the stacks of the scan: the latest lock of the name goes from the innermost frame
-- of its task.
use Rattle.std.proofs.Common.{◌≡◌, ◌<◌, ◌≤◌, ◌++◌, ◌∷◌, [], ◌&&◌, ◌||◌, List, ℕ, Bool, true, false, not, cond, length, map, filter, take, drop}
use Rattle.std.proofs.Common.{get_or, set, Option, Some, None, refl, ap, sym, subst, ◌∙◌, arith, if◌then◌else◌, length-append}
use Rattle.std.proofs.lemmas.Bool.{true≢false, and_parts, and_from, or_parts}
use Rattle.std.proofs.lemmas.List.{length-set, get_or-set_same, get_or-set_other, map-append, take-append-drop, take-map}
use Rattle.std.proofs.lemmas.List.Elements.{All-append, All-cons, All-drop, All-head, All-tail, All-take}
use Rattle.std.specs.List.{All, list_all, list_any}
use Rattle.std.specs.Str.{bytes_eq}
use Rattle.ld_class.specs.Names.{PlainClass}
use Rattle.ld_class.proofs.Mapped.{list_any-map}
use Rattle.ld_trace.specs.declared.event.State.{State}
use Rattle.ld_trace.specs.declared.event.State.TheVariants.{Hard, Soft}
use Rattle.ld_trace.specs.Events.{PlainEvent, PlainLock, Position}
use Rattle.ld_trace.specs.Events.PlainEvent.{Release}
use Rattle.ld_rules.specs.declared.fault.TraceFault.TheVariants.{NotHeld}
use Rattle.ld_tables.specs.declared.interrupts.Interrupts.{Interrupts}
use Rattle.ld_rules.specs.declared.outcome.TheConstants.{MOST_HELD, MOST_TASKS}
use Rattle.ld_facts.specs.declared.scan.Scan.{Scan}
use Rattle.ld_rules.specs.Inner.Scanned.{remove_last}
use Rattle.ld_facts.specs.Named.{named_use}
use Rattle.ld_rules.specs.Flags.{is_enabled}
use Rattle.ld_rules.specs.Frames.{contexts, frame_of, task_of}
use Rattle.ld_rules.specs.Held.{Acquisition, Key, class_awaited, same_frame, same_lock, held, held_by, held_in}
use Rattle.ld_tables.specs.Inner.Interrupts.{fresh, start_now}
use Rattle.ld_rules.specs.Inner.Levels.{stack, starts, state_of_frame}
use Rattle.ld_tables.specs.Inner.Locks.{Hold, is_of}
use Rattle.ld_rules.specs.Outcome.{event_fault, events, is_not_held, is_one_too_many, tasks}
use Rattle.ld_facts.specs.Inner.Scan.{HasTask, HeldLock, IsAt, IsTask, Start, happens, lock_held, named_hold, uses_after}
use Rattle.ld_facts.specs.Named.{IsUse}
use Rattle.ld_rules.proofs.RemoveLemmas.{list_any-filter, map-remove_last}
use Rattle.ld_rules.proofs.HeldLemmas.{Decides-same_frame, Decides-same_key, any_held_by, has_key, held_by-releases}
use Rattle.ld_rules.proofs.FlagLemmas.{levels-quiet, stack-quiet}
use Rattle.ld_rules.proofs.GroupLemmas.{IsGrouped, held_in-innermost, outer_elsewhere, remove_last-append, starts-kept}
use Rattle.ld_facts.proofs.InnerLemmas.{clean-grouped, inner-is, start-is}
use Rattle.ld_facts.proofs.MovedLemmas.{own-before, shallow-before, tasks-fit, unacquired}
use Rattle.ld_rules.proofs.UsageLemmas.{list_all-filter, list_all_mono, newly_held, new_uses, on_use, uses_from-push, with_uses}
use Rattle.ld_rules.specs.Usage.{uses_in}

-- two tests that agree at each element of which a third holds
module _ {X : Type 0} (p q r : X → Bool) (same : (x : X) → r x ≡ true → p x ≡ q x) where
  list_any_agree : (xs : List X) → list_all r xs ≡ true → list_any p xs ≡ list_any q xs
  list_any_agree [] all = refl
  list_any_agree (x ∷ xs) all =
      let parts = and_parts (r x) (list_all r xs) all in
      (λ i. same x parts.0 i || list_any_agree xs parts.1 i)

  remove_last_agree_where : (xs : List X) → list_all r xs ≡ true → remove_last p xs ≡ remove_last q xs
  remove_last_agree_where [] all = refl
  remove_last_agree_where (x ∷ xs) all =
      let parts = and_parts (r x) (list_all r xs) all in
      (λ i. cond (list_any_agree xs parts.1 i) (x ∷ remove_last_agree_where xs parts.1 i) (cond (same x parts.0 i) xs (x ∷ xs)))

-- what passes a filter, and another test where all do
all_both : {X : Type 0} (p q : X → Bool) (xs : List X) → list_all q xs ≡ true → list_all (λ x. p x && q x) (filter p xs) ≡ true
all_both p q xs all = list_all-filter (λ x. p x && q x) p xs ∙ list_all_mono q (λ x. not (p x) || (p x && q x)) (λ x passes. by (p x) passes) xs all
  where
    by : (b : Bool) {c : Bool} → c ≡ true → (not b || (b && c)) ≡ true
    by true passes = passes
    by false passes = refl

pub All-remove_last : {X : Type 0} (P : X → Type 0) (p : X → Bool) (xs : List X) → All P xs → All P (remove_last p xs)
All-remove_last P p [] all = all
All-remove_last P p (x ∷ xs) all = by (list_any p xs) (p x) (All-remove_last P p xs (All-tail P x xs all))
  where
    by : (a c : Bool) → All P (remove_last p xs) → All P (cond a (x ∷ remove_last p xs) (cond c xs (x ∷ xs)))
    by true c rest = All-cons P x (remove_last p xs) (All-head P x xs all) rest
    by false true rest = All-tail P x xs all
    by false false rest = all

pub length-remove_last-le : {X : Type 0} (p : X → Bool) (xs : List X) → length (remove_last p xs) ≤ length xs
length-remove_last-le p [] = omega arith
length-remove_last-le p (x ∷ xs) = by (list_any p xs) (p x) (length-remove_last-le p xs)
  where
    by : (a c : Bool) → length (remove_last p xs) ≤ length xs → length (cond a (x ∷ remove_last p xs) (cond c xs (x ∷ xs))) ≤ length (x ∷ xs)
    by true c rest = omega arith
    by false true rest = omega arith
    by false false rest = omega arith

-- the key of a release of a lock by a task
abbrev pub key_released : List PlainEvent → List ℕ → PlainLock → Key
key_released past name lock = record { task = name; frame = frame_of past name; lock = lock }

-- what a filter keeps passes it
all_kept : {X : Type 0} (p : X → Bool) (xs : List X) → list_all p (filter p xs) ≡ true
all_kept p [] = refl
all_kept p (x ∷ xs) = by (p x) refl (all_kept p xs)
  where
    by : (b : Bool) → p x ≡ b → list_all p (filter p xs) ≡ true → list_all p (cond b (x ∷ filter p xs) (filter p xs)) ≡ true
    by true is rest = and_from (p x) (list_all p (filter p xs)) is rest
    by false is rest = rest

-- where no element passes the weaker test
none_less : {X : Type 0} (p q : X → Bool) → ((x : X) → p x ≡ true → q x ≡ true) → (xs : List X) → list_any q xs ≡ false → list_any p xs ≡ false
none_less p q within [] none = refl
none_less p q within (x ∷ xs) none =
    let parts = or_parts (q x) (list_any q xs) none in
    by (p x) refl (none_less p q within xs parts.1)
  where
    by : (b : Bool) → p x ≡ b → list_any p xs ≡ false → (b || list_any p xs) ≡ false
    by true is rest = absurd (true≢false (sym (within x is) ∙ (or_parts (q x) (list_any q xs) none).0))
    by false is rest = rest

-- what is kept of a task, when it releases a lock in its innermost frame
module _ (names : List PlainClass) (stack : List Hold) (interrupts : Interrupts) (past : List PlainEvent) (task : List ℕ)
    (is : IsTask names stack interrupts past task) (grouped : IsGrouped past task) (lock : PlainLock) where
  abbrev key : Key
  key = key_released past task lock

  abbrev frame : Option ℕ
  frame = frame_of past task

  abbrev inner : List Hold
  inner = drop (start_now interrupts) stack

  abbrev is_lock : HeldLock → Bool
  is_lock held = same_lock lock held.lock

  in_frame : (other : Acquisition) → has_key key other ≡ true → same_frame frame other.key.frame ≡ true
  in_frame other same = (Decides-same_frame frame other.key.frame).1 (ap (λ k. k.frame) ((Decides-same_key key other.key).0 same))

  told_by_lock : (other : Acquisition) → (same_frame frame other.key.frame && bytes_eq task other.key.task) ≡ true → has_key key other ≡ same_lock lock other.key.lock
  told_by_lock other both =
      let parts = and_parts (same_frame frame other.key.frame) (bytes_eq task other.key.task) both in
      (λ i. (parts.1 i && parts.0 i) && same_lock lock other.key.lock)

  all_in_frame : list_all (λ other. same_frame frame other.key.frame && bytes_eq task other.key.task) (held_in past task frame) ≡ true
  all_in_frame = all_both (λ other. same_frame frame other.key.frame) (λ other. bytes_eq task other.key.task) (held_by past task) (all_kept (λ other. bytes_eq task other.key.task) (held past))

  -- its locks from there on tell whether it's held
  pub inner_held : list_any (has_key key) (held past) ≡ list_any (is_of lock) inner
  inner_held =
      sym (any_held_by past key)
      ∙ sym (list_any-filter (has_key key) (λ other. same_frame frame other.key.frame) in_frame (held_by past task))
      ∙ list_any_agree (has_key key) (λ other. same_lock lock other.key.lock)
      (λ other. same_frame frame other.key.frame && bytes_eq task other.key.task) told_by_lock (held_in past task frame) all_in_frame
      ∙ sym (list_any-map lock_held is_lock (held_in past task frame))
      ∙ ap (list_any is_lock) (sym (inner-is names stack interrupts past task is grouped))
      ∙ list_any-map (named_hold names) is_lock inner

  -- and without the latest of them they are what it holds after the release
  pub released_stack : map (named_hold names) (take (start_now interrupts) stack ++ remove_last (is_of lock) inner) ≡ map lock_held (held_by (past ++ Release task lock ∷ []) task)
  released_stack =
      map-append (named_hold names) (take (start_now interrupts) stack) (remove_last (is_of lock) inner)
      ∙ (λ i. sym (take-map (named_hold names) (start_now interrupts) stack) i ++ map-remove_last (named_hold names) is_lock inner i)
      ∙ (λ i. take (start i) (is.holds i) ++ remove_last is_lock (inner-is names stack interrupts past task is grouped i))
      ∙ (λ i. take-map lock_held at (held_by past task) i ++ sym (map-remove_last lock_held is_lock (held_in past task frame)) i)
      ∙ sym (map-append lock_held (take at (held_by past task)) (remove_last (λ other. same_lock lock other.key.lock) (held_in past task frame)))
      ∙ ap (map lock_held) (
      (λ i. take at (held_by past task) ++ sym (remove_last_agree_where (has_key key) (λ other. same_lock lock other.key.lock)
      (λ other. same_frame frame other.key.frame && bytes_eq task other.key.task) told_by_lock (held_in past task frame) all_in_frame) i)
      ∙ (λ i. take at (held_by past task) ++ remove_last (has_key key) (held_in-innermost past task grouped i))
      ∙ sym (remove_last-append (has_key key) (take at (held_by past task)) (drop at (held_by past task))
      (none_less (has_key key) (λ other. same_frame frame other.key.frame) in_frame (take at (held_by past task)) (outer_elsewhere past task grouped)))
      ∙ ap (remove_last (has_key key)) (take-append-drop at (held_by past task))
      ∙ sym (held_by-releases past task lock)
      )
    where
      at : ℕ
      at = get_or (starts past task) 0 0

      start : start_now interrupts ≡ at
      start = start-is names stack interrupts past task is

-- the fault of a release by a task that isn't one too many
release_fault : (past : List PlainEvent) (name : List ℕ) (lock : PlainLock) → is_one_too_many bytes_eq MOST_TASKS (tasks past) name ≡ false → event_fault past
    (Release name lock) ≡ (if is_not_held past (Release name lock) then Some NotHeld else None)
release_fault past name lock fits = rw fits refl

-- the uses of an event that counts nothing newly
none_counted : (state : State) (b : Bool) → map (on_use state) (if b then [] else []) ≡ []
none_counted state true = refl
none_counted state false = refl

pub uses-uncounted : (start : Start) (all : List Position) (e : PlainEvent) (line : ℕ) → class_awaited e ≡ None → newly_held (events all) e ≡ [] → uses_after start
    (all ++ happens line e ∷ []) ≡ uses_after start all
uses-uncounted start all e line waits_none counts_none =
    uses_from-push start.uses all (happens line e)
    ∙ ap (with_uses line (uses_after start all)) ((λ i. uses_in (contexts (events all) (task_of e)) (waits_none i) ++ (none Hard i ++ none Soft i)))
  where
    none : (state : State) → new_uses (events all) e state ≡ []
    none state = ap (λ those. map (on_use state) (if is_enabled (events all ++ e ∷ []) (task_of e) state then those else [])) counts_none ∙ none_counted
        state (is_enabled (events all ++ e ∷ []) (task_of e) state)

-- the scan with the task of the release
module _ {start : Start} (all : List Position) (old : Scan) (is_at : IsAt start all old) (name : List ℕ) (lock : PlainLock) (id : ℕ) (mid : Scan) (has : HasTask old name id mid) where
  abbrev held_now : List Hold
  held_now = get_or mid.locks.stacks id []

  abbrev frames_now : Interrupts
  frames_now = get_or mid.locks.interrupts id fresh

  before : IsTask old.classes held_now frames_now (events all) name
  before = own-before all old is_at name id mid has

  grouped : IsGrouped (events all) name
  grouped = clean-grouped all name is_at.clean

  fault_by : (b : Bool) → list_any (is_of lock) (drop (start_now frames_now) held_now) ≡ b → event_fault (events all) (Release name lock) ≡ (if not b then Some NotHeld else None)
  fault_by b found =
      release_fault (events all) name lock (tasks-fit all old is_at name id mid has)
      ∙ ap (λ (c : Bool). if not c then Some NotHeld else None) (inner_held old.classes held_now frames_now (events all) name before grouped lock ∙ found)

  -- a lock that isn't among those of the innermost frame isn't held there
  pub release-not_held : list_any (is_of lock) (drop (start_now frames_now) held_now) ≡ false → event_fault (events all) (Release name lock) ≡ Some NotHeld
  release-not_held found = fault_by false found

  abbrev pub left : List Hold
  left = take (start_now frames_now) held_now ++ remove_last (is_of lock) (drop (start_now frames_now) held_now)

  abbrev pub scan_left : Scan
  scan_left = record mid { locks = record mid.locks { stacks = set mid.locks.stacks id left } }

  inside : id < length mid.locks.stacks
  inside = omega (arith, has.place.0, has.many.0)

  same : get_or (set mid.locks.stacks id left) id [] ≡ left
  same = get_or-set_same mid.locks.stacks id left [] inside

  own : IsTask old.classes left frames_now (events all ++ Release name lock ∷ []) name
  own = record {
    holds = released_stack old.classes held_now frames_now (events all) name before grouped lock;
    within = All-append (λ hold. hold.class < length old.classes) (take (start_now frames_now) held_now) (remove_last (is_of lock) (drop (start_now frames_now) held_now))
        (All-take (λ hold. hold.class < length old.classes) (start_now frames_now) held_now before.within)
        (All-remove_last (λ hold. hold.class < length old.classes) (is_of lock) (drop (start_now frames_now) held_now)
        (All-drop (λ hold. hold.class < length old.classes) (start_now frames_now) held_now before.within));
    states = before.states ∙ sym (ap (map state_of_frame) quiet);
    starts = before.starts ∙ sym (starts-kept (events all) (Release name lock) name quiet);
    levels = λ state. before.levels state ∙ sym (levels-quiet (events all) (Release name lock) name state refl);
  }
    where
      quiet : stack (events all ++ Release name lock ∷ []) name ≡ stack (events all) name
      quiet = stack-quiet (events all) name (Release name lock) refl refl

  shorter : length left ≤ MOST_HELD
  shorter = omega (
    arith,
    length-append (take (start_now frames_now) held_now) (remove_last (is_of lock) (drop (start_now frames_now) held_now)),
    length-remove_last-le (is_of lock) (drop (start_now frames_now) held_now),
    sym (length-append (take (start_now frames_now) held_now) (drop (start_now frames_now) held_now)),
    ap length (take-append-drop (start_now frames_now) held_now),
    shallow-before all old is_at name id mid has,
  )

  -- where it is, the scan without it is what the release leaves
  pub release-at : (line : ℕ) → list_any (is_of lock) (drop (start_now frames_now) held_now) ≡ true → IsAt start (all ++ happens line (Release name lock) ∷ []) scan_left
  release-at line found =
      unacquired all old (Release name lock) line id mid scan_left is_at has
      (record {
        tasks = refl;
        classes = refl;
        own = refl;
        edges = refl;
        many = (length-set mid.locks.stacks id left ∙ has.many.0, has.many.1, has.many.2, has.many.3);
        stacks = λ k apart. get_or-set_other mid.locks.stacks id k left [] apart;
        interrupts = λ k apart. refl;
      })
      (fault_by true found) refl refl
      (subst (λ held. IsTask old.classes held frames_now (events all ++ Release name lock ∷ []) name) (sym same) own)
      (subst (λ (held : List Hold). length held ≤ MOST_HELD) (sym same) shorter)
      (ap (map (named_use old.classes)) has.uses ∙ is_at.uses ∙ sym (uses-uncounted start all (Release name lock) line refl refl))
      (subst (All (IsUse old.classes)) (sym has.uses) is_at.used)
