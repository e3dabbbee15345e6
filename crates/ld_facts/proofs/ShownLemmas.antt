-- What a trace shows is of its own classes.
use Rattle.std.proofs.Common.{◌≡◌, ◌+◌, ◌<◌, ◌++◌, ◌∷◌, [], ◌||◌, All, AllPairs, Bool, true, false, List, ℕ, Some, Result, Ok, Err, nat_eq}
use Rattle.std.proofs.Common.{drop, take, fold, filter_map, length, map, get_or, refl, ap, sym, subst, ◌∙◌, arith, if◌then◌else◌, append_assoc}
use Rattle.std.proofs.lemmas.Bool.{eq-eqb, or_left, or_right}
use Rattle.std.proofs.lemmas.List.{append-nil, drop-map, get_or_default, get_or-drop, get_or-map, get_or-take, length-drop, length-map}
use Rattle.std.proofs.lemmas.List.Elements.{All-append, All-drop, All-filter, All-head, All-map, All-nil, All-push, All-tail, All-weaker, filter_map-append}
use Rattle.std.proofs.lemmas.List.Folds.{Any-from_list_any, list_any-append, list_any_at, list_any_none}
use Rattle.std.proofs.Math.Seq.{drop-append_seam}
use Rattle.std.specs.List.{cons_option, list_any}
use Rattle.ld_class.specs.Names.{PlainClass, no_class, same_class}
use Rattle.ld_class.proofs.NameLemmas.{same_class-Decides}
use Rattle.ld_trace.specs.declared.event.LineFault.{LineFault}
use Rattle.ld_trace.specs.declared.event.State.{State}
use Rattle.ld_trace.specs.declared.event.State.TheVariants.{Hard, Soft}
use Rattle.ld_trace.specs.Events.{PlainEvent, PlainLock, Position}
use Rattle.ld_trace.specs.Events.PlainEvent.{Acquire, Try, Nested, Release, Enter, Exit, Enable, Disable, Begin}
use Rattle.ld_rules.specs.Dependency.{Dependency, Seen, dependencies_at, seen, seen_at}
use Rattle.ld_rules.specs.Frames.{contexts, frame_of, task_of}
use Rattle.ld_rules.specs.Held.{Acquisition, class_with, held, held_in, held_by, lock_acquired, same_frame, sub_taken}
use Rattle.ld_rules.specs.Inner.Scanned.{same_dependency_seen, same_use_seen, with_new}
use Rattle.ld_rules.specs.Outcome.{event_said, events}
use Rattle.ld_rules.specs.Held.{class_acquired}
use Rattle.ld_rules.specs.Usage.{Use, in_uses, on_uses, uses_at, uses_in}
use Rattle.ld_rules.specs.Usage.Bit.{In, On}
use Rattle.ld_rules.proofs.HeldLemmas.{acquisition_at, has_key, held-acquires, held-other, held-releases}
use Rattle.ld_rules.proofs.OutcomeLemmas.{events-push, seen-push}
use Rattle.ld_rules.proofs.PlaceLemmas.{alike_from_decides, any_each_once, by_pushes}
use Rattle.ld_rules.proofs.StepLemmas.{Decides-same_dependency}
use Rattle.ld_batch.proofs.MetLemmas.{then_added}
use Rattle.ld_facts.specs.declared.scan.Scan.{Scan}
use Rattle.ld_facts.specs.Named as scans
use Rattle.ld_facts.specs.Inner.Scan.{IsAt, Start, edges_after, own_names}
use Rattle.ld_facts.specs.Inner.Rows.{IsOwnEdge, IsOwnUse}
use Rattle.ld_facts.proofs.NamedLemmas.{once-named}
use Rattle.ld_facts.proofs.ReleaseLemmas.{All-remove_last}

-- the class is one of those that these events acquire
abbrev IsClass : List PlainEvent → PlainClass → Type 0
IsClass past class = list_any (same_class class) (filter_map class_acquired past) ≡ true

more_classes : (past more : List PlainEvent) (class : PlainClass) → IsClass past class → IsClass (past ++ more) class
more_classes past more class there =
    ap (list_any (same_class class)) (filter_map-append class_acquired past more)
    ∙ list_any-append (same_class class) (filter_map class_acquired past) (filter_map class_acquired more)
    ∙ or_left (list_any (same_class class) (filter_map class_acquired past)) (list_any (same_class class) (filter_map class_acquired more)) there

new_class : (past : List PlainEvent) (e : PlainEvent) (class : PlainClass) → filter_map class_acquired (e ∷ []) ≡ class ∷ [] → IsClass (past ++ e ∷ []) class
new_class past e class is =
    ap (list_any (same_class class)) (filter_map-append class_acquired past (e ∷ []) ∙ ap (λ cs. filter_map class_acquired past ++ cs) is)
    ∙ list_any-append (same_class class) (filter_map class_acquired past) (class ∷ [])
    ∙ or_right (list_any (same_class class) (filter_map class_acquired past)) (same_class class class || false)
    (or_left (same_class class class) false ((same_class-Decides class class).1 refl))

-- the classes of what is held
held_classes : (past : List PlainEvent) → All (λ one. IsClass past one.class) (held past)
held_classes = by_pushes (λ past. All (λ one. IsClass past one.class) (held past)) (All-nil (λ one. IsClass [] one.class)) step
  where
    step : (past : List PlainEvent) (e : PlainEvent) → All (λ one. IsClass past one.class) (held past) → All (λ one. IsClass (past ++ e ∷ []) one.class) (held (past ++ e ∷ []))
    step past e all = by e (λ e. All-weaker (λ one. IsClass past one.class) (λ one. IsClass (past ++ e ∷ []) one.class) (λ one is. more_classes past (e ∷ []) one.class is) (held past) all)
      where
        Holds : PlainEvent → List Acquisition → Type 0
        Holds e = All (λ one. IsClass (past ++ e ∷ []) one.class)

        acquired : (e : PlainEvent) (lock : PlainLock) → lock_acquired e ≡ Some lock →
            filter_map class_acquired (e ∷ []) ≡ class_with lock (sub_taken e) ∷ [] → Holds e (held past) → Holds e (held (past ++ e ∷ []))
        acquired e lock is class all = subst (Holds e) (sym (held-acquires past e lock is))
            (All-push (λ one. IsClass (past ++ e ∷ []) one.class) (held past) (acquisition_at past e lock) all (new_class past e (class_with lock (sub_taken e)) class))

        by : (e : PlainEvent) → ((e : PlainEvent) → Holds e (held past)) → Holds e (held (past ++ e ∷ []))
        by (Acquire task lock) all = acquired (Acquire task lock) lock refl refl (all (Acquire task lock))
        by (Try task lock) all = acquired (Try task lock) lock refl refl (all (Try task lock))
        by (Nested task lock sub) all = acquired (Nested task lock sub) lock refl refl (all (Nested task lock sub))
        by (Release task lock) all = subst (Holds (Release task lock)) (sym (held-releases past task lock))
            (All-remove_last (λ one. IsClass (past ++ Release task lock ∷ []) one.class) (has_key (record { task = task; frame = frame_of past task; lock = lock })) (held past) (all (Release task lock)))
        by (Enter task state) all = subst (Holds (Enter task state)) (sym (held-other past (Enter task state) refl refl)) (all (Enter task state))
        by (Exit task state) all = subst (Holds (Exit task state)) (sym (held-other past (Exit task state) refl refl)) (all (Exit task state))
        by (Enable task state) all = subst (Holds (Enable task state)) (sym (held-other past (Enable task state) refl refl)) (all (Enable task state))
        by (Disable task state) all = subst (Holds (Disable task state)) (sym (held-other past (Disable task state) refl refl)) (all (Disable task state))
        by (Begin task hard soft) all = subst (Holds (Begin task hard soft)) (sym (held-other past (Begin task hard soft) refl refl)) (all (Begin task hard soft))

-- both classes of a dependency, and the class of a use
abbrev OfClasses : List PlainEvent → Dependency → Type 0
OfClasses past d = IsClass past d.from × IsClass past d.to

abbrev OfClass : List PlainEvent → Use → Type 0
OfClass past u = IsClass past u.class

dependency_classes : (past : List PlainEvent) (e : PlainEvent) → All (OfClasses (past ++ e ∷ [])) (dependencies_at past e)
dependency_classes past e = by e
  where
    told : (e : PlainEvent) (class : PlainClass) → filter_map class_acquired (e ∷ []) ≡ class ∷ []
        → All (OfClasses (past ++ e ∷ [])) (map (λ (one : Acquisition). record { from = one.class; to = class }) (held_in past (task_of e) (frame_of past (task_of e))))
    told e class is =
        All-map (OfClasses (past ++ e ∷ [])) (λ (one : Acquisition). record { from = one.class; to = class }) (held_in past (task_of e) (frame_of past (task_of e)))
        (All-weaker (λ one. IsClass past one.class) (λ one. OfClasses (past ++ e ∷ []) (record { from = one.class; to = class }))
        (λ one there. (more_classes past (e ∷ []) one.class there, new_class past e class is)) (held_in past (task_of e) (frame_of past (task_of e)))
        (All-filter (λ one. same_frame (frame_of past (task_of e)) one.key.frame) (λ one. IsClass past one.class) (held_by past (task_of e))
        (All-filter _ (λ one. IsClass past one.class) (held past) (held_classes past))))

    by : (e : PlainEvent) → All (OfClasses (past ++ e ∷ [])) (dependencies_at past e)
    by (Acquire task lock) = told (Acquire task lock) (class_with lock 0) refl
    by (Try task lock) = All-nil (OfClasses (past ++ Try task lock ∷ []))
    by (Nested task lock sub) = told (Nested task lock sub) (class_with lock sub) refl
    by (Release task lock) = All-nil (OfClasses (past ++ Release task lock ∷ []))
    by (Enter task state) = All-nil (OfClasses (past ++ Enter task state ∷ []))
    by (Exit task state) = All-nil (OfClasses (past ++ Exit task state ∷ []))
    by (Enable task state) = All-nil (OfClasses (past ++ Enable task state ∷ []))
    by (Disable task state) = All-nil (OfClasses (past ++ Disable task state ∷ []))
    by (Begin task hard soft) = All-nil (OfClasses (past ++ Begin task hard soft ∷ []))

use_classes : (past : List PlainEvent) (e : PlainEvent) → All (OfClass (past ++ e ∷ [])) (uses_at past e)
use_classes past e =
    All-append (OfClass now) (in_uses now e) (on_uses now Hard ++ on_uses now Soft) (by e)
    (All-append (OfClass now) (on_uses now Hard) (on_uses now Soft) (on Hard) (on Soft))
  where
    now : List PlainEvent
    now = past ++ e ∷ []

    on : (state : State) → All (OfClass now) (on_uses now state)
    on state = All-map (OfClass now) (λ (one : Acquisition). record { class = one.class; bit = On state }) _ (All-filter _ (λ one. IsClass now one.class) (held now) (held_classes now))

    waits : (e : PlainEvent) (class : PlainClass) (states : List State) → filter_map class_acquired (e ∷ []) ≡ class ∷ [] → All (OfClass (past ++ e ∷ [])) (uses_in states (Some class))
    waits e class states is = All-map (OfClass (past ++ e ∷ [])) (λ (state : State). record { class = class; bit = In state }) states
        (λ k d within. new_class past e class is)

    by : (e : PlainEvent) → All (OfClass (past ++ e ∷ [])) (in_uses (past ++ e ∷ []) e)
    by (Acquire task lock) = waits (Acquire task lock) (class_with lock 0) (contexts (past ++ Acquire task lock ∷ []) task) refl
    by (Try task lock) = All-nil (OfClass (past ++ Try task lock ∷ []))
    by (Nested task lock sub) = waits (Nested task lock sub) (class_with lock sub) (contexts (past ++ Nested task lock sub ∷ []) task) refl
    by (Release task lock) = All-nil (OfClass (past ++ Release task lock ∷ []))
    by (Enter task state) = All-nil (OfClass (past ++ Enter task state ∷ []))
    by (Exit task state) = All-nil (OfClass (past ++ Exit task state ∷ []))
    by (Enable task state) = All-nil (OfClass (past ++ Enable task state ∷ []))
    by (Disable task state) = All-nil (OfClass (past ++ Disable task state ∷ []))
    by (Begin task hard soft) = All-nil (OfClass (past ++ Begin task hard soft ∷ []))

-- what stands at each event of some positions stands among what they show
module _ {A : Type 0} (at : List PlainEvent → PlainEvent → List A) (Of : List PlainEvent → A → Type 0) (more : (past others : List PlainEvent) (a : A) → Of past a → Of (past ++ others) a)
    (each : (past : List PlainEvent) (e : PlainEvent) → All (Of (past ++ e ∷ [])) (at past e)) where
  seen_classes : (all : List Position) → All (λ (s : Seen A). Of (events all) s.what) (seen at all)
  seen_classes = by_pushes (λ all. All (λ (s : Seen A). Of (events all) s.what) (seen at all)) (All-nil (λ (s : Seen A). Of [] s.what)) step
    where
      step : (all : List Position) (p : Position) → All (λ (s : Seen A). Of (events all) s.what) (seen at all) → All (λ (s : Seen A). Of (events (all ++ p ∷ [])) s.what) (seen at (all ++ p ∷ []))
      step all p before = subst (λ es. All (λ (s : Seen A). Of es s.what) (seen at (all ++ p ∷ []))) (sym (events-push all p))
          (subst (All (λ (s : Seen A). Of (events all ++ cons_option (event_said p.says) []) s.what)) (sym (seen-push at all p)) (by p.says))
        where
          by : (says : Result PlainEvent LineFault) → All (λ (s : Seen A). Of (events all ++ cons_option (event_said says) []) s.what) (seen at all ++ seen_at at (events all) p.line says)
          by (Ok e) = All-append (λ (s : Seen A). Of (events all ++ e ∷ []) s.what) (seen at all) (seen_at at (events all) p.line (Ok e))
              (All-weaker (λ (s : Seen A). Of (events all) s.what) (λ (s : Seen A). Of (events all ++ e ∷ []) s.what) (λ s is. more (events all) (e ∷ []) s.what is) (seen at all) before)
              (All-map (λ (s : Seen A). Of (events all ++ e ∷ []) s.what) (λ what. record { what = what; line = p.line }) (at (events all) e) (each (events all) e))
          by (Err fault) = subst (All (λ (s : Seen A). Of (events all ++ []) s.what)) (sym (append-nil (seen at all)))
              (subst (λ es. All (λ (s : Seen A). Of es s.what) (seen at all)) (sym (append-nil (events all))) before)

-- what is added to a list is of what comes to it
module _ {X : Type 0} (P : X → Type 0) (same : X → X → Bool) where
  added_of : (known more xs : List X) → All P more → All P xs → All P (drop (length known) (fold (with_new same) (known ++ more) xs))
  added_of known more [] all _ = subst (All P) (sym (drop-append_seam known more)) all
  added_of known more (x ∷ xs) all come = by (list_any (same x) (known ++ more))
      (added_of known more xs all (All-tail P x xs come))
      (added_of known (more ++ x ∷ []) xs (All-push P more x all (All-head P x xs come)) (All-tail P x xs come))
    where
      by : (b : Bool) → All P (drop (length known) (fold (with_new same) (known ++ more) xs)) → All P (drop (length known) (fold (with_new same) (known ++ (more ++ x ∷ [])) xs))
          → All P (drop (length known) (fold (with_new same) ((known ++ more) ++ (if b then [] else x ∷ [])) xs))
      by true old _ = subst (λ ys. All P (drop (length known) (fold (with_new same) ys xs))) (sym (append-nil (known ++ more))) old
      by false _ new = subst (λ ys. All P (drop (length known) (fold (with_new same) ys xs))) (sym (append_assoc known more (x ∷ []))) new

  pub all_added : (known xs : List X) → All P xs → All P (drop (length known) (fold (with_new same) known xs))
  all_added known xs come = subst (λ ys. All P (drop (length known) (fold (with_new same) ys xs))) (append-nil known) (added_of known [] xs (All-nil P) come)

-- what stands behind others in a list that has each thing once isn't one of those
behind : {X : Type 0} (same : X → X → Bool) (P : X → Type 0) (first all : List X) → take (length first) all ≡ first → AllPairs (λ a b. same b a ≡ false) all → ((x : X) → same x x ≡ true)
    → ((x : X) → list_any (same x) first ≡ false → list_any (same x) all ≡ true → P x) → All P (drop (length first) all)
behind same P first all is once itself each k d within =
    let n = length first in
    let at : get_or (drop n all) k d ≡ get_or all (n + k) d = get_or-drop n all k d in
    let inside : n + k < length all = omega (arith, within, length-drop n all) in
    let x = get_or all (n + k) d in
    let none : list_any (same x) first ≡ false = list_any_none (same x) first (λ i e low.
    ap (same x) (ap (λ xs. get_or xs i e) (sym is) ∙ get_or-take n all i e low ∙ get_or_default all i e d (omega (arith, low, inside))) ∙ once i (n + k) d (omega (arith, low)) inside) in
    subst P (sym at) (each x none (list_any_at (same x) all (n + k) d inside (itself x)))

-- a class by its number, where its name is one of the trace's own
module _ (start : Start) (all : List Position) (scan : Scan) (at : IsAt start all scan) where
  own_number : (n : ℕ) → n < length scan.classes → IsClass (events all) (get_or scan.classes n no_class) → list_any (nat_eq n) scan.own ≡ true
  own_number n within there =
      let once = any_each_once same_class (alike_from_decides same_class same_class-Decides) (get_or scan.classes n no_class) (filter_map class_acquired (events all)) in
      let named_dependency : list_any (same_class (get_or scan.classes n no_class)) (own_names scan) ≡ true = ap (list_any (same_class (get_or scan.classes n no_class))) at.own ∙ once ∙ there in
      let found = Any-from_list_any (same_class (get_or scan.classes n no_class)) (own_names scan) named_dependency in
      let inside : found.0 < length scan.own = omega (arith, found.2, length-map scan.own (λ k. get_or scan.classes k no_class)) in
      let name : get_or (own_names scan) found.0 no_class ≡ get_or scan.classes (get_or scan.own found.0 0) no_class =
      get_or-map (λ k. get_or scan.classes k no_class) scan.own found.0 0 no_class inside in
      let same : get_or scan.classes n no_class ≡ get_or scan.classes (get_or scan.own found.0 0) no_class =
      (same_class-Decides (get_or scan.classes n no_class) found.1).0 found.4 ∙ sym found.3 ∙ get_or_default (own_names scan) found.0 _ no_class found.2 ∙ name in
      let low : get_or scan.own found.0 0 < length scan.classes = at.many.2 found.0 0 inside in
      let equal : n ≡ get_or scan.own found.0 0 = at.distinct n (get_or scan.own found.0 0) (get_or scan.classes n no_class) (within, refl) (low, sym same) in
      list_any_at (nat_eq n) scan.own found.0 0 inside (eq-eqb n (get_or scan.own found.0 0) equal)

  -- what isn't among the dependencies that were there is among those that the trace shows
  told_further : (s : Seen Dependency) → list_any (same_dependency_seen s) start.edges ≡ false
      → list_any (same_dependency_seen s) (map (scans.named_dependency scan.classes) scan.locks.edges) ≡ true → OfClasses (events all) s.what
  told_further s new there =
      let added = drop (length start.edges) (edges_after start all) in
      let split : list_any (same_dependency_seen s) (edges_after start all) ≡ (list_any (same_dependency_seen s) start.edges || list_any (same_dependency_seen s) added) =
      ap (list_any (same_dependency_seen s)) (sym (then_added same_dependency_seen start.edges (seen dependencies_at all))) ∙ list_any-append (same_dependency_seen s) start.edges added in
      let found = Any-from_list_any (same_dependency_seen s) added (ap (λ b. b || list_any (same_dependency_seen s) added) (sym new) ∙ sym split ∙ sym (at.edges (same_dependency_seen s)) ∙ there) in
      let shown = all_added (λ (t : Seen Dependency). OfClasses (events all) t.what) same_dependency_seen start.edges (seen dependencies_at all)
      (seen_classes dependencies_at OfClasses (λ past others d is. (more_classes past others d.from is.0, more_classes past others d.to is.1)) dependency_classes all) found.0 found.1 found.2 in
      subst (OfClasses (events all)) (sym ((Decides-same_dependency s.what found.1.what).0 found.4 ∙ ap (λ (t : Seen Dependency). t.what) (sym found.3))) shown

  -- what the trace told first is of its own classes
  pub own_edges : All (IsOwnEdge scan.own) (drop (length start.edges) scan.locks.edges)
  own_edges k d within =
      let edge = get_or (drop (length start.edges) scan.locks.edges) k d in
      let inside = All-drop (scans.IsBetween scan.classes) (length start.edges) scan.locks.edges at.within k d within in
      let shown = by_name k (scans.named_dependency scan.classes d) (omega (arith, within, length-map (drop (length start.edges) scan.locks.edges) (scans.named_dependency scan.classes))) in
      let here : get_or (map (scans.named_dependency scan.classes) (drop (length start.edges) scan.locks.edges)) k (scans.named_dependency scan.classes d) ≡ scans.named_dependency scan.classes edge =
      get_or-map (scans.named_dependency scan.classes) (drop (length start.edges) scan.locks.edges) k d (scans.named_dependency scan.classes d) within in
      let both = subst (λ (s : Seen Dependency). OfClasses (events all) s.what) here shown in
      (own_number edge.from inside.0 both.0, own_number edge.to inside.1 both.1)
    where
      names : List (Seen Dependency)
      names = map (scans.named_dependency scan.classes) scan.locks.edges

      by_name : All (λ (s : Seen Dependency). OfClasses (events all) s.what) (map (scans.named_dependency scan.classes) (drop (length start.edges) scan.locks.edges))
      by_name = subst (All (λ (s : Seen Dependency). OfClasses (events all) s.what)) (drop-map (scans.named_dependency scan.classes) (length start.edges) scan.locks.edges)
          (behind same_dependency_seen (λ s. OfClasses (events all) s.what) start.edges names at.first
          (once-named scan.classes at.distinct scan.locks.edges at.within at.once) (λ s. (Decides-same_dependency s.what s.what).1 refl) told_further)

  pub own_uses : All (IsOwnUse scan.own) (drop (length start.uses) scan.uses)
  own_uses k d within =
      let fact = get_or (drop (length start.uses) scan.uses) k d in
      let inside = All-drop (scans.IsUse scan.classes) (length start.uses) scan.uses at.used k d within in
      let shown = by_name k (scans.named_use scan.classes d) (omega (arith, within, length-map (drop (length start.uses) scan.uses) (scans.named_use scan.classes))) in
      let here : get_or (map (scans.named_use scan.classes) (drop (length start.uses) scan.uses)) k (scans.named_use scan.classes d) ≡ scans.named_use scan.classes fact =
      get_or-map (scans.named_use scan.classes) (drop (length start.uses) scan.uses) k d (scans.named_use scan.classes d) within in
      own_number fact.class inside.0 (subst (λ (s : Seen Use). OfClass (events all) s.what) here shown)
    where
      by_name : All (λ (s : Seen Use). OfClass (events all) s.what) (map (scans.named_use scan.classes) (drop (length start.uses) scan.uses))
      by_name = subst (All (λ (s : Seen Use). OfClass (events all) s.what)) (ap (drop (length start.uses)) (sym at.uses) ∙ drop-map (scans.named_use scan.classes) (length start.uses) scan.uses)
          (all_added (λ (s : Seen Use). OfClass (events all) s.what) same_use_seen start.uses (seen uses_at all)
          (seen_classes uses_at OfClass (λ past others u is. more_classes past others u.class is) use_classes all))
