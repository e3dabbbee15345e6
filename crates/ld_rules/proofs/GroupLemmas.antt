-- The locks of a task, frame by frame, and what stood just before the enter of a frame.
use Rattle.std.proofs.Common.{◌≡◌, ◌≤◌, ◌++◌, ◌∷◌, [], List, ℕ, Bool, true, false, ◌&&◌, ◌||◌, not, cond, length, filter, take, drop, get_or, Some}
use Rattle.std.proofs.Common.{None, refl, ap, sym, subst, ◌∙◌, arith, if◌then◌else◌, append_assoc, length-append}
use Rattle.std.proofs.lemmas.Bool.{true≢false, and_parts, and_from, ne_eqb}
use Rattle.std.proofs.lemmas.List.{append-nil, take-append-le, take_at, drop_at}
use Rattle.std.proofs.lemmas.List.Elements.{filter-append}
use Rattle.std.proofs.lemmas.List.Folds.{list_all-append}
use Rattle.std.proofs.lemmas.Slice.Eq.{bytes_eq-Decides}
use Rattle.std.specs.List.{list_all, list_any}
use Rattle.std.specs.Str.{bytes_eq}
use Rattle.ld_trace.specs.declared.event.State.{State}
use Rattle.ld_trace.specs.Events.{PlainEvent, PlainLock}
use Rattle.ld_trace.specs.Events.PlainEvent.{Acquire, Try, Nested, Release, Enter, Exit, Enable, Disable, Begin}
use Rattle.ld_rules.specs.Frames.{Frame, frame_of, task_of, enters, exits}
use Rattle.ld_rules.specs.Held.{Acquisition, same_frame, lock_acquired, held_by, held_in}
use Rattle.ld_rules.specs.Outcome.{is_held_at_exit}
use Rattle.ld_rules.specs.Inner.Scanned.{remove_last}
use Rattle.ld_rules.proofs.OpenLemmas.{remove_last-skip}
use Rattle.ld_rules.proofs.RemoveLemmas.{list_all-remove_last}
use Rattle.ld_rules.proofs.HeldLemmas.{Decides-same_frame, Decides-same_key, acquisition_at, has_key, held_by-acquires, held_by-releases, held_by-releases_other, held_by-other}
use Rattle.ld_rules.specs.Inner.Levels.{stack, starts, starts_in}
use Rattle.ld_rules.proofs.FlagLemmas.{stack-enter_own, stack-exit, stack-quiet, stack-other, innermost, frame_of_stack, Falls, falls_rest, stack_falls}
use Rattle.ld_rules.proofs.UsageLemmas.{list_all_mono}

starts_in-push : (past : List PlainEvent) (e : PlainEvent) (task : List ℕ) (n : ℕ) (fs : List Frame) → n ≤ length past → Falls n fs → starts_in (past ++ e ∷ []) task fs ≡ starts_in past task fs
starts_in-push past e task n [] le falls = refl
starts_in-push past e task n (f ∷ fs) le falls =
    let cut : take f.place (past ++ e ∷ []) ≡ take f.place past = take-append-le f.place past (e ∷ []) (omega (arith, falls.0)) in
    let rest = starts_in-push past e task f.place fs (omega (arith, falls.0)) falls.1 in
    (λ i. length (held_by (cut i) task) ∷ rest i)

pub starts-kept : (past : List PlainEvent) (e : PlainEvent) (task : List ℕ) → stack (past ++ e ∷ []) task ≡ stack past task → starts (past ++ e ∷ []) task ≡ starts past task
starts-kept past e task same = ap (starts_in (past ++ e ∷ []) task) same ∙ starts_in-push past e task (length past) (stack past task) (omega arith) (stack_falls task past)

pub starts-enter : (past : List PlainEvent) (task : List ℕ) (state : State) → starts (past ++ Enter task state ∷ []) task ≡ length (held_by past task) ∷ starts past task
starts-enter past task state =
    ap (starts_in (past ++ Enter task state ∷ []) task) (stack-enter_own past task state)
    ∙ (λ i. length (held_by (take_at past (Enter task state ∷ []) (length past) refl i) task) ∷ starts_in-push past (Enter task state) task
    (length past) (stack past task) (omega arith) (stack_falls task past) i)

pub starts-exit : (past : List PlainEvent) (task : List ℕ) (state : State) → starts (past ++ Exit task state ∷ []) task ≡ drop 1 (starts past task)
starts-exit past task state =
    ap (starts_in (past ++ Exit task state ∷ []) task) (stack-exit past task state)
    ∙ starts_in-push past (Exit task state) task (length past) (drop 1 (stack past task)) (omega arith) (falls_rest (length past) (stack past task) (stack_falls task past))
    ∙ each (stack past task)
  where
    each : (fs : List Frame) → starts_in past task (drop 1 fs) ≡ drop 1 (starts_in past task fs)
    each [] = refl
    each (f ∷ fs) = refl

-- Acquisitions grouped by these frames: behind those of the frames around it, from its start on, those of the
-- innermost frame.
abbrev pub Grouped : List Frame → List ℕ → List Acquisition → Type 0
Grouped [] ss keys = list_all (λ one. same_frame None one.key.frame) keys ≡ true
Grouped (f ∷ fs) ss keys = (outer : List Acquisition) × ((own : List Acquisition) ×
    ((keys ≡ outer ++ own) × (length outer ≡ get_or ss 0 0) × (list_all (λ one. same_frame (Some f.place) one.key.frame) own ≡ true) × Grouped fs (drop 1 ss) outer))

-- acquisitions grouped by frames are in none of a later place
grouped_elsewhere : (n m : ℕ) (fs : List Frame) (ss : List ℕ) (keys : List Acquisition) → m ≤ n →
    Falls m fs → Grouped fs ss keys → list_all (λ one. not (same_frame (Some n) one.key.frame)) keys ≡ true
grouped_elsewhere n m [] ss keys le falls h =
    list_all_mono (λ one. same_frame None one.key.frame) (λ one. not (same_frame (Some n) one.key.frame))
    (λ one is. ap (λ frame. not (same_frame (Some n) frame)) (sym ((Decides-same_frame None one.key.frame).0 is))) keys h
grouped_elsewhere n m (f ∷ fs) ss keys le falls h =
    ap (list_all (λ one. not (same_frame (Some n) one.key.frame))) h.1.1.0
    ∙ list_all-append (λ one. not (same_frame (Some n) one.key.frame)) h.0 h.1.0
    ∙ and_from (list_all (λ one. not (same_frame (Some n) one.key.frame)) h.0) (list_all (λ one. not (same_frame (Some n) one.key.frame)) h.1.0)
    (grouped_elsewhere n f.place fs (drop 1 ss) h.0 (omega (arith, falls.0)) falls.1 h.1.1.3)
    (list_all_mono (λ one. same_frame (Some f.place) one.key.frame) (λ one. not (same_frame (Some n) one.key.frame))
    (λ one is. ap (λ frame. not (same_frame (Some n) frame)) (sym ((Decides-same_frame (Some f.place) one.key.frame).0 is)) ∙ ap not (ne_eqb n f.place (λ e. omega (arith, falls.0)))) h.1.0 h.1.1.2)

-- with one more in the innermost frame
grouped_acquires : (fs : List Frame) (ss : List ℕ) (keys : List Acquisition) (one : Acquisition) → one.key.frame ≡ innermost fs → Grouped fs ss keys → Grouped fs ss (keys ++ one ∷ [])
grouped_acquires [] ss keys one frame h =
    list_all-append (λ k. same_frame None k.key.frame) keys (one ∷ [])
    ∙ and_from (list_all (λ k. same_frame None k.key.frame) keys) (same_frame None one.key.frame && true) h (ap (λ o. same_frame None o && true) frame)
grouped_acquires (f ∷ fs) ss keys one frame h = (
  h.0,
  (
    h.1.0 ++ one ∷ [],
    (
      ap (λ ks. ks ++ one ∷ []) h.1.1.0 ∙ append_assoc h.0 h.1.0 (one ∷ []),
      h.1.1.1,
      list_all-append (λ k. same_frame (Some f.place) k.key.frame) h.1.0 (one ∷ [])
          ∙ and_from (list_all (λ k. same_frame (Some f.place) k.key.frame) h.1.0) (same_frame (Some f.place) one.key.frame && true) h.1.1.2
          (and_from (same_frame (Some f.place) one.key.frame) true ((Decides-same_frame (Some f.place) one.key.frame).1 (sym frame)) refl),
      h.1.1.3,
    ),
  ),
)

pub any_none : {X : Type 0} (p q : X → Bool) → ((x : X) → p x ≡ true → q x ≡ false) → (xs : List X) → list_all q xs ≡ true → list_any p xs ≡ false
any_none p q without [] all = refl
any_none p q without (x ∷ xs) all =
    let parts = and_parts (q x) (list_all q xs) all in
    by (p x) refl parts.0 (any_none p q without xs parts.1)
  where
    by : (b : Bool) → p x ≡ b → q x ≡ true → list_any p xs ≡ false → (b || list_any p xs) ≡ false
    by true is passes rest = absurd (true≢false (sym passes ∙ without x is))
    by false is passes rest = rest

-- where none passes in front, the last is removed behind
pub remove_last-append : {X : Type 0} (p : X → Bool) (xs ys : List X) → list_any p xs ≡ false → remove_last p (xs ++ ys) ≡ xs ++ remove_last p ys
remove_last-append p [] ys none = refl
remove_last-append p (x ∷ xs) ys none = by (p x) refl (remove_last-append p xs ys)
  where
    by : (b : Bool) → p x ≡ b → (list_any p xs ≡ false → remove_last p (xs ++ ys) ≡ xs ++ remove_last p ys) → remove_last p (x ∷ (xs ++ ys)) ≡ x ∷ (xs ++ remove_last p ys)
    by true is rest = absurd (true≢false (ap (λ b. b || list_any p xs) (sym is) ∙ none))
    by false is rest = remove_last-skip p x (xs ++ ys) is ∙ ap (λ zs. x ∷ zs) (rest (ap (λ b. b || list_any p xs) (sym is) ∙ none))

-- with one less in the innermost frame
grouped_releases : (m : ℕ) (fs : List Frame) (ss : List ℕ) (keys : List Acquisition) (p : Acquisition → Bool) → Falls m fs →
    ((one : Acquisition) → p one ≡ true → innermost fs ≡ one.key.frame) → Grouped fs ss keys → Grouped fs ss (remove_last p keys)
grouped_releases m [] ss keys p falls frame h = list_all-remove_last p (λ k. same_frame None k.key.frame) keys h
grouped_releases m (f ∷ fs) ss keys p falls frame h =
    let none : list_any p h.0 ≡ false =
    any_none p (λ one. not (same_frame (Some f.place) one.key.frame)) (λ one is. ap not ((Decides-same_frame (Some f.place) one.key.frame).1 (frame one is)))
    h.0 (grouped_elsewhere f.place f.place fs (drop 1 ss) h.0 (omega arith) falls.1 h.1.1.3) in (
      h.0,
      (
        remove_last p h.1.0,
        (ap (remove_last p) h.1.1.0 ∙ remove_last-append p h.0 h.1.0 none, h.1.1.1, list_all-remove_last p (λ k. same_frame (Some f.place) k.key.frame) h.1.0 h.1.1.2, h.1.1.3),
      ),
    )

filter_all : {X : Type 0} (q : X → Bool) (xs : List X) → list_all q xs ≡ true → filter q xs ≡ xs
filter_all q [] all = refl
filter_all q (x ∷ xs) all =
    let parts = and_parts (q x) (list_all q xs) all in
    (λ i. cond (parts.0 i) (x ∷ filter_all q xs parts.1 i) (filter_all q xs parts.1 i))

filter_none : {X : Type 0} (q : X → Bool) (xs : List X) → list_all (λ x. not (q x)) xs ≡ true → filter q xs ≡ []
filter_none q [] all = refl
filter_none q (x ∷ xs) all =
    let parts = and_parts (not (q x)) (list_all (λ y. not (q y)) xs) all in
    by (q x) parts.0 (filter_none q xs parts.1)
  where
    by : (b : Bool) → not b ≡ true → filter q xs ≡ [] → cond b (x ∷ filter q xs) (filter q xs) ≡ []
    by true fails rest = absurd (true≢false (sym fails))
    by false fails rest = rest

-- those of the innermost frame
grouped_own : (m : ℕ) (f : Frame) (fs : List Frame) (ss : List ℕ) (keys : List Acquisition) → Falls m (f ∷ fs) → (h : Grouped (f ∷ fs) ss keys) → filter
    (λ one. same_frame (Some f.place) one.key.frame) keys ≡ h.1.0
grouped_own m f fs ss keys falls h =
    ap (filter (λ one. same_frame (Some f.place) one.key.frame)) h.1.1.0
    ∙ filter-append (λ one. same_frame (Some f.place) one.key.frame) h.0 h.1.0
    ∙ (λ i. filter_none (λ one. same_frame (Some f.place) one.key.frame) h.0 (grouped_elsewhere f.place f.place fs (drop 1 ss) h.0 (omega arith) falls.1
    h.1.1.3) i ++ filter_all (λ one. same_frame (Some f.place) one.key.frame) h.1.0 h.1.1.2 i)

-- What a task holds is grouped by its open frames.
abbrev pub IsGrouped : List PlainEvent → List ℕ → Type 0
IsGrouped past task = Grouped (stack past task) (starts past task) (held_by past task)

-- an event of another task changes nothing of what a task holds
pub held_by-other_task : (past : List PlainEvent) (task : List ℕ) (e : PlainEvent) → bytes_eq task (task_of e) ≡ false → held_by (past ++ e ∷ []) task ≡ held_by past task
held_by-other_task past task e other = by e other
  where
    acquired : (e : PlainEvent) (lock : PlainLock) → lock_acquired e ≡ Some lock → bytes_eq task (task_of e) ≡ false → held_by (past ++ e ∷ []) task ≡ held_by past task
    acquired e lock is other =
        held_by-acquires past task e lock is
        ∙ ap (λ (b : Bool). held_by past task ++ (if b then acquisition_at past e lock ∷ [] else [])) other
        ∙ append-nil (held_by past task)

    by : (e : PlainEvent) → bytes_eq task (task_of e) ≡ false → held_by (past ++ e ∷ []) task ≡ held_by past task
    by (Acquire t l) other = acquired (Acquire t l) l refl other
    by (Try t l) other = acquired (Try t l) l refl other
    by (Nested t l n) other = acquired (Nested t l n) l refl other
    by (Release t l) other = held_by-releases_other past task t l other
    by (Enter t s) other = held_by-other past task (Enter t s) refl refl
    by (Exit t s) other = held_by-other past task (Exit t s) refl refl
    by (Enable t s) other = held_by-other past task (Enable t s) refl refl
    by (Disable t s) other = held_by-other past task (Disable t s) refl refl
    by (Begin t h s) other = held_by-other past task (Begin t h s) refl refl

module _ (past : List PlainEvent) where
  moved : (task : List ℕ) (e : PlainEvent) → stack (past ++ e ∷ []) task ≡ stack past task → Grouped (stack past task) (starts past task)
      (held_by (past ++ e ∷ []) task) → IsGrouped (past ++ e ∷ []) task
  moved task e same h = subst (λ fs. Grouped fs (starts (past ++ e ∷ []) task) (held_by (past ++ e ∷ []) task)) (sym same)
      (subst (λ ss. Grouped (stack past task) ss (held_by (past ++ e ∷ []) task)) (sym (starts-kept past e task same)) h)

  unmoved : (task : List ℕ) (e : PlainEvent) → stack (past ++ e ∷ []) task ≡ stack past task → held_by (past ++ e ∷ []) task ≡ held_by past task → IsGrouped past task → IsGrouped (past ++ e ∷ []) task
  unmoved task e same held h = moved task e same (subst (Grouped (stack past task) (starts past task)) (sym held) h)

  acquired : (e : PlainEvent) (lock : PlainLock) → lock_acquired e ≡ Some lock → enters e ≡ None → exits e ≡ None → IsGrouped past (task_of e) → IsGrouped (past ++ e ∷ []) (task_of e)
  acquired e lock is no_enter no_exit h =
      moved (task_of e) e (stack-quiet past (task_of e) e no_enter no_exit)
      (subst (Grouped (stack past (task_of e)) (starts past (task_of e)))
      (sym (held_by-acquires past (task_of e) e lock is ∙ ap (λ (b : Bool). held_by past (task_of e) ++
      (if b then acquisition_at past e lock ∷ [] else [])) ((bytes_eq-Decides (task_of e) (task_of e)).1 refl)))
      (grouped_acquires (stack past (task_of e)) (starts past (task_of e)) (held_by past (task_of e))
      (acquisition_at past e lock) (frame_of_stack past (task_of e)) h))

  released : (task : List ℕ) (lock : PlainLock) → IsGrouped past task → IsGrouped (past ++ Release task lock ∷ []) task
  released task lock h =
      moved task (Release task lock) (stack-quiet past task (Release task lock) refl refl)
      (subst (Grouped (stack past task) (starts past task)) (sym (held_by-releases past task lock))
      (grouped_releases (length past) (stack past task) (starts past task) (held_by past task) (has_key (record { task = task; frame = frame_of past task; lock = lock })) (stack_falls task past)
      (λ one is. sym (frame_of_stack past task) ∙ ap (λ key. key.frame) ((Decides-same_key (record { task = task; frame = frame_of past task; lock = lock }) one.key).0 is)) h))

  entered : (task : List ℕ) (state : State) → IsGrouped past task → IsGrouped (past ++ Enter task state ∷ []) task
  entered task state h =
      subst (λ fs. Grouped fs (starts (past ++ Enter task state ∷ []) task) (held_by (past ++ Enter task state ∷ []) task)) (sym (stack-enter_own past task state))
      (subst (λ ss. Grouped (record { place = length past; element = Enter task state; key = task } ∷ stack past task) ss
      (held_by (past ++ Enter task state ∷ []) task)) (sym (starts-enter past task state))
      (held_by past task, ([], (held_by-other past task (Enter task state) refl refl ∙ sym (append-nil (held_by past task)), refl, refl, h))))

  exited : (task : List ℕ) (state : State) → is_held_at_exit past (Exit task state) ≡ false → IsGrouped past task → IsGrouped (past ++ Exit task state ∷ []) task
  exited task state none h =
      subst (λ fs. Grouped fs (starts (past ++ Exit task state ∷ []) task) (held_by (past ++ Exit task state ∷ []) task)) (sym (stack-exit past task state))
      (subst (λ ss. Grouped (drop 1 (stack past task)) ss (held_by (past ++ Exit task state ∷ []) task)) (sym (starts-exit past task state))
      (subst (Grouped (drop 1 (stack past task)) (drop 1 (starts past task))) (sym (held_by-other past task (Exit task state) refl refl))
      (each (stack past task) (starts past task) (held_by past task) (frame_of_stack past task) (stack_falls task past) none h)))
    where
      no_elements : (keys : List Acquisition) → list_any (λ one. true) keys ≡ false → keys ≡ []
      no_elements [] none = refl
      no_elements (k ∷ keys) none = absurd (true≢false none)

      each : (fs : List Frame) (ss : List ℕ) (keys : List Acquisition) → frame_of past task ≡ innermost fs → Falls (length past) fs → list_any (λ one. true)
          (filter (λ one. same_frame (frame_of past task) one.key.frame) keys) ≡ false → Grouped fs ss keys → Grouped (drop 1 fs) (drop 1 ss) keys
      each [] ss keys frame falls none h = h
      each (f ∷ fs) ss keys frame falls none h =
          let gone : h.1.0 ≡ [] = sym (grouped_own (length past) f fs ss keys falls h) ∙ ap (λ o. filter (λ one. same_frame o one.key.frame) keys)
          (sym frame) ∙ no_elements (filter (λ one. same_frame (frame_of past task) one.key.frame) keys) none in
          subst (Grouped fs (drop 1 ss)) (sym (h.1.1.0 ∙ ap (λ own. h.0 ++ own) gone ∙ append-nil h.0)) h.1.1.3

  -- one more event keeps it, unless a lock is held in a frame that closes
  pub grouped-push : (e : PlainEvent) (task : List ℕ) → is_held_at_exit past e ≡ false → IsGrouped past task → IsGrouped (past ++ e ∷ []) task
  grouped-push e task good h = by (bytes_eq task (task_of e)) refl
    where
      own : (e : PlainEvent) → is_held_at_exit past e ≡ false → IsGrouped past (task_of e) → IsGrouped (past ++ e ∷ []) (task_of e)
      own (Acquire t l) good h = acquired (Acquire t l) l refl refl refl h
      own (Try t l) good h = acquired (Try t l) l refl refl refl h
      own (Nested t l n) good h = acquired (Nested t l n) l refl refl refl h
      own (Release t l) good h = released t l h
      own (Enter t s) good h = entered t s h
      own (Exit t s) good h = exited t s good h
      own (Enable t s) good h = unmoved t (Enable t s) (stack-quiet past t (Enable t s) refl refl) (held_by-other past t (Enable t s) refl refl) h
      own (Disable t s) good h = unmoved t (Disable t s) (stack-quiet past t (Disable t s) refl refl) (held_by-other past t (Disable t s) refl refl) h
      own (Begin t hard soft) good h = unmoved t (Begin t hard soft) (stack-quiet past t (Begin t hard soft) refl refl) (held_by-other past t (Begin t hard soft) refl refl) h

      by : (b : Bool) → bytes_eq task (task_of e) ≡ b → IsGrouped (past ++ e ∷ []) task
      by true is = let one = (bytes_eq-Decides task (task_of e)).0 is in subst (IsGrouped (past ++ e ∷ [])) (sym one) (own e good (subst (IsGrouped past) one h))
      by false is = unmoved task e (stack-other past task e is) (held_by-other_task past task e is) h

pub grouped-empty : (task : List ℕ) → IsGrouped [] task
grouped-empty task = refl

-- so what a task holds in its innermost frame is what it holds from that frame's start on
pub held_in-innermost : (past : List PlainEvent) (task : List ℕ) → IsGrouped past task → held_in past task (frame_of past task) ≡ drop (get_or (starts past task) 0 0) (held_by past task)
held_in-innermost past task h = each (stack past task) refl (stack_falls task past) h
  where
    each : (fs : List Frame) → stack past task ≡ fs → Falls (length past) fs → Grouped fs (starts_in past task fs) (held_by past task) → held_in past
        task (frame_of past task) ≡ drop (get_or (starts_in past task fs) 0 0) (held_by past task)
    each [] is falls h = ap (held_in past task) (frame_of_stack past task ∙ ap innermost is) ∙ filter_all (λ one. same_frame None one.key.frame) (held_by past task) h
    each (f ∷ fs) is falls h =
        ap (held_in past task) (frame_of_stack past task ∙ ap innermost is)
        ∙ grouped_own (length past) f fs (starts_in past task (f ∷ fs)) (held_by past task) falls h
        ∙ sym (ap (drop (length (held_by (take f.place past) task))) h.1.1.0 ∙ drop_at h.0 h.1.0 (length (held_by (take f.place past) task)) h.1.1.1)

-- and what it holds below that start it holds in other frames
pub outer_elsewhere : (past : List PlainEvent) (task : List ℕ) → IsGrouped past task → list_any (λ one. same_frame (frame_of past task) one.key.frame)
    (take (get_or (starts past task) 0 0) (held_by past task)) ≡ false
outer_elsewhere past task h = each (stack past task) refl (stack_falls task past) h
  where
    each : (fs : List Frame) → stack past task ≡ fs → Falls (length past) fs → Grouped fs (starts_in past task fs) (held_by past task) → list_any
        (λ one. same_frame (frame_of past task) one.key.frame) (take (get_or (starts_in past task fs) 0 0) (held_by past task)) ≡ false
    each [] is falls h = refl
    each (f ∷ fs) is falls h =
        let outer : take (length (held_by (take f.place past) task)) (held_by past task) ≡ h.0 = ap (take (length (held_by (take f.place past) task)))
        h.1.1.0 ∙ take_at h.0 h.1.0 (length (held_by (take f.place past) task)) h.1.1.1 in
        let frame : frame_of past task ≡ Some f.place = frame_of_stack past task ∙ ap innermost is in
        ap (list_any (λ one. same_frame (frame_of past task) one.key.frame)) outer
        ∙ any_none (λ one. same_frame (frame_of past task) one.key.frame) (λ one. not (same_frame (Some f.place) one.key.frame))
        (λ one same. ap not (ap (λ o. same_frame o one.key.frame) (sym frame) ∙ same)) h.0
        (grouped_elsewhere f.place f.place fs (starts_in past task fs) h.0 (omega arith) falls.1 h.1.1.3)

-- that start is no further than what it holds
pub start-within : (past : List PlainEvent) (task : List ℕ) → IsGrouped past task → get_or (starts past task) 0 0 ≤ length (held_by past task)
start-within past task h = each (stack past task) h
  where
    each : (fs : List Frame) → Grouped fs (starts_in past task fs) (held_by past task) → get_or (starts_in past task fs) 0 0 ≤ length (held_by past task)
    each [] h = omega arith
    each (f ∷ fs) h = omega (arith, h.1.1.1, ap length h.1.1.0, length-append h.0 h.1.0)
