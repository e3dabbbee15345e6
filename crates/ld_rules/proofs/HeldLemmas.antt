-- The held locks after one more event.
use Rattle.std.proofs.Common.{◌≡◌, ◌+◌, ◌++◌, ◌∷◌, [], List, ℕ, Bool, true, false, ◌&&◌, eqb, length, map, filter, take, Option, Some, None, refl, ap, sym, ◌∙◌, arith, if◌then◌else◌, length-append}
use Rattle.std.proofs.lemmas.Bool.{true≢false}
use Rattle.std.proofs.lemmas.Bool.Decides.{Decides-eqb, Decides-and, Decides-like}
use Rattle.std.proofs.lemmas.List.{map-append, take-append-le, take_all}
use Rattle.std.proofs.lemmas.List.Elements.{filter-append}
use Rattle.std.proofs.lemmas.Slice.Eq.{bytes_eq-Decides}
use Rattle.std.specs.Bool.{Decides}
use Rattle.std.specs.List.{enumerate_from, list_any}
use Rattle.std.specs.Str.{bytes_eq}
use Rattle.ld_trace.specs.Events.{PlainEvent, PlainLock}
use Rattle.ld_trace.specs.Events.PlainEvent.{Acquire, Try, Nested, Release, Enter, Exit, Enable, Disable, Begin}
use Rattle.ld_rules.specs.Open.{openings}
use Rattle.ld_rules.specs.Frames.{enters, exits, task_of, frame_of}
use Rattle.ld_rules.specs.Held.{Placed, placed, Key, key_with, lock_acquired, lock_released, acquires, releases, same_option}
use Rattle.ld_rules.specs.Held.{same_frame, same_lock, same_key, Acquisition, acquisition_of, class_with, sub_taken, held}
use Rattle.ld_rules.specs.Held.{held_by}
use Rattle.ld_rules.specs.Inner.Scanned.{remove_last}
use Rattle.ld_rules.proofs.OpenLemmas.{HasKeys, openings-opens, openings-closes, openings-neither}
use Rattle.ld_rules.proofs.RemoveLemmas.{map-remove_last, filter-remove_last, filter-remove_other, list_any-filter}
use Rattle.ld_rules.proofs.PlaceLemmas.{enumerate_push, map_along}
use Rattle.ld_rules.proofs.FrameLemmas.{frame_of-other}

-- the tests tell equal keys

pub Decides-same_option : {A : Type 0} (same : A → A → Bool) → ((a b : A) → Decides (same a b) (a ≡ b)) → (x y : Option A) → Decides (same_option same x y) (x ≡ y)
Decides-same_option same each None None = (λ h. refl, λ h. refl)
Decides-same_option same each None (Some y) = (λ h. absurd (true≢false (sym h)), λ h. cc)
Decides-same_option same each (Some x) None = (λ h. absurd (true≢false (sym h)), λ h. cc)
Decides-same_option same each (Some x) (Some y) = (λ h. ap Some ((each x y).0 h), λ h. let e : x ≡ y = cc in (each x y).1 e)

pub Decides-same_frame : (x y : Option ℕ) → Decides (same_frame x y) (x ≡ y)
Decides-same_frame = Decides-same_option (λ a b. eqb a b) Decides-eqb

pub Decides-same_lock : (a b : PlainLock) → Decides (same_lock a b) (a ≡ b)
Decides-same_lock a b = Decides-like (same_lock a b) (λ h. λ i. record { class = h.0 i; instance = h.1 i }) (λ h. (ap (λ l. l.class) h, ap (λ l. l.instance) h))
    (Decides-and (bytes_eq a.class b.class) (same_option bytes_eq a.instance b.instance) (bytes_eq-Decides a.class b.class) (Decides-same_option bytes_eq bytes_eq-Decides a.instance b.instance))

pub Decides-same_key : (a b : Key) → Decides (same_key a b) (a ≡ b)
Decides-same_key a b = Decides-like (same_key a b) (λ h. λ i. record { task = h.0.0 i; frame = h.0.1 i; lock = h.1 i }) (λ h. ((ap (λ k. k.task) h, ap (λ k. k.frame) h), ap (λ k. k.lock) h))
    (Decides-and (bytes_eq a.task b.task && same_frame a.frame b.frame) (same_lock a.lock b.lock)
    (Decides-and (bytes_eq a.task b.task) (same_frame a.frame b.frame) (bytes_eq-Decides a.task b.task) (Decides-same_frame a.frame b.frame))
    (Decides-same_lock a.lock b.lock))

-- no event both acquires and releases, and none that does either enters or exits

locks_apart : (e : PlainEvent) (lock : PlainLock) → lock_acquired e ≡ Some lock → lock_released e ≡ None
locks_apart (Acquire t l) lock is = refl
locks_apart (Try t l) lock is = refl
locks_apart (Nested t l n) lock is = refl
locks_apart (Release t l) lock is = cc
locks_apart (Enter t s) lock is = refl
locks_apart (Exit t s) lock is = refl
locks_apart (Enable t s) lock is = refl
locks_apart (Disable t s) lock is = refl
locks_apart (Begin t h s) lock is = refl

pub enters_none : (e : PlainEvent) (lock : PlainLock) → lock_acquired e ≡ Some lock → (enters e ≡ None) × (exits e ≡ None)
enters_none (Acquire t l) lock is = (refl, refl)
enters_none (Try t l) lock is = (refl, refl)
enters_none (Nested t l n) lock is = (refl, refl)
enters_none (Release t l) lock is = (refl, refl)
enters_none (Enter t s) lock is = cc
enters_none (Exit t s) lock is = cc
enters_none (Enable t s) lock is = (refl, refl)
enters_none (Disable t s) lock is = (refl, refl)
enters_none (Begin t h s) lock is = (refl, refl)

lock_keys : HasKeys same_key acquires releases
lock_keys = record { decides = Decides-same_key; apart = apart }
  where
    apart : (x : Placed) (key : Key) → acquires x ≡ Some key → releases x ≡ None
    apart x key is = by (lock_acquired x.event) refl
      where
        by : (o : Option PlainLock) → lock_acquired x.event ≡ o → releases x ≡ None
        by None eq = let none : key_with x None ≡ Some key = ap (key_with x) (sym eq) ∙ is in cc
        by (Some lock) eq = ap (key_with x) (locks_apart x.event lock eq)

-- an event of a past with the frame of its task there
abbrev place_in : List PlainEvent → ℕ × PlainEvent → Placed
place_in past p = record { event = p.1; frame = frame_of (take (p.0 + 1) past) (task_of p.1) }

-- each event keeps its frame
pub placed-push : (past : List PlainEvent) (e : PlainEvent) → placed (past ++ e ∷ []) ≡ placed past ++ record { event = e; frame = frame_of (past ++ e ∷ []) (task_of e) } ∷ []
placed-push past e =
    let kept : map (place_in (past ++ e ∷ [])) (enumerate_from 0 past) ≡ placed past =
    map_along (place_in (past ++ e ∷ [])) (place_in past) 0 past (λ n x low high. ap (λ ys. record { event = x; frame = frame_of ys (task_of x) })
    (take-append-le (n + 1) past (e ∷ []) (omega arith))) in
    let whole : take ((0 + length past) + 1) (past ++ e ∷ []) ≡ past ++ e ∷ [] = take_all ((0 + length past) + 1) (past ++ e ∷ []) (omega (arith, length-append past (e ∷ []))) in
    ap (map (place_in (past ++ e ∷ []))) (enumerate_push 0 past e)
    ∙ map-append (place_in (past ++ e ∷ [])) (enumerate_from 0 past) ((0 + length past, e) ∷ [])
    ∙ (λ i. kept i ++ record { event = e; frame = frame_of (whole i) (task_of e) } ∷ [])

-- what an event that names this lock acquires after these
abbrev pub acquisition_at : List PlainEvent → PlainEvent → PlainLock → Acquisition
acquisition_at past e lock = record {
  key = record { task = task_of e; frame = frame_of past (task_of e); lock = lock };
  class = class_with lock (sub_taken e);
}

-- an acquisition is open from its position on, and every other stays
pub held-acquires : (past : List PlainEvent) (e : PlainEvent) (lock : PlainLock) → lock_acquired e ≡ Some lock → held (past ++ e ∷ []) ≡ held past ++ acquisition_at past e lock ∷ []
held-acquires past e lock is =
    let quiet = enters_none e lock is in
    let frame : frame_of (past ++ e ∷ []) (task_of e) ≡ frame_of past (task_of e) = frame_of-other past (task_of e) e quiet.0 quiet.1 in
    let key : acquires (record { event = e; frame = frame_of (past ++ e ∷ []) (task_of e) }) ≡ Some (acquisition_at past e lock).key =
    (λ i. key_with (record { event = e; frame = frame i }) (is i)) in
    ap (λ xs. map acquisition_of (openings same_key acquires releases xs)) (placed-push past e)
    ∙ ap (map acquisition_of) (openings-opens same_key acquires releases lock_keys (placed past)
    (record { event = e; frame = frame_of (past ++ e ∷ []) (task_of e) }) (acquisition_at past e lock).key key)
    ∙ map-append acquisition_of (openings same_key acquires releases (placed past))
    (record {
      place = length (placed past);
      element = record { event = e; frame = frame_of (past ++ e ∷ []) (task_of e) };
      key = (acquisition_at past e lock).key;
    } ∷ [])

-- the test whether an acquisition has this key
abbrev pub has_key : Key → Acquisition → Bool
has_key key one = same_key key one.key

-- a release ends the latest open acquisition of its key, and every other stays
pub held-releases : (past : List PlainEvent) (task : List ℕ) (lock : PlainLock) → held (past ++ Release task lock ∷ []) ≡ remove_last
    (has_key (record { task = task; frame = frame_of past task; lock = lock })) (held past)
held-releases past task lock =
    let frame : frame_of (past ++ Release task lock ∷ []) task ≡ frame_of past task = frame_of-other past task (Release task lock) refl refl in
    let key : releases (record { event = Release task lock; frame = frame_of (past ++ Release task lock ∷ []) task }) ≡ Some (record { task = task; frame = frame_of past task; lock = lock }) =
    (λ i. key_with (record { event = Release task lock; frame = frame i }) (Some lock)) in
    ap (λ xs. map acquisition_of (openings same_key acquires releases xs)) (placed-push past (Release task lock))
    ∙ ap (map acquisition_of) (openings-closes same_key acquires releases lock_keys (placed past)
    (record { event = Release task lock; frame = frame_of (past ++ Release task lock ∷ []) task }) (record { task = task; frame = frame_of past task; lock = lock }) key)
    ∙ map-remove_last acquisition_of (has_key (record { task = task; frame = frame_of past task; lock = lock })) (openings same_key acquires releases (placed past))

-- no other event changes what is held
pub held-other : (past : List PlainEvent) (e : PlainEvent) → lock_acquired e ≡ None → lock_released e ≡ None → held (past ++ e ∷ []) ≡ held past
held-other past e not_acquired not_released =
    ap (λ xs. map acquisition_of (openings same_key acquires releases xs)) (placed-push past e)
    ∙ ap (map acquisition_of) (openings-neither same_key acquires releases lock_keys (placed past) (record { event = e; frame = frame_of (past ++ e ∷ []) (task_of e) })
    (ap (key_with (record { event = e; frame = frame_of (past ++ e ∷ []) (task_of e) })) not_acquired)
    (ap (key_with (record { event = e; frame = frame_of (past ++ e ∷ []) (task_of e) })) not_released))

-- the same of the locks of one task

-- the test whether an acquisition is of this task
abbrev pub is_of_task : List ℕ → Acquisition → Bool
is_of_task task one = bytes_eq task one.key.task

pub held_by-acquires : (past : List PlainEvent) (task : List ℕ) (e : PlainEvent) (lock : PlainLock) → lock_acquired e ≡ Some lock → held_by
    (past ++ e ∷ []) task ≡ held_by past task ++ (if bytes_eq task (task_of e) then acquisition_at past e lock ∷ [] else [])
held_by-acquires past task e lock is =
    ap (filter (is_of_task task)) (held-acquires past e lock is)
    ∙ filter-append (is_of_task task) (held past) (acquisition_at past e lock ∷ [])

-- an acquisition that has a key is of its task
same_task : (key : Key) (one : Acquisition) → has_key key one ≡ true → key.task ≡ one.key.task
same_task key one is = ap (λ k. k.task) ((Decides-same_key key one.key).0 is)

pub held_by-releases : (past : List PlainEvent) (task : List ℕ) (lock : PlainLock) → held_by (past ++ Release task lock ∷ []) task ≡ remove_last
    (has_key (record { task = task; frame = frame_of past task; lock = lock })) (held_by past task)
held_by-releases past task lock =
    ap (filter (is_of_task task)) (held-releases past task lock)
    ∙ filter-remove_last (has_key (record { task = task; frame = frame_of past task; lock = lock })) (is_of_task task)
    (λ one is. (bytes_eq-Decides task one.key.task).1 (same_task (record { task = task; frame = frame_of past task; lock = lock }) one is)) (held past)

pub held_by-releases_other : (past : List PlainEvent) (task by : List ℕ) (lock : PlainLock) → bytes_eq task by ≡ false → held_by (past ++ Release by lock ∷ []) task ≡ held_by past task
held_by-releases_other past task by lock other =
    ap (filter (is_of_task task)) (held-releases past by lock)
    ∙ filter-remove_other (has_key (record { task = by; frame = frame_of past by; lock = lock })) (is_of_task task)
    (λ one is. ap (bytes_eq task) (sym (same_task (record { task = by; frame = frame_of past by; lock = lock }) one is)) ∙ other) (held past)

pub held_by-other : (past : List PlainEvent) (task : List ℕ) (e : PlainEvent) → lock_acquired e ≡ None → lock_released e ≡ None → held_by (past ++ e ∷ []) task ≡ held_by past task
held_by-other past task e not_acquired not_released = ap (filter (is_of_task task)) (held-other past e not_acquired not_released)

-- a key is held where it is held by its task
pub any_held_by : (past : List PlainEvent) (key : Key) → list_any (has_key key) (held_by past key.task) ≡ list_any (has_key key) (held past)
any_held_by past key = list_any-filter (has_key key) (is_of_task key.task) (λ one is. (bytes_eq-Decides key.task one.key.task).1 (same_task key one is)) (held past)
