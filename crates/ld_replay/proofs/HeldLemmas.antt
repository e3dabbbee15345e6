-- The held locks of a task with their lines, after one more event.
use Rattle.std.proofs.Common.{◌≡◌, ◌++◌, ◌∷◌, [], List, ℕ, Bool, true, false, length, map, filter, Option, Some, None, Ok, get_or, refl, ap, sym, ◌∙◌, if◌then◌else◌}
use Rattle.std.proofs.lemmas.List.{append-nil, map-append, get_or_push, length-map}
use Rattle.std.proofs.lemmas.List.Elements.{filter-append}
use Rattle.std.proofs.lemmas.List.FromFn.{length-enumerate_from}
use Rattle.std.proofs.lemmas.Slice.Eq.{bytes_eq-Decides}
use Rattle.std.specs.List.{enumerate_from, list_all}
use Rattle.std.specs.Str.{bytes_eq}
use Rattle.ld_trace.specs.Events.{PlainEvent, PlainLock, Position}
use Rattle.ld_trace.specs.Events.PlainEvent.{Acquire, Try, Nested, Release, Enter, Exit, Enable, Disable, Begin}
use Rattle.ld_rules.specs.Open.{Opening, openings}
use Rattle.ld_rules.specs.Frames.{frame_of, task_of}
use Rattle.ld_rules.specs.Held.{Acquisition, Key, Placed, acquires, acquisition_of, key_with, lock_acquired, lock_released, placed, releases, same_key}
use Rattle.ld_rules.specs.Outcome.{events}
use Rattle.ld_rules.specs.Dependency.{Seen}
use Rattle.ld_rules.specs.Inner.Scanned.{remove_last}
use Rattle.ld_rules.proofs.OpenLemmas.{HasKeys, openings-opens, openings-closes, openings-neither}
use Rattle.ld_rules.proofs.RemoveLemmas.{map-remove_last, filter-remove_last, filter-remove_other}
use Rattle.ld_rules.proofs.FrameLemmas.{frame_of-other}
use Rattle.ld_rules.proofs.HeldLemmas.{Decides-same_key, acquisition_at, enters_none, placed-push}
use Rattle.ld_replay.specs.HeldAt.{event_lines, held_lines, held_lines_by, opened_at}
use Rattle.ld_replay.specs.Inner.Task.{has_key}
use Rattle.ld_replay.proofs.OpenedLemmas.{events-more, lines-even, lines-kept, lines-more, open-below, is_below}

-- no event both acquires and releases
lock_keys : HasKeys same_key acquires releases
lock_keys = record { decides = Decides-same_key; apart = λ x key is. apart x.event x.frame key is }
  where
    apart : (e : PlainEvent) (frame : Option ℕ) (key : Key) → acquires (record { event = e; frame = frame }) ≡ Some key → releases (record { event = e; frame = frame }) ≡ None
    apart (Acquire t l) frame key is = refl
    apart (Try t l) frame key is = refl
    apart (Nested t l n) frame key is = refl
    apart (Release t l) frame key is = cc
    apart (Enter t s) frame key is = refl
    apart (Exit t s) frame key is = refl
    apart (Enable t s) frame key is = refl
    apart (Disable t s) frame key is = refl
    apart (Begin t h s) frame key is = refl

-- the position of an event at a line
abbrev pub happens : ℕ → PlainEvent → Position
happens line event = record { line = line; says = Ok event }

-- the open acquisitions, with their places
abbrev opened_in : List PlainEvent → List (Opening Placed Key)
opened_in past = openings same_key acquires releases (placed past)

length-placed : (past : List PlainEvent) → length (placed past) ≡ length past
length-placed past = length-map (enumerate_from 0 past) _ ∙ length-enumerate_from 0 past

-- what was open has the same lines
kept : (past : List Position) (event : PlainEvent) (line : ℕ) → map (opened_at acquisition_of (event_lines (past ++ happens line event ∷ []))) (opened_in (events past)) ≡ held_lines past
kept past event line =
    let long : length (placed (events past)) ≡ length (event_lines past) = length-placed (events past) ∙ sym (lines-even past) in
    let below : list_all (is_below (length (event_lines past))) (opened_in (events past)) ≡ true =
    ap (λ n. list_all (is_below n) (opened_in (events past))) (sym long) ∙ open-below same_key acquires releases (placed (events past)) in
    ap (λ ls. map (opened_at acquisition_of ls) (opened_in (events past))) (lines-more past event line)
    ∙ lines-kept (λ o l. record { what = acquisition_of o; line = l }) (event_lines past) line (opened_in (events past)) below

-- the event with the frame of its task
abbrev last_of : List PlainEvent → PlainEvent → Placed
last_of past e = record { event = e; frame = frame_of (past ++ e ∷ []) (task_of e) }

-- an acquisition that a trace makes at this line
abbrev pub seen_of : List PlainEvent → PlainEvent → PlainLock → ℕ → Seen Acquisition
seen_of past e lock line = record { what = acquisition_at past e lock; line = line }

lines-acquires : (past : List Position) (e : PlainEvent) (line : ℕ) (lock : PlainLock) → lock_acquired e ≡ Some lock → held_lines (past ++ happens line e ∷ []) ≡ held_lines past ++ seen_of (events past) e lock line ∷ []
lines-acquires past e line lock is =
    let quiet = enters_none e lock is in
    let frame : frame_of (events past ++ e ∷ []) (task_of e) ≡ frame_of (events past) (task_of e) = frame_of-other (events past) (task_of e) e quiet.0 quiet.1 in
    let key : acquires (last_of (events past) e) ≡ Some (acquisition_at (events past) e lock).key = (λ i. key_with (record { event = e; frame = frame i }) (is i)) in
    let opens : opened_in (events past ++ e ∷ []) ≡ opened_in (events past) ++ record { place = length (placed (events past)); element = last_of (events past) e; key = (acquisition_at (events past) e lock).key } ∷ [] =
    ap (openings same_key acquires releases) (placed-push (events past) e) ∙ openings-opens same_key acquires releases lock_keys (placed (events past)) (last_of (events past) e) (acquisition_at (events past) e lock).key key in
    let at : get_or (event_lines (past ++ happens line e ∷ [])) (length (placed (events past))) 0 ≡ line =
    ap (λ ls. get_or ls (length (placed (events past))) 0) (lines-more past e line) ∙ get_or_push (event_lines past) line 0 (length (placed (events past))) (lines-even past ∙ sym (length-placed (events past))) in
    ap (λ es. map (opened_at acquisition_of (event_lines (past ++ happens line e ∷ []))) (opened_in es)) (events-more past e line)
    ∙ ap (map (opened_at acquisition_of (event_lines (past ++ happens line e ∷ [])))) opens
    ∙ map-append (opened_at acquisition_of (event_lines (past ++ happens line e ∷ []))) (opened_in (events past))
    (record { place = length (placed (events past)); element = last_of (events past) e; key = (acquisition_at (events past) e lock).key } ∷ [])
    ∙ (λ i. kept past e line i ++ record { what = acquisition_at (events past) e lock; line = at i } ∷ [])

-- the key of a release
abbrev pub key_of : List PlainEvent → List ℕ → PlainLock → Key
key_of past task lock = record { task = task; frame = frame_of past task; lock = lock }

lines-releases : (past : List Position) (task : List ℕ) (lock : PlainLock) (line : ℕ) → held_lines (past ++ happens line (Release task lock) ∷ []) ≡ remove_last (has_key (key_of (events past) task lock)) (held_lines past)
lines-releases past task lock line =
    let e : PlainEvent = Release task lock in
    let frame : frame_of (events past ++ e ∷ []) task ≡ frame_of (events past) task = frame_of-other (events past) task e refl refl in
    let key : releases (last_of (events past) e) ≡ Some (key_of (events past) task lock) = (λ i. key_with (record { event = e; frame = frame i }) (Some lock)) in
    let closes : opened_in (events past ++ e ∷ []) ≡ remove_last (λ o. same_key (key_of (events past) task lock) o.key) (opened_in (events past)) =
    ap (openings same_key acquires releases) (placed-push (events past) e) ∙ openings-closes same_key acquires releases lock_keys (placed (events past)) (last_of (events past) e) (key_of (events past) task lock) key in
    ap (λ es. map (opened_at acquisition_of (event_lines (past ++ happens line e ∷ []))) (opened_in es)) (events-more past e line)
    ∙ ap (map (opened_at acquisition_of (event_lines (past ++ happens line e ∷ [])))) closes
    ∙ map-remove_last (opened_at acquisition_of (event_lines (past ++ happens line e ∷ []))) (has_key (key_of (events past) task lock)) (opened_in (events past))
    ∙ ap (remove_last (has_key (key_of (events past) task lock))) (kept past e line)

lines-other : (past : List Position) (e : PlainEvent) (line : ℕ) → lock_acquired e ≡ None → lock_released e ≡ None → held_lines (past ++ happens line e ∷ []) ≡ held_lines past
lines-other past e line not_acquired not_released =
    ap (λ es. map (opened_at acquisition_of (event_lines (past ++ happens line e ∷ []))) (opened_in es)) (events-more past e line)
    ∙ ap (λ xs. map (opened_at acquisition_of (event_lines (past ++ happens line e ∷ []))) (openings same_key acquires releases xs)) (placed-push (events past) e)
    ∙ ap (map (opened_at acquisition_of (event_lines (past ++ happens line e ∷ []))))
    (openings-neither same_key acquires releases lock_keys (placed (events past)) (last_of (events past) e) (ap (key_with (last_of (events past) e)) not_acquired) (ap (key_with (last_of (events past) e)) not_released))
    ∙ kept past e line

-- the same of one task

abbrev is_of : List ℕ → Seen Acquisition → Bool
is_of task one = bytes_eq task one.what.key.task

pub by-acquires : (past : List Position) (e : PlainEvent) (line : ℕ) (lock : PlainLock) → lock_acquired e ≡ Some lock → held_lines_by (past ++ happens line e ∷ []) (task_of e) ≡ held_lines_by past (task_of e) ++ seen_of (events past) e lock line ∷ []
by-acquires past e line lock is =
    let own : bytes_eq (task_of e) (task_of e) ≡ true = (bytes_eq-Decides (task_of e) (task_of e)).1 refl in
    ap (filter (is_of (task_of e))) (lines-acquires past e line lock is)
    ∙ filter-append (is_of (task_of e)) (held_lines past) (seen_of (events past) e lock line ∷ [])
    ∙ ap (λ (b : Bool). held_lines_by past (task_of e) ++ (if b then seen_of (events past) e lock line ∷ [] else [])) own

-- an acquisition that has a key is of its task
same_task : (key : Key) (one : Seen Acquisition) → has_key key one ≡ true → key.task ≡ one.what.key.task
same_task key one is = ap (λ k. k.task) ((Decides-same_key key one.what.key).0 is)

pub by-releases : (past : List Position) (task : List ℕ) (lock : PlainLock) (line : ℕ) → held_lines_by (past ++ happens line (Release task lock) ∷ []) task ≡ remove_last (has_key (key_of (events past) task lock)) (held_lines_by past task)
by-releases past task lock line =
    ap (filter (is_of task)) (lines-releases past task lock line)
    ∙ filter-remove_last (has_key (key_of (events past) task lock)) (is_of task)
    (λ one is. (bytes_eq-Decides task one.what.key.task).1 (same_task (key_of (events past) task lock) one is)) (held_lines past)

pub by-other : (past : List Position) (task : List ℕ) (e : PlainEvent) (line : ℕ) → lock_acquired e ≡ None → lock_released e ≡ None → held_lines_by (past ++ happens line e ∷ []) task ≡ held_lines_by past task
by-other past task e line not_acquired not_released = ap (filter (is_of task)) (lines-other past e line not_acquired not_released)

-- an acquisition of another task changes nothing, nor does its release
taken_apart : (past : List Position) (task : List ℕ) (e : PlainEvent) (line : ℕ) (lock : PlainLock) → lock_acquired e ≡ Some lock → bytes_eq task (task_of e) ≡ false → held_lines_by (past ++ happens line e ∷ []) task ≡ held_lines_by past task
taken_apart past task e line lock is other =
    ap (filter (is_of task)) (lines-acquires past e line lock is)
    ∙ filter-append (is_of task) (held_lines past) (seen_of (events past) e lock line ∷ [])
    ∙ ap (λ (b : Bool). held_lines_by past task ++ (if b then seen_of (events past) e lock line ∷ [] else [])) other
    ∙ append-nil (held_lines_by past task)

let_apart : (past : List Position) (task by : List ℕ) (lock : PlainLock) (line : ℕ) → bytes_eq task by ≡ false → held_lines_by (past ++ happens line (Release by lock) ∷ []) task ≡ held_lines_by past task
let_apart past task by lock line other =
    ap (filter (is_of task)) (lines-releases past by lock line)
    ∙ filter-remove_other (has_key (key_of (events past) by lock)) (is_of task)
    (λ one is. ap (bytes_eq task) (sym (same_task (key_of (events past) by lock) one is)) ∙ other) (held_lines past)

pub by-another : (past : List Position) (task : List ℕ) (e : PlainEvent) (line : ℕ) → bytes_eq task (task_of e) ≡ false → held_lines_by (past ++ happens line e ∷ []) task ≡ held_lines_by past task
by-another past task (Acquire t l) line other = taken_apart past task (Acquire t l) line l refl other
by-another past task (Try t l) line other = taken_apart past task (Try t l) line l refl other
by-another past task (Nested t l n) line other = taken_apart past task (Nested t l n) line l refl other
by-another past task (Release t l) line other = let_apart past task t l line other
by-another past task (Enter t s) line other = by-other past task (Enter t s) line refl refl
by-another past task (Exit t s) line other = by-other past task (Exit t s) line refl refl
by-another past task (Enable t s) line other = by-other past task (Enable t s) line refl refl
by-another past task (Disable t s) line other = by-other past task (Disable t s) line refl refl
by-another past task (Begin t h s) line other = by-other past task (Begin t h s) line refl refl
