-- A task that is replayed, after one more position.
use Rattle.std.proofs.Common.{◌≡◌, ◌-◌, ◌++◌, ◌∷◌, [], List, ℕ, Bool, true, false, length, map, filter, take, Option, Some, None, Ok, Err, refl, ap, sym, subst, ◌∙◌, if◌then◌else◌}
use Rattle.std.proofs.lemmas.List.{append-nil}
use Rattle.std.proofs.lemmas.Simd.{map-map}
use Rattle.std.proofs.lemmas.List.Elements.{filter_map-append}
use Rattle.std.specs.List.{cons_option, last_or}
use Rattle.std.specs.Str.{bytes_eq}
use Rattle.std.proofs.lemmas.Slice.Eq.{bytes_eq-Decides}
use Rattle.std.specs.Option.{option_map}
use Rattle.ld_trace.specs.Events.{PlainEvent, PlainLock, Position, Said, position_of}
use Rattle.ld_trace.specs.Events.PlainEvent.{Acquire, Try, Nested, Release, Enter, Exit, Enable, Disable, Begin}
use Rattle.ld_rules.specs.Open.{openings}
use Rattle.ld_rules.specs.Frames.{enters, exits, frame_of, frames, task_of}
use Rattle.ld_rules.specs.Held.{Acquisition, acquires, acquisition_of, class_with, lock_acquired, lock_released, placed, releases, same_key}
use Rattle.ld_rules.specs.Outcome.{event_said, events}
use Rattle.ld_rules.specs.Dependency.{Seen}
use Rattle.ld_rules.specs.Inner.Scanned.{remove_last}
use Rattle.ld_rules.proofs.FrameLemmas.{frames-other}
use Rattle.ld_replay.specs.HeldAt.{event_lines, opened_at}
use Rattle.ld_replay.specs.Inner.Task.{InnerHandler, IsAfter, PlainTask, changed, frame_now, handler_of, has_key, stepped}
use Rattle.ld_replay.proofs.HeldLemmas.{by-acquires, by-another, by-other, by-releases, happens}
use Rattle.ld_replay.specs.Inner.Replay.{event_of}
use Rattle.ld_replay.proofs.HandlerLemmas.{lined-another, lined-enter, lined-exit, lined-same}

-- the task is in the frame of *Frames*
pub frame-is : (past : List Position) (task : PlainTask) → IsAfter past task → frame_now task ≡ frame_of (events past) task.name
frame-is past task is =
    ap (λ hs. last_or None (map (λ h. h.place) hs)) is.handlers
    ∙ ap (last_or None) (map-map (λ h. h.place) (handler_of (event_lines past)) (frames (events past) task.name))

-- an acquisition in this frame
abbrev seen_in : List ℕ → Option ℕ → PlainLock → ℕ → ℕ → Seen Acquisition
seen_in task frame lock sub line = record {
  what = record { key = record { task = task; frame = frame; lock = lock }; class = class_with lock sub };
  line = line;
}

-- after an event that opens and closes nothing
quiet : (past : List Position) (line : ℕ) (e : PlainEvent) (task : PlainTask) → enters e ≡ None → exits e ≡ None → lock_acquired e ≡ None → lock_released e ≡ None →
    IsAfter past task → IsAfter (past ++ happens line e ∷ []) task
quiet past line e task no_enter no_exit not_acquired not_released is = record {
  handlers = is.handlers ∙ sym (lined-same past task.name e line (frames-other (events past) task.name e no_enter no_exit));
  holds = is.holds ∙ sym (by-other past task.name e line not_acquired not_released);
}

-- a task of this name with these open
abbrev with : List ℕ → List InnerHandler → List (Seen Acquisition) → PlainTask
with name handlers holds = record { name = name; handlers = handlers; holds = holds }

-- after an event of the task itself
own : (past : List Position) (line : ℕ) (e : PlainEvent) (hs : List InnerHandler) (os : List (Seen Acquisition)) → IsAfter past (with (task_of e) hs os) →
    IsAfter (past ++ happens line e ∷ []) (changed (with (task_of e) hs os) e (length (events past)) line)
own past line (Acquire t l) hs os is =
    let frame = frame-is past (with t hs os) is in
    record {
      handlers = is.handlers ∙ sym (lined-same past t (Acquire t l) line (frames-other (events past) t (Acquire t l) refl refl));
      holds = (λ i. is.holds i ++ seen_in t (frame i) l 0 line ∷ []) ∙ sym (by-acquires past (Acquire t l) line l refl);
    }
own past line (Try t l) hs os is =
    let frame = frame-is past (with t hs os) is in
    record {
      handlers = is.handlers ∙ sym (lined-same past t (Try t l) line (frames-other (events past) t (Try t l) refl refl));
      holds = (λ i. is.holds i ++ seen_in t (frame i) l 0 line ∷ []) ∙ sym (by-acquires past (Try t l) line l refl);
    }
own past line (Nested t l n) hs os is =
    let frame = frame-is past (with t hs os) is in
    record {
      handlers = is.handlers ∙ sym (lined-same past t (Nested t l n) line (frames-other (events past) t (Nested t l n) refl refl));
      holds = (λ i. is.holds i ++ seen_in t (frame i) l n line ∷ []) ∙ sym (by-acquires past (Nested t l n) line l refl);
    }
own past line (Release t l) hs os is =
    let frame = frame-is past (with t hs os) is in
    record {
      handlers = is.handlers ∙ sym (lined-same past t (Release t l) line (frames-other (events past) t (Release t l) refl refl));
      holds = (λ i. remove_last (has_key (record { task = t; frame = frame i; lock = l })) (is.holds i)) ∙ sym (by-releases past t l line);
    }
own past line (Enter t s) hs os is = record {
  handlers = (λ i. is.handlers i ++ record { place = length (events past); seen = record { what = Some s; line = line } } ∷ []) ∙ sym (lined-enter past t s line);
  holds = is.holds ∙ sym (by-other past t (Enter t s) line refl refl);
}
own past line (Exit t s) hs os is = record {
  handlers = (λ i. take (length (is.handlers i) - 1) (is.handlers i)) ∙ sym (lined-exit past t s line);
  holds = is.holds ∙ sym (by-other past t (Exit t s) line refl refl);
}
own past line (Enable t s) hs os is = quiet past line (Enable t s) (with t hs os) refl refl refl refl is
own past line (Disable t s) hs os is = quiet past line (Disable t s) (with t hs os) refl refl refl refl is
own past line (Begin t h s) hs os is = quiet past line (Begin t h s) (with t hs os) refl refl refl refl is

-- after an event of any task
pub after-event : (past : List Position) (line : ℕ) (task : PlainTask) → IsAfter past task → (e : PlainEvent) → IsAfter (past ++ happens line e ∷ []) (stepped task e (length (events past)) line)
after-event past line task is e = by (bytes_eq task.name (task_of e)) refl
  where
    by : (b : Bool) → bytes_eq task.name (task_of e) ≡ b → IsAfter (past ++ happens line e ∷ []) (if b then changed task e (length (events past)) line else task)
    by true same =
        let name : task.name ≡ task_of e = (bytes_eq-Decides task.name (task_of e)).0 same in
        subst (λ n. IsAfter past (with n task.handlers task.holds) → IsAfter (past ++ happens line e ∷ []) (changed (with n task.handlers task.holds) e (length (events past)) line))
        (sym name) (own past line e task.handlers task.holds) is
    by false other = record {
      handlers = is.handlers ∙ sym (lined-another past task.name e line other);
      holds = is.holds ∙ sym (by-another past task.name e line other);
    }

-- a line that says no event changes nothing
pub after-none : (past : List Position) (line : ℕ) (task : PlainTask) → IsAfter past task → (said : Said) → event_of said ≡ None → IsAfter (past ++ cons_option (position_of line said) []) task
after-none past line task is (Ok None) none = subst (λ ps. IsAfter ps task) (sym (append-nil past)) is
after-none past line task is (Ok (Some e)) none = let no : Some e ≡ None = none in cc
after-none past line task is (Err fault) none =
    let p : Position = record { line = line; says = Err fault } in
    let same : events (past ++ p ∷ []) ≡ events past = filter_map-append (λ q. event_said q.says) past (p ∷ []) ∙ append-nil (events past) in
    let lines : event_lines (past ++ p ∷ []) ≡ event_lines past = filter_map-append (λ q. option_map (λ e. q.line) (event_said q.says)) past (p ∷ []) ∙ append-nil (event_lines past) in
    record {
      handlers = is.handlers ∙ (λ i. map (handler_of (sym lines i)) (frames (sym same i) task.name));
      holds = is.holds ∙ (λ i. filter (λ one. bytes_eq task.name one.what.key.task) (map (opened_at acquisition_of (sym lines i)) (openings same_key acquires releases (placed (sym same i)))));
    }

-- a task keeps its name
pub stepped-name : (task : PlainTask) (e : PlainEvent) (place line : ℕ) → (stepped task e place line).name ≡ task.name
stepped-name task e place line = by (bytes_eq task.name (task_of e)) e
  where
    by : (b : Bool) (e : PlainEvent) → (if b then changed task e place line else task).name ≡ task.name
    by false e = refl
    by true (Acquire t l) = refl
    by true (Try t l) = refl
    by true (Nested t l n) = refl
    by true (Release t l) = refl
    by true (Enter t s) = refl
    by true (Exit t s) = refl
    by true (Enable t s) = refl
    by true (Disable t s) = refl
    by true (Begin t h s) = refl
