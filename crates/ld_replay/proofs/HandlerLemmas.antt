-- The frames of a task with their lines, after one more event.
use Rattle.std.proofs.Common.{◌≡◌, ◌-◌, ◌≤◌, ◌++◌, ◌∷◌, [], List, ℕ, Bool, true, false, length, map, take, Some, None, get_or, refl, ap, sym, ◌∙◌, arith, if◌then◌else◌, length-append}
use Rattle.std.proofs.lemmas.List.{append-nil, map-append, get_or_push, length-map, take-map, take_at}
use Rattle.std.specs.List.{last_or, list_all}
use Rattle.std.specs.Str.{bytes_eq}
use Rattle.std.proofs.lemmas.Slice.Eq.{bytes_eq-Decides}
use Rattle.ld_trace.specs.declared.event.State.{State}
use Rattle.ld_trace.specs.Events.{PlainEvent, Position}
use Rattle.ld_trace.specs.Events.PlainEvent.{Acquire, Try, Nested, Release, Enter, Exit, Enable, Disable, Begin}
use Rattle.ld_rules.specs.Open.{openings}
use Rattle.ld_rules.specs.Frames.{enters, exits, frames, state_entered, task_of}
use Rattle.ld_rules.specs.Outcome.{events}
use Rattle.ld_rules.proofs.PlaceLemmas.{by_pushes, last_or-push}
use Rattle.ld_rules.proofs.FrameLemmas.{frames-enter, frames-exit, frames-exit_none, frames-exit_other, frames-other}
use Rattle.ld_rules.proofs.UsageLemmas.{list_all-part}
use Rattle.ld_replay.specs.declared.hold.Handler.{Handler}
use Rattle.ld_replay.specs.HeldAt.{event_lines}
use Rattle.ld_replay.specs.Inner.Task.{InnerHandler, handler_of}
use Rattle.ld_replay.proofs.OpenedLemmas.{events-more, lines-even, lines-kept, lines-more, open-below, is_below}
use Rattle.ld_replay.proofs.HeldLemmas.{happens}

-- the last of some handlers
pub last-place : (d : Handler) (hs : List Handler) → 1 ≤ length hs → Some (get_or hs (length hs - 1) d).place ≡ last_or None (map (λ h. h.place) hs)
last-place d = by_pushes (λ hs. 1 ≤ length hs → Some (get_or hs (length hs - 1) d).place ≡ last_or None (map (λ h. h.place) hs)) (λ some. absurd (omega arith)) step
  where
    step : (hs : List Handler) (h : Handler) → (1 ≤ length hs → Some (get_or hs (length hs - 1) d).place ≡ last_or None (map (λ x. x.place) hs)) →
        1 ≤ length (hs ++ h ∷ []) → Some (get_or (hs ++ h ∷ []) (length (hs ++ h ∷ []) - 1) d).place ≡ last_or None (map (λ x. x.place) (hs ++ h ∷ []))
    step hs h rest some =
        ap (λ (x : Handler). Some x.place) (get_or_push hs h d (length (hs ++ h ∷ []) - 1) (omega (arith, length-append hs (h ∷ []))))
        ∙ sym (ap (last_or None) (map-append (λ x. x.place) hs (h ∷ [])) ∙ last_or-push None (map (λ x. x.place) hs) h.place)

-- the frames of a task after some positions, each with its line
abbrev pub lined : List Position → List ℕ → List InnerHandler
lined past task = map (handler_of (event_lines past)) (frames (events past) task)

-- what was open has the same lines
kept : (past : List Position) (task : List ℕ) (event : PlainEvent) (line : ℕ) → map (handler_of (event_lines (past ++ happens line event ∷ []))) (frames (events past) task) ≡ lined past task
kept past task event line =
    let below : list_all (is_below (length (event_lines past))) (frames (events past) task) ≡ true =
    list_all-part (is_below (length (event_lines past))) (λ o. bytes_eq task o.key) (openings bytes_eq enters exits (events past))
    (ap (λ n. list_all (is_below n) (openings bytes_eq enters exits (events past))) (lines-even past) ∙ open-below bytes_eq enters exits (events past)) in
    ap (λ ls. map (handler_of ls) (frames (events past) task)) (lines-more past event line)
    ∙ lines-kept (λ o l. record { place = o.place; seen = record { what = state_entered o.element; line = l } }) (event_lines past) line (frames (events past) task) below

-- where the frames stay, so does each with its line
pub lined-same : (past : List Position) (task : List ℕ) (e : PlainEvent) (line : ℕ) → frames (events past ++ e ∷ []) task ≡ frames (events past) task → lined (past ++ happens line e ∷ []) task ≡ lined past task
lined-same past task e line same =
    ap (λ es. map (handler_of (event_lines (past ++ happens line e ∷ []))) (frames es task)) (events-more past e line)
    ∙ ap (map (handler_of (event_lines (past ++ happens line e ∷ [])))) same
    ∙ kept past task e line

pub lined-enter : (past : List Position) (task : List ℕ) (state : State) (line : ℕ) → lined (past ++ happens line (Enter task state) ∷ []) task ≡ lined past task ++ record {
  place = length (events past);
  seen = record { what = Some state; line = line };
} ∷ []
lined-enter past task state line =
    let e : PlainEvent = Enter task state in
    let own : bytes_eq task task ≡ true = (bytes_eq-Decides task task).1 refl in
    let opens : frames (events past ++ e ∷ []) task ≡ frames (events past) task ++ record { place = length (events past); element = e; key = task } ∷ [] =
    frames-enter (events past) task task state ∙ ap (λ (b : Bool). frames (events past) task ++ (if b then record { place = length (events past); element = e; key = task } ∷ [] else [])) own in
    let at : get_or (event_lines (past ++ happens line e ∷ [])) (length (events past)) 0 ≡ line =
    ap (λ ls. get_or ls (length (events past)) 0) (lines-more past e line) ∙ get_or_push (event_lines past) line 0 (length (events past)) (lines-even past) in
    ap (λ es. map (handler_of (event_lines (past ++ happens line e ∷ []))) (frames es task)) (events-more past e line)
    ∙ ap (map (handler_of (event_lines (past ++ happens line e ∷ [])))) opens
    ∙ map-append (handler_of (event_lines (past ++ happens line e ∷ []))) (frames (events past) task) (record { place = length (events past); element = e; key = task } ∷ [])
    ∙ (λ i. kept past task e line i ++ record { place = length (events past); seen = record { what = Some state; line = at i } } ∷ [])

-- an exit closes the last frame, if there is one
frames-less : (past : List PlainEvent) (task : List ℕ) (state : State) → frames (past ++ Exit task state ∷ []) task ≡ take (length (frames past task) - 1) (frames past task)
frames-less past task state = by_pushes (λ fs. frames past task ≡ fs → frames (past ++ Exit task state ∷ []) task ≡ take (length fs - 1) fs)
    (λ is. frames-exit_none past task state is)
    (λ fs f rest is. frames-exit past task state fs f is ∙ sym (take_at fs (f ∷ []) (length (fs ++ f ∷ []) - 1) (omega (arith, length-append fs (f ∷ [])))))
    (frames past task) refl

pub lined-exit : (past : List Position) (task : List ℕ) (state : State) (line : ℕ) → lined (past ++ happens line (Exit task state) ∷ []) task ≡ take (length (lined past task) - 1) (lined past task)
lined-exit past task state line =
    let e : PlainEvent = Exit task state in
    let long : length (lined past task) ≡ length (frames (events past) task) = length-map (frames (events past) task) _ in
    ap (λ es. map (handler_of (event_lines (past ++ happens line e ∷ []))) (frames es task)) (events-more past e line)
    ∙ ap (map (handler_of (event_lines (past ++ happens line e ∷ [])))) (frames-less (events past) task state)
    ∙ sym (take-map (handler_of (event_lines (past ++ happens line e ∷ []))) (length (frames (events past) task) - 1) (frames (events past) task))
    ∙ (λ i. take (sym long i - 1) (kept past task e line i))

-- an event of another task leaves the frames
frames-another : (past : List PlainEvent) (task : List ℕ) (e : PlainEvent) → bytes_eq task (task_of e) ≡ false → frames (past ++ e ∷ []) task ≡ frames past task
frames-another past task (Acquire t l) other = frames-other past task (Acquire t l) refl refl
frames-another past task (Try t l) other = frames-other past task (Try t l) refl refl
frames-another past task (Nested t l n) other = frames-other past task (Nested t l n) refl refl
frames-another past task (Release t l) other = frames-other past task (Release t l) refl refl
frames-another past task (Enter t s) other = frames-enter past task t s ∙ ap (λ (b : Bool). frames past task ++ (if b then record { place = length past; element = Enter t s; key = t } ∷ [] else [])) other ∙ append-nil (frames past task)
frames-another past task (Exit t s) other = frames-exit_other past task t s other
frames-another past task (Enable t s) other = frames-other past task (Enable t s) refl refl
frames-another past task (Disable t s) other = frames-other past task (Disable t s) refl refl
frames-another past task (Begin t h s) other = frames-other past task (Begin t h s) refl refl

pub lined-another : (past : List Position) (task : List ℕ) (e : PlainEvent) (line : ℕ) → bytes_eq task (task_of e) ≡ false → lined (past ++ happens line e ∷ []) task ≡ lined past task
lined-another past task e line other = lined-same past task e line (frames-another (events past) task e other)
