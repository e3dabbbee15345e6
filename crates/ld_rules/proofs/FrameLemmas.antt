-- The frames of a task after one more event.
use Rattle.std.proofs.Common.{◌≡◌, ◌<◌, ◌++◌, ◌∷◌, [], List, ℕ, Bool, true, false, length, map, filter, filter_map, Some, None, get_or, refl, ap, sym, ◌∙◌, arith, if◌then◌else◌, length-append}
use Rattle.std.proofs.lemmas.List.{get_or_push}
use Rattle.std.proofs.lemmas.List.Elements.{filter-append, filter_passes}
use Rattle.std.proofs.lemmas.Slice.Eq.{bytes_eq-Decides}
use Rattle.std.specs.List.{last_or}
use Rattle.std.specs.Str.{bytes_eq}
use Rattle.ld_trace.specs.declared.event.State.{State}
use Rattle.ld_trace.specs.Events.{PlainEvent}
use Rattle.ld_trace.specs.Events.PlainEvent.{Acquire, Try, Nested, Release, Enter, Exit, Enable, Disable, Begin}
use Rattle.ld_rules.specs.Open.{openings}
use Rattle.ld_rules.specs.Frames.{Frame, enters, exits, frames, frame_of, contexts}
use Rattle.ld_rules.specs.Inner.Scanned.{remove_last}
use Rattle.ld_rules.proofs.OpenLemmas.{HasKeys, openings-opens, openings-closes, openings-neither}
use Rattle.ld_rules.proofs.RemoveLemmas.{filter-remove_last, filter-remove_other, remove_last-push}

frames_apart : (e : PlainEvent) (task : List ℕ) → enters e ≡ Some task → exits e ≡ None
frames_apart (Enter t s) task is = refl
frames_apart (Acquire t l) task is = refl
frames_apart (Try t l) task is = refl
frames_apart (Nested t l n) task is = refl
frames_apart (Release t l) task is = refl
frames_apart (Exit t s) task is = cc
frames_apart (Enable t s) task is = refl
frames_apart (Disable t s) task is = refl
frames_apart (Begin t h s) task is = refl

pub frame_keys : HasKeys bytes_eq enters exits
frame_keys = record { decides = bytes_eq-Decides; apart = frames_apart }

-- the last element of a filtered list passes
pub last_passes : {X : Type 0} (p : X → Bool) (xs rest : List X) (x : X) → filter p xs ≡ rest ++ x ∷ [] → p x ≡ true
last_passes p xs rest x is =
    let long : length rest < length (filter p xs) = omega (arith, ap length is, length-append rest (x ∷ [])) in
    let here : get_or (filter p xs) (length rest) x ≡ x = ap (λ ys. get_or ys (length rest) x) is ∙ get_or_push rest x x (length rest) refl in
    ap p (sym here) ∙ filter_passes p xs (length rest) x long

-- a frame opens
pub frames-enter : (past : List PlainEvent) (task by : List ℕ) (state : State) → frames (past ++ Enter by state ∷ []) task ≡ frames past task ++
    (if bytes_eq task by then record { place = length past; element = Enter by state; key = by } ∷ [] else [])
frames-enter past task by state =
    ap (filter (λ o. bytes_eq task o.key)) (openings-opens bytes_eq enters exits frame_keys past (Enter by state) by refl)
    ∙ filter-append (λ o. bytes_eq task o.key) (openings bytes_eq enters exits past) (record { place = length past; element = Enter by state; key = by } ∷ [])

-- the innermost frame closes
pub frames-exit : (past : List PlainEvent) (task : List ℕ) (state : State) (outer : List Frame) (inner : Frame) → frames past task ≡ outer ++ inner ∷
    [] → frames (past ++ Exit task state ∷ []) task ≡ outer
frames-exit past task state outer inner is =
    ap (filter (λ o. bytes_eq task o.key)) (openings-closes bytes_eq enters exits frame_keys past (Exit task state) task refl)
    ∙ filter-remove_last (λ o. bytes_eq task o.key) (λ o. bytes_eq task o.key) (λ o h. h) (openings bytes_eq enters exits past)
    ∙ ap (remove_last (λ o. bytes_eq task o.key)) is
    ∙ remove_last-push (λ o. bytes_eq task o.key) outer inner (last_passes (λ o. bytes_eq task o.key) (openings bytes_eq enters exits past) outer inner is)

-- an exit closes no frame of another task, and where the task has none, it still has none
pub frames-exit_other : (past : List PlainEvent) (task by : List ℕ) (state : State) → bytes_eq task by ≡ false → frames (past ++ Exit by state ∷ []) task ≡ frames past task
frames-exit_other past task by state other =
    ap (filter (λ o. bytes_eq task o.key)) (openings-closes bytes_eq enters exits frame_keys past (Exit by state) by refl)
    ∙ filter-remove_other (λ o. bytes_eq by o.key) (λ o. bytes_eq task o.key) without (openings bytes_eq enters exits past)
  where
    without : (o : Frame) → bytes_eq by o.key ≡ true → bytes_eq task o.key ≡ false
    without o h = ap (bytes_eq task) (sym ((bytes_eq-Decides by o.key).0 h)) ∙ other

pub frames-exit_none : (past : List PlainEvent) (task : List ℕ) (state : State) → frames past task ≡ [] → frames (past ++ Exit task state ∷ []) task ≡ []
frames-exit_none past task state is =
    ap (filter (λ o. bytes_eq task o.key)) (openings-closes bytes_eq enters exits frame_keys past (Exit task state) task refl)
    ∙ filter-remove_last (λ o. bytes_eq task o.key) (λ o. bytes_eq task o.key) (λ o h. h) (openings bytes_eq enters exits past)
    ∙ ap (remove_last (λ o. bytes_eq task o.key)) is

-- no other event changes the frames
pub frames-other : (past : List PlainEvent) (task : List ℕ) (e : PlainEvent) → enters e ≡ None → exits e ≡ None → frames (past ++ e ∷ []) task ≡ frames past task
frames-other past task e no_enter no_exit = ap (filter (λ o. bytes_eq task o.key)) (openings-neither bytes_eq enters exits frame_keys past e no_enter no_exit)

pub frame_of-other : (past : List PlainEvent) (task : List ℕ) (e : PlainEvent) → enters e ≡ None → exits e ≡ None → frame_of (past ++ e ∷ []) task ≡ frame_of past task
frame_of-other past task e no_enter no_exit = ap (λ fs. last_or None (map (λ o. o.place) fs)) (frames-other past task e no_enter no_exit)

pub contexts-other : (past : List PlainEvent) (task : List ℕ) (e : PlainEvent) → enters e ≡ None → exits e ≡ None → contexts (past ++ e ∷ []) task ≡ contexts past task
contexts-other past task e no_enter no_exit = ap (filter_map (λ o. Rattle.ld_rules.specs.Frames.state_entered o.element)) (frames-other past task e no_enter no_exit)
