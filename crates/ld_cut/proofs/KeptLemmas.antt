-- What the lines of a task make of it, and what an event changes of that.
use Rattle.std.proofs.Common.{◌≡◌, ◌∙◌, ◌<◌, ◌+◌, ◌++◌, ◌∷◌, ◌&&◌, [], List, ℕ, suc, Bool, true, false, cond, length, map, flat_map, fold, get_or, All, IfSome, Option, Some, None, refl, ap, sym, subst, arith, append-nil, append_assoc, length-append}
use Rattle.std.proofs.lemmas.Bool.{and_parts}
use Rattle.std.proofs.lemmas.Grind.{flat_map-append}
use Rattle.std.proofs.lemmas.List.{map-append, get_or_push}
use Rattle.std.proofs.lemmas.List.Elements.{All-append, All-cons, All-nil, All-push}
use Rattle.std.proofs.lemmas.List.Sums.{fold-append}
use Rattle.std.specs.Option.{option_map, option_to_list}
use Rattle.ld_trace.specs.declared.event.State.{State}
use Rattle.ld_trace.specs.declared.event.State.TheVariants.{Hard, Soft}
use Rattle.ld_trace.specs.Events.{PlainEvent, PlainLock}
use Rattle.ld_trace.specs.Events.PlainEvent.{Nested, Release, Enter, Exit, Begin}
use Rattle.ld_rules.specs.Held.{same_lock}
use Rattle.ld_rules.specs.Inner.Scanned.{remove_last}
use Rattle.ld_rules.proofs.PlaceLemmas.{by_pushes}
use Rattle.ld_rules.proofs.RemoveLemmas.{map-remove_last}
use Rattle.ld_cut.specs.State.{Hold, PlainFrame, PlainState, acquired, after, entered, idle, left, released}
use Rattle.ld_cut.specs.Inner.Kept.{Kept, KeptAround, KeptBegun, KeptFlag, KeptFrame, KeptHold, KeptTask, IsExited, after_kept, bare, flag_event, hard_begun, has_both_on, in_handler, is_of, is_on, is_outside, of_around, of_begun, of_enter, of_flag, of_frame, of_hold, of_task, settled, soft_begun, stands, with_begun, with_hold, with_set, without, without_flags}

kept-append : (t : PlainState) (xs ys : List Kept) → after_kept t (xs ++ ys) ≡ after_kept (after_kept t xs) ys
kept-append t xs ys =
    ap (fold after t) (map-append (λ k. k.event) xs ys) ∙ fold-append after t (map (λ k. k.event) xs) (map (λ k. k.event) ys)

abbrev held_of : KeptHold → Hold
held_of hold = record { lock = hold.lock; sub = hold.sub }

-- the frame that these lines make of another one
abbrev frame_over : PlainFrame → KeptFrame → PlainFrame
frame_over base f = record {
  handler = base.handler;
  hard = is_on f.hard (hard_begun f.begun base.hard);
  soft = is_on f.soft (soft_begun f.begun base.soft);
  held = base.held ++ map held_of f.held;
}

abbrev with_inner : PlainState → PlainFrame → PlainState
with_inner t frame = record t { inner = frame }

begun-is : (t : PlainState) (name : List ℕ) (b : Option KeptBegun) → after_kept t (option_to_list (option_map (of_begun name) b)) ≡ with_inner t (record t.inner { hard = hard_begun b t.inner.hard; soft = soft_begun b t.inner.soft })
begun-is t name None = refl
begun-is t name (Some b) = refl

hard-is : (t : PlainState) (name : List ℕ) (o : Option KeptFlag) → after_kept t (option_to_list (option_map (of_flag name Hard) o)) ≡ with_inner t (record t.inner { hard = is_on o t.inner.hard })
hard-is t name None = refl
hard-is t name (Some flag) = by flag.on
  where
    by : (on : Bool) → after t (flag_event name Hard on) ≡ with_inner t (record t.inner { hard = on })
    by true = refl
    by false = refl

soft-is : (t : PlainState) (name : List ℕ) (o : Option KeptFlag) → after_kept t (option_to_list (option_map (of_flag name Soft) o)) ≡ with_inner t (record t.inner { soft = is_on o t.inner.soft })
soft-is t name None = refl
soft-is t name (Some flag) = by flag.on
  where
    by : (on : Bool) → after t (flag_event name Soft on) ≡ with_inner t (record t.inner { soft = on })
    by true = refl
    by false = refl

held-is : (t : PlainState) (name : List ℕ) (hs : List KeptHold) → after_kept t (map (of_hold name) hs) ≡ with_inner t (record t.inner { held = t.inner.held ++ map held_of hs })
held-is t name [] = ap (λ held. with_inner t (record t.inner { held = held })) (sym (append-nil t.inner.held))
held-is t name (h ∷ hs) =
    held-is (with_inner t (acquired h.lock h.sub t.inner)) name hs
    ∙ ap (λ held. with_inner t (record t.inner { held = held })) (append_assoc t.inner.held (held_of h ∷ []) (map held_of hs))

frame-is : (t : PlainState) (name : List ℕ) (f : KeptFrame) → after_kept t (of_frame name f) ≡ with_inner t (frame_over t.inner f)
frame-is t name f =
    let begun = option_to_list (option_map (of_begun name) f.begun) in
    let hard = option_to_list (option_map (of_flag name Hard) f.hard) in
    let soft = option_to_list (option_map (of_flag name Soft) f.soft) in
    let held = map (of_hold name) f.held in
    let t1 = with_inner t (record t.inner { hard = hard_begun f.begun t.inner.hard; soft = soft_begun f.begun t.inner.soft }) in
    let t2 = with_inner t1 (record t1.inner { hard = is_on f.hard t1.inner.hard }) in
    let t3 = with_inner t2 (record t2.inner { soft = is_on f.soft t2.inner.soft }) in
    kept-append t begun (hard ++ (soft ++ held))
    ∙ ap (λ s. after_kept s (hard ++ (soft ++ held))) (begun-is t name f.begun)
    ∙ kept-append t1 hard (soft ++ held)
    ∙ ap (λ s. after_kept s (soft ++ held)) (hard-is t1 name f.hard)
    ∙ kept-append t2 soft held
    ∙ ap (λ s. after_kept s held) (soft-is t2 name f.soft)
    ∙ held-is t3 name f.held

-- what the lines around the innermost frame make of a task
abbrev start : List ℕ → List KeptAround → PlainState
start name outer = after_kept idle (flat_map (of_around name) outer)

stands-is : (task : KeptTask) → stands task ≡ with_inner (start task.name task.outer) (frame_over (start task.name task.outer).inner task.inner)
stands-is task = kept-append idle (flat_map (of_around task.name) task.outer) (of_frame task.name task.inner) ∙ frame-is (start task.name task.outer) task.name task.inner

abbrev task_of_frame : List ℕ → KeptFrame → List KeptAround → KeptTask
task_of_frame name frame outer = record { name = name; inner = frame; outer = outer }

around-is : (name : List ℕ) (outer : List KeptAround) (a : KeptAround) → start name (outer ++ a ∷ []) ≡ after (stands (task_of_frame name a.frame outer)) (Enter name a.state)
around-is name outer a =
    let lines = flat_map (of_around name) outer in
    ap (after_kept idle) (flat_map-append (of_around name) outer (a ∷ []) ∙ ap (λ o. lines ++ o) (append-nil (of_around name a)) ∙ sym (append_assoc lines (of_frame name a.frame) (of_enter name a ∷ [])))
    ∙ kept-append idle (lines ++ of_frame name a.frame) (of_enter name a ∷ [])

-- nothing is held where a frame begins
start-held : (name : List ℕ) (outer : List KeptAround) → (start name outer).inner.held ≡ []
start-held name = by_pushes (λ outer. (start name outer).inner.held ≡ []) refl step
  where
    step : (outer : List KeptAround) (a : KeptAround) → (start name outer).inner.held ≡ [] → (start name (outer ++ a ∷ [])).inner.held ≡ []
    step outer a rest = ap (λ (t : PlainState). t.inner.held) (around-is name outer a) ∙ by a.state
      where
        by : (state : State) → (entered state (stands (task_of_frame name a.frame outer)).inner).held ≡ []
        by Hard = refl
        by Soft = refl

-- what stands in a frame changes the task by that frame alone
abbrev over : KeptTask → KeptFrame → PlainState
over task frame = with_inner (start task.name task.outer) (frame_over (start task.name task.outer).inner frame)

pub hold-after : (task : KeptTask) (hold : KeptHold) (by : List ℕ) → stands (record task { inner = with_hold hold task.inner }) ≡ after (stands task) (Nested by hold.lock hold.sub)
hold-after task hold by =
    let s = start task.name task.outer in
    let more : s.inner.held ++ map held_of (task.inner.held ++ hold ∷ []) ≡ (s.inner.held ++ map held_of task.inner.held) ++ held_of hold ∷ [] =
    ap (λ o. s.inner.held ++ o) (map-append held_of task.inner.held (hold ∷ [])) ∙ sym (append_assoc s.inner.held (map held_of task.inner.held) (held_of hold ∷ [])) in
    stands-is (record task { inner = with_hold hold task.inner })
    ∙ ap (λ held. with_inner s (record (frame_over s.inner task.inner) { held = held })) more
    ∙ ap (λ t. after t (Nested by hold.lock hold.sub)) (sym (stands-is task))

pub without-after : (task : KeptTask) (lock : PlainLock) (by : List ℕ) → stands (record task { inner = without lock task.inner }) ≡ after (stands task) (Release by lock)
without-after task lock by =
    let s = start task.name task.outer in
    let none = start-held task.name task.outer in
    let p : Hold → Bool = λ one. same_lock lock one.lock in
    let less : s.inner.held ++ map held_of (remove_last (is_of lock) task.inner.held) ≡ remove_last p (s.inner.held ++ map held_of task.inner.held) =
    ap (λ o. o ++ map held_of (remove_last (is_of lock) task.inner.held)) none
    ∙ map-remove_last held_of p task.inner.held
    ∙ ap (λ o. remove_last p (o ++ map held_of task.inner.held)) (sym none) in
    stands-is (record task { inner = without lock task.inner })
    ∙ ap (λ held. with_inner s (record (frame_over s.inner task.inner) { held = held })) less
    ∙ ap (λ t. after t (Release by lock)) (sym (stands-is task))

pub set-after : (task : KeptTask) (state : State) (flag : KeptFlag) (by : List ℕ) → stands (record task { inner = with_set state flag task.inner }) ≡ after (stands task) (flag_event by state flag.on)
set-after task state flag by =
    stands-is (record task { inner = with_set state flag task.inner }) ∙ cases state flag.on refl ∙ ap (λ t. after t (flag_event by state flag.on)) (sym (stands-is task))
  where
    cases : (state : State) (on : Bool) → flag.on ≡ on → over task (with_set state flag task.inner) ≡ after (over task task.inner) (flag_event by state on)
    cases Hard true is = ap (λ o. with_inner (start task.name task.outer) (record (frame_over (start task.name task.outer).inner task.inner) { hard = o })) is
    cases Hard false is = ap (λ o. with_inner (start task.name task.outer) (record (frame_over (start task.name task.outer).inner task.inner) { hard = o })) is
    cases Soft true is = ap (λ o. with_inner (start task.name task.outer) (record (frame_over (start task.name task.outer).inner task.inner) { soft = o })) is
    cases Soft false is = ap (λ o. with_inner (start task.name task.outer) (record (frame_over (start task.name task.outer).inner task.inner) { soft = o })) is

pub begin-after : (task : KeptTask) (begun : KeptBegun) (by : List ℕ) → stands (record task { inner = with_begun begun task.inner }) ≡ after (stands task) (Begin by begun.hard begun.soft)
begin-after task begun by = stands-is (record task { inner = with_begun begun task.inner }) ∙ ap (λ t. after t (Begin by begun.hard begun.soft)) (sym (stands-is task))

-- flags that are both on outside handlers are as they were
pub settled-same : (task : KeptTask) → stands (settled task) ≡ stands task
settled-same task = by task.outer task.inner
  where
    same : (f : KeptFrame) → has_both_on f ≡ true → with_inner idle (frame_over idle.inner (without_flags f)) ≡ with_inner idle (frame_over idle.inner f)
    same f on =
        let both = and_parts (is_on f.hard (hard_begun f.begun true)) (is_on f.soft (soft_begun f.begun true)) on in
        λ i. with_inner idle (record { handler = None; hard = sym both.0 i; soft = sym both.1 i; held = map held_of f.held })

    by : (outer : List KeptAround) (f : KeptFrame) → stands (settled (task_of_frame task.name f outer)) ≡ stands (task_of_frame task.name f outer)
    by [] f = either (has_both_on f) refl
      where
        either : (b : Bool) → has_both_on f ≡ b → stands (cond b (task_of_frame task.name (without_flags f) []) (task_of_frame task.name f [])) ≡ stands (task_of_frame task.name f [])
        either true on = stands-is (task_of_frame task.name (without_flags f) []) ∙ same f on ∙ sym (stands-is (task_of_frame task.name f []))
        either false off = refl
    by (a ∷ outer) f = refl

pub settled-name : (task : KeptTask) → (settled task).name ≡ task.name
settled-name task = by (is_outside task.outer && has_both_on task.inner)
  where
    by : (b : Bool) → (cond b (record task { inner = without_flags task.inner }) task).name ≡ task.name
    by true = refl
    by false = refl

-- a bare frame is the one that it stands over
bare-over : (t : PlainState) → with_inner t (frame_over t.inner bare) ≡ t
bare-over t = ap (λ held. with_inner t (record t.inner { held = held })) (append-nil t.inner.held)

pub enter-after : (task : KeptTask) (line : List ℕ) (state : State) → stands (in_handler task line state) ≡ after (stands task) (Enter task.name state)
enter-after task line state =
    let around : KeptAround = record { frame = task.inner; line = line; state = state } in
    stands-is (in_handler task line state)
    ∙ bare-over (start task.name (task.outer ++ around ∷ []))
    ∙ around-is task.name task.outer around

-- the end of the innermost handler
pub exit-after : (task after_exit : KeptTask) (by : List ℕ) (state : State) → IsExited task after_exit → stands after_exit ≡ after (stands task) (Exit by state)
exit-after task out by state is = by_pushes (λ outer. task.outer ≡ outer → stands out ≡ after (stands task) (Exit by state)) none some task.outer refl
  where
    none : task.outer ≡ [] → stands out ≡ after (stands task) (Exit by state)
    none at =
        let same : task ≡ task_of_frame task.name task.inner [] = ap (λ o. task_of_frame task.name task.inner o) at in
        let is_out : stands task ≡ with_inner idle (frame_over idle.inner task.inner) = ap stands same ∙ stands-is (task_of_frame task.name task.inner []) in
        ap stands (is.outside at) ∙ is_out ∙ sym (ap (λ t. after t (Exit by state)) is_out)

    some : (others : List KeptAround) (a : KeptAround) → (task.outer ≡ others → stands out ≡ after (stands task) (Exit by state)) → task.outer ≡ others ++ a ∷ [] → stands out ≡ after (stands task) (Exit by state)
    some others a rest at =
        let x = task_of_frame task.name a.frame others in
        let same : task ≡ task_of_frame task.name task.inner (others ++ a ∷ []) = ap (λ o. task_of_frame task.name task.inner o) at in
        let opened = around-is task.name others a in
        let is_in : stands task ≡ with_inner (start task.name (others ++ a ∷ [])) (frame_over (start task.name (others ++ a ∷ [])).inner task.inner) =
        ap stands same ∙ stands-is (task_of_frame task.name task.inner (others ++ a ∷ [])) in
        ap stands (is.inside others a at)
        ∙ sym (ap (λ t. after t (Exit by state)) (is_in ∙ ap (λ t. with_inner t (frame_over t.inner task.inner)) opened))
