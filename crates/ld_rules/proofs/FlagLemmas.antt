-- The flags of a task, frame by frame, after one more event.
use Rattle.std.proofs.Common.{◌≡◌, ◌<◌, ◌≤◌, ◌++◌, ◌∷◌, [], List, ℕ, Bool, true, false, ◌&&◌, not, length, map, filter_map, take, drop, reverse}
use Rattle.std.proofs.Common.{get_or, Option, Some, None, refl, ap, sym, subst, ◌∙◌, arith, if◌then◌else◌, length-append}
use Rattle.std.proofs.lemmas.Bool.{true≢false, ne_eqb, eq-eqb, and_parts, and_from}
use Rattle.std.proofs.lemmas.List.{append-nil, drop-map, map-append, length_push, reverse-append, reverse-reverse, take-append-le, take_at}
use Rattle.std.proofs.lemmas.List.Elements.{filter_map-append}
use Rattle.std.proofs.lemmas.Grind.{reverse_onto}
use Rattle.std.proofs.lemmas.Slice.Eq.{bytes_eq-Decides}
use Rattle.std.specs.List.{cons_option, last_or}
use Rattle.std.specs.Option.{unwrap_or}
use Rattle.std.specs.Str.{bytes_eq}
use Rattle.ld_trace.specs.declared.event.State.{State}
use Rattle.ld_trace.specs.declared.event.State.TheVariants.{Hard, Soft}
use Rattle.ld_trace.specs.Events.{PlainEvent}
use Rattle.ld_trace.specs.Events.PlainEvent.{Acquire, Try, Nested, Release, Enter, Exit, Enable, Disable, Begin}
use Rattle.ld_rules.specs.Open.{is_some_and}
use Rattle.ld_rules.specs.Frames.{Frame, frames, frame_of, contexts, task_of, enters, exits, state_entered}
use Rattle.ld_rules.specs.Held.{Placed, placed, same_frame}
use Rattle.ld_rules.specs.Flags.{same_state, says_flag, says_begun, flag_begun, flag_for, says_flag_in, last_said, flag_in, flag, is_enabled}
use Rattle.ld_rules.specs.Inner.Levels.{is_interrupt, levels, levels_in, stack, state_of_frame, states}
use Rattle.ld_rules.specs.declared.outcome.TheConstants.{MOST_TASKS}
use Rattle.ld_rules.specs.Outcome.{tasks, is_one_too_many, has_too_many_classes, is_too_deep, is_not_held, is_badly_nested}
use Rattle.ld_rules.specs.Outcome.{is_masked, is_bad_exit, is_held_at_exit, is_bad_enable, is_late_begin, event_fault}
use Rattle.ld_rules.proofs.PlaceLemmas.{by_pushes, last_or-push}
use Rattle.ld_rules.proofs.BegunLemmas.{flag_begun-none, flag_begun-some, says_begun-other}
use Rattle.ld_rules.proofs.FrameLemmas.{frames-enter, frames-exit, frames-exit_other, frames-exit_none, frames-other}
use Rattle.ld_rules.proofs.HeldLemmas.{placed-push}

reverse-push : {X : Type 0} (xs : List X) (x : X) → reverse (xs ++ x ∷ []) ≡ x ∷ reverse xs
reverse-push xs x = reverse-append xs (x ∷ [])

-- the stack after one more event

pub stack-enter : (past : List PlainEvent) (task by : List ℕ) (state : State) → stack (past ++ Enter by state ∷ []) task ≡
    (if bytes_eq task by then record { place = length past; element = Enter by state; key = by } ∷ stack past task else stack past task)
stack-enter past task by state = ap reverse (frames-enter past task by state) ∙ each (bytes_eq task by)
  where
    each : (b : Bool) → reverse (frames past task ++ (if b then record { place = length past; element = Enter by state; key = by } ∷ [] else [])) ≡
        (if b then record { place = length past; element = Enter by state; key = by } ∷ stack past task else stack past task)
    each true = reverse-push (frames past task) (record { place = length past; element = Enter by state; key = by })
    each false = ap reverse (append-nil (frames past task))

pub stack-enter_own : (past : List PlainEvent) (task : List ℕ) (state : State) → stack (past ++ Enter task state ∷ []) task ≡
    record { place = length past; element = Enter task state; key = task } ∷ stack past task
stack-enter_own past task state = stack-enter past task task state ∙ ap (λ (b : Bool). if b then
    record { place = length past; element = Enter task state; key = task } ∷ stack past task else stack past task) ((bytes_eq-Decides task task).1 refl)

-- the frames are the stack from its end
frames_of_stack : (past : List PlainEvent) (task : List ℕ) (fs : List Frame) → stack past task ≡ fs → frames past task ≡ reverse fs
frames_of_stack past task fs is = sym (reverse-reverse (frames past task)) ∙ ap reverse is

-- an exit closes the innermost frame, if there is one
pub stack-exit : (past : List PlainEvent) (task : List ℕ) (state : State) → stack (past ++ Exit task state ∷ []) task ≡ drop 1 (stack past task)
stack-exit past task state = each (stack past task) refl
  where
    each : (fs : List Frame) → stack past task ≡ fs → stack (past ++ Exit task state ∷ []) task ≡ drop 1 fs
    each [] is = ap reverse (frames-exit_none past task state (frames_of_stack past task [] is))
    each (inner ∷ outer) is =
        ap reverse (frames-exit past task state (reverse outer) inner (frames_of_stack past task (inner ∷ outer) is ∙ reverse_onto outer inner []))
        ∙ reverse-reverse outer

pub stack-quiet : (past : List PlainEvent) (task : List ℕ) (e : PlainEvent) → enters e ≡ None → exits e ≡ None → stack (past ++ e ∷ []) task ≡ stack past task
stack-quiet past task e no_enter no_exit = ap reverse (frames-other past task e no_enter no_exit)

-- no event of another task changes it
pub stack-other : (past : List PlainEvent) (task : List ℕ) (e : PlainEvent) → bytes_eq task (task_of e) ≡ false → stack (past ++ e ∷ []) task ≡ stack past task
stack-other past task (Acquire t l) other = stack-quiet past task (Acquire t l) refl refl
stack-other past task (Try t l) other = stack-quiet past task (Try t l) refl refl
stack-other past task (Nested t l n) other = stack-quiet past task (Nested t l n) refl refl
stack-other past task (Release t l) other = stack-quiet past task (Release t l) refl refl
stack-other past task (Enter t s) other = stack-enter past task t s ∙ ap (λ (b : Bool). if b then
    record { place = length past; element = Enter t s; key = t } ∷ stack past task else stack past task) other
stack-other past task (Exit t s) other = ap reverse (frames-exit_other past task t s other)
stack-other past task (Enable t s) other = stack-quiet past task (Enable t s) refl refl
stack-other past task (Disable t s) other = stack-quiet past task (Disable t s) refl refl
stack-other past task (Begin t h s) other = stack-quiet past task (Begin t h s) refl refl

-- the place of the first of these
abbrev pub innermost : List Frame → Option ℕ
innermost [] = None
innermost (inner ∷ outer) = Some inner.place

pub frame_of_stack : (past : List PlainEvent) (task : List ℕ) → frame_of past task ≡ innermost (stack past task)
frame_of_stack past task = by_pushes (λ fs. last_or None (map (λ o. o.place) fs) ≡ innermost (reverse fs)) refl step (frames past task)
  where
    step : (fs : List Frame) (f : Frame) → last_or None (map (λ o. o.place) fs) ≡ innermost (reverse fs) → last_or None (map (λ o. o.place) (fs ++ f ∷ [])) ≡ innermost (reverse (fs ++ f ∷ []))
    step fs f _ = ap (last_or None) (map-append (λ (o : Frame). o.place) fs (f ∷ [])) ∙ last_or-push None (map (λ o. o.place) fs) f.place ∙ sym (ap innermost (reverse-push fs f))

-- Places that fall, each below the one before it, and the first below n.
abbrev pub Falls : ℕ → List Frame → Type 0
Falls n [] = Unit {0}
Falls n (f ∷ fs) = (f.place < n) × Falls f.place fs

pub falls_below : (n m : ℕ) (fs : List Frame) → n ≤ m → Falls n fs → Falls m fs
falls_below n m [] le falls = tt
falls_below n m (f ∷ fs) le falls = (omega (arith, falls.0), falls.1)

pub falls_rest : (n : ℕ) (fs : List Frame) → Falls n fs → Falls n (drop 1 fs)
falls_rest n [] falls = tt
falls_rest n (f ∷ fs) falls = falls_below f.place n fs (omega (arith, falls.0)) falls.1

-- What holds of no frames before the first event, still holds one event later, holds with a frame that
-- opens there, and holds without the innermost frame, holds of the frames of each past.
pub stack_follows : (task : List ℕ) (P : List PlainEvent → List Frame → Type 0) → P [] [] →
    ((xs : List PlainEvent) (e : PlainEvent) (fs : List Frame) → P xs fs → P (xs ++ e ∷ []) fs) →
    ((xs : List PlainEvent) (state : State) → P xs (stack xs task) → P (xs ++ Enter task state ∷ [])
    (record { place = length xs; element = Enter task state; key = task } ∷ stack xs task)) →
    ((xs : List PlainEvent) (fs : List Frame) → P xs fs → P xs (drop 1 fs)) → (past : List PlainEvent) → P past (stack past task)
stack_follows task P none later opens closes past = by_pushes (λ xs. P xs (stack xs task)) none step past
  where
    kept : (xs : List PlainEvent) (e : PlainEvent) → stack (xs ++ e ∷ []) task ≡ stack xs task → P xs (stack xs task) → P (xs ++ e ∷ []) (stack (xs ++ e ∷ []) task)
    kept xs e is h = subst (P (xs ++ e ∷ [])) (sym is) (later xs e (stack xs task) h)

    own : (xs : List PlainEvent) (e : PlainEvent) → task ≡ task_of e → P xs (stack xs task) → P (xs ++ e ∷ []) (stack (xs ++ e ∷ []) task)
    own xs (Acquire t l) is h = kept xs (Acquire t l) (stack-quiet xs task (Acquire t l) refl refl) h
    own xs (Try t l) is h = kept xs (Try t l) (stack-quiet xs task (Try t l) refl refl) h
    own xs (Nested t l n) is h = kept xs (Nested t l n) (stack-quiet xs task (Nested t l n) refl refl) h
    own xs (Release t l) is h = kept xs (Release t l) (stack-quiet xs task (Release t l) refl refl) h
    own xs (Enter t s) is h = subst (λ u. P (xs ++ Enter u s ∷ []) (stack (xs ++ Enter u s ∷ []) task)) is (subst (P (xs ++ Enter task s ∷ [])) (sym (stack-enter_own xs task s)) (opens xs s h))
    own xs (Exit t s) is h =
        subst (λ u. P (xs ++ Exit u s ∷ []) (stack (xs ++ Exit u s ∷ []) task)) is
        (subst (P (xs ++ Exit task s ∷ [])) (sym (stack-exit xs task s)) (later xs (Exit task s) (drop 1 (stack xs task)) (closes xs (stack xs task) h)))
    own xs (Enable t s) is h = kept xs (Enable t s) (stack-quiet xs task (Enable t s) refl refl) h
    own xs (Disable t s) is h = kept xs (Disable t s) (stack-quiet xs task (Disable t s) refl refl) h
    own xs (Begin t hard soft) is h = kept xs (Begin t hard soft) (stack-quiet xs task (Begin t hard soft) refl refl) h

    step : (xs : List PlainEvent) (e : PlainEvent) → P xs (stack xs task) → P (xs ++ e ∷ []) (stack (xs ++ e ∷ []) task)
    step xs e h = by (bytes_eq task (task_of e)) refl
      where
        by : (b : Bool) → bytes_eq task (task_of e) ≡ b → P (xs ++ e ∷ []) (stack (xs ++ e ∷ []) task)
        by true is = own xs e ((bytes_eq-Decides task (task_of e)).0 is) h
        by false is = kept xs e (stack-other xs task e is) h

-- each frame was opened before those within it, and all of them in the past
pub stack_falls : (task : List ℕ) (past : List PlainEvent) → Falls (length past) (stack past task)
stack_falls task past =
    stack_follows task (λ xs fs. Falls (length xs) fs) tt
    (λ xs e fs falls. falls_below (length xs) (length (xs ++ e ∷ [])) fs (omega (arith, length_push xs e)) falls)
    (λ xs state falls. (omega (arith, length_push xs (Enter task state)), falls)) (λ xs fs falls. falls_rest (length xs) fs falls) past

-- an event behind a past, with the frame of its task there
abbrev placed_last : List PlainEvent → PlainEvent → Placed
placed_last past e = record { event = e; frame = frame_of (past ++ e ∷ []) (task_of e) }

-- what was said last, after one more event
last_said-push : (past : List PlainEvent) (e : PlainEvent) (task : List ℕ) (state : State) (frame : Option ℕ) → last_said (past ++ e ∷ []) task state
    frame ≡ last_or None (filter_map (says_flag_in task state frame) (placed past) ++ cons_option (says_flag_in task state frame (placed_last past e)) [])
last_said-push past e task state frame =
    ap (λ xs. last_or None (filter_map (says_flag_in task state frame) xs)) (placed-push past e)
    ∙ ap (last_or None) (filter_map-append (says_flag_in task state frame) (placed past) (placed_last past e ∷ []))

last_said-none : (past : List PlainEvent) (e : PlainEvent) (task : List ℕ) (state : State) (frame : Option ℕ) → says_flag_in task state frame
    (placed_last past e) ≡ None → last_said (past ++ e ∷ []) task state frame ≡ last_said past task state frame
last_said-none past e task state frame none =
    last_said-push past e task state frame
    ∙ ap (λ o. last_or None (filter_map (says_flag_in task state frame) (placed past) ++ cons_option o [])) none
    ∙ ap (last_or None) (append-nil (filter_map (says_flag_in task state frame) (placed past)))

last_said-some : (past : List PlainEvent) (e : PlainEvent) (task : List ℕ) (state : State) (frame : Option ℕ) (b : Bool) → says_flag_in task state
    frame (placed_last past e) ≡ Some b → last_said (past ++ e ∷ []) task state frame ≡ Some b
last_said-some past e task state frame b some =
    last_said-push past e task state frame
    ∙ ap (λ o. last_or None (filter_map (says_flag_in task state frame) (placed past) ++ cons_option o [])) some
    ∙ last_or-push None (filter_map (says_flag_in task state frame) (placed past)) b

-- what is said of no flag is said in no frame
says_nothing : (past : List PlainEvent) (e : PlainEvent) (task : List ℕ) (state : State) (frame : Option ℕ) → says_flag task state e ≡ None → says_flag_in task state frame (placed_last past e) ≡ None
says_nothing past e task state frame none = by (same_frame frame (frame_of (past ++ e ∷ []) (task_of e)))
  where
    by : (b : Bool) → (if b then says_flag task state e else None) ≡ None
    by true = none
    by false = refl

-- what is said in one frame is said in no other
says_elsewhere : (past : List PlainEvent) (e : PlainEvent) (task : List ℕ) (state : State) (frame : Option ℕ) → same_frame frame
    (frame_of (past ++ e ∷ []) (task_of e)) ≡ false → says_flag_in task state frame (placed_last past e) ≡ None
says_elsewhere past e task state frame other = ap (λ (b : Bool). if b then says_flag task state e else None) other

not_innermost : (n m : ℕ) (fs : List Frame) → Falls m fs → m ≤ n → same_frame (Some n) (innermost fs) ≡ false
not_innermost n m [] falls le = refl
not_innermost n m (f ∷ fs) falls le = ne_eqb n f.place (λ e. omega (arith, falls.0))

-- nothing was said yet in a frame that begins now
last_said-new : (task : List ℕ) (state : State) (n : ℕ) (past : List PlainEvent) → length past ≤ n → last_said past task state (Some n) ≡ None
last_said-new task state n past = by_pushes (λ xs. length xs ≤ n → last_said xs task state (Some n) ≡ None) (λ _. refl) step past
  where
    step : (xs : List PlainEvent) (e : PlainEvent) → (length xs ≤ n → last_said xs task state (Some n) ≡ None) → length (xs ++ e ∷ []) ≤ n → last_said (xs ++ e ∷ []) task state (Some n) ≡ None
    step xs e rest le =
        last_said-none xs e task state (Some n)
        (says_elsewhere xs e task state (Some n) (ap (same_frame (Some n)) (frame_of_stack (xs ++ e ∷ []) (task_of e)) ∙ not_innermost n
        (length (xs ++ e ∷ [])) (stack (xs ++ e ∷ []) (task_of e)) (stack_falls (task_of e) (xs ++ e ∷ [])) le))
        ∙ rest (omega (arith, le, length-append xs (e ∷ [])))

levels_in-head : (task : List ℕ) (state : State) (past : List PlainEvent) (fs : List Frame) → levels_in task state past fs ≡ flag_in task state past fs ∷ drop 1 (levels_in task state past fs)
levels_in-head task state past [] = refl
levels_in-head task state past (f ∷ fs) = refl

-- the first level is the task's flag
pub levels-head : (past : List PlainEvent) (task : List ℕ) (state : State) → levels past task state ≡ flag past task state ∷ drop 1 (levels past task state)
levels-head past task state = levels_in-head task state past (stack past task)

pub flag-levels : (past : List PlainEvent) (task : List ℕ) (state : State) → flag past task state ≡ get_or (levels past task state) 0 true
flag-levels past task state = sym (ap (λ bs. get_or bs 0 true) (levels-head past task state))

-- what an event doesn't say in these frames, or outside frames, it doesn't change there
module _ (past : List PlainEvent) (e : PlainEvent) (task : List ℕ) (state : State) (outside : last_said (past ++ e ∷ []) task state None ≡ last_said past task state None)
    (unbegun : says_begun task state e ≡ None) where
  flag_in-kept : (n : ℕ) (fs : List Frame) → ((k : ℕ) → k < n → last_said (past ++ e ∷ []) task state (Some k) ≡ last_said past task state (Some k)) →
      n ≤ length past → Falls n fs → flag_in task state (past ++ e ∷ []) fs ≡ flag_in task state past fs
  flag_in-kept n [] inside le falls = (λ i. unwrap_or (outside i) (flag_begun-none past e task state unbegun i))
  flag_in-kept n (f ∷ fs) inside le falls =
      let cut : take f.place (past ++ e ∷ []) ≡ take f.place past = take-append-le f.place past (e ∷ []) (omega (arith, falls.0)) in
      (λ i. unwrap_or (inside f.place falls.0 i) (if is_some_and (same_state state) (state_entered f.element) then false else flag_in task state (cut i) fs))

  levels_in-kept : (n : ℕ) (fs : List Frame) → ((k : ℕ) → k < n → last_said (past ++ e ∷ []) task state (Some k) ≡ last_said past task state (Some k))
      → n ≤ length past → Falls n fs → levels_in task state (past ++ e ∷ []) fs ≡ levels_in task state past fs
  levels_in-kept n [] inside le falls = ap (λ b. b ∷ []) (flag_in-kept n [] inside le falls)
  levels_in-kept n (f ∷ fs) inside le falls =
      let here = flag_in-kept n (f ∷ fs) inside le falls in
      let rest = levels_in-kept f.place fs (λ k low. inside k (omega (arith, falls.0))) (omega (arith, falls.0)) falls.1 in
      (λ i. here i ∷ rest i)

-- an event that says nothing of the flag
levels_in-quiet : (past : List PlainEvent) (e : PlainEvent) (task : List ℕ) (state : State) (fs : List Frame) → says_flag task state e ≡ None → says_begun
    task state e ≡ None → Falls (length past) fs → levels_in task state (past ++ e ∷ []) fs ≡ levels_in task state past fs
levels_in-quiet past e task state fs none unbegun falls =
    levels_in-kept past e task state (last_said-none past e task state None (says_nothing past e task state None none)) unbegun (length past) fs
    (λ k low. last_said-none past e task state (Some k) (says_nothing past e task state (Some k) none)) (omega arith) falls

-- an event that says nothing of the flag and leaves the frames leaves the levels
levels-kept : (past : List PlainEvent) (e : PlainEvent) (task : List ℕ) (state : State) → stack (past ++ e ∷ []) task ≡ stack past task → says_flag
    task state e ≡ None → says_begun task state e ≡ None → levels (past ++ e ∷ []) task state ≡ levels past task state
levels-kept past e task state same none unbegun = ap (levels_in task state (past ++ e ∷ [])) same ∙ levels_in-quiet past e task state (stack past task) none unbegun (stack_falls task past)

-- an event that says it, and leaves the frames, sets the first level
levels-said : (past : List PlainEvent) (e : PlainEvent) (state : State) (b : Bool) → stack (past ++ e ∷ []) (task_of e) ≡ stack past (task_of e) →
    says_flag (task_of e) state e ≡ Some b → says_begun (task_of e) state e ≡ None → levels (past ++ e ∷ []) (task_of e) state ≡ b ∷ drop 1 (levels past (task_of e) state)
levels-said past e state b same says unbegun = ap (levels_in (task_of e) state (past ++ e ∷ [])) same ∙ each (stack past (task_of e))
    (frame_of_stack (past ++ e ∷ []) (task_of e) ∙ ap innermost same) (stack_falls (task_of e) past)
  where
    here : (frame : Option ℕ) → same_frame frame (frame_of (past ++ e ∷ []) (task_of e)) ≡ true → last_said (past ++ e ∷ []) (task_of e) state frame ≡ Some b
    here frame is = last_said-some past e (task_of e) state frame b (ap (λ (b : Bool). if b then says_flag (task_of e) state e else None) is ∙ says)

    elsewhere : (frame : Option ℕ) → same_frame frame (frame_of (past ++ e ∷ []) (task_of e)) ≡ false → last_said (past ++ e ∷ []) (task_of e) state frame ≡ last_said past (task_of e) state frame
    elsewhere frame is = last_said-none past e (task_of e) state frame (says_elsewhere past e (task_of e) state frame is)

    each : (fs : List Frame) → frame_of (past ++ e ∷ []) (task_of e) ≡ innermost fs → Falls (length past) fs → levels_in (task_of e) state
        (past ++ e ∷ []) fs ≡ b ∷ drop 1 (levels_in (task_of e) state past fs)
    each [] frame falls = ap (λ o. unwrap_or o (flag_begun (past ++ e ∷ []) (task_of e) state) ∷ []) (here None (ap (same_frame None) frame))
    each (f ∷ fs) frame falls =
        let own = here (Some f.place) (ap (same_frame (Some f.place)) frame ∙ eq-eqb f.place f.place refl) in
        let rest = levels_in-kept past e (task_of e) state (elsewhere None (ap (same_frame None) frame)) unbegun f.place fs
        (λ k low. elsewhere (Some k) (ap (same_frame (Some k)) frame ∙ ne_eqb k f.place (λ eq. omega arith))) (omega (arith, falls.0)) falls.1 in
        (λ i. unwrap_or (own i) (if is_some_and (same_state state) (state_entered f.element) then false else flag_in (task_of e) state (take f.place (past ++ e ∷ [])) fs) ∷ rest i)

-- an event of another task says nothing of the flags
says_flag-other : (e : PlainEvent) (task : List ℕ) (state : State) → bytes_eq task (task_of e) ≡ false → says_flag task state e ≡ None
says_flag-other (Acquire t l) task state other = refl
says_flag-other (Try t l) task state other = refl
says_flag-other (Nested t l n) task state other = refl
says_flag-other (Release t l) task state other = refl
says_flag-other (Enter t s) task state other = refl
says_flag-other (Exit t s) task state other = refl
says_flag-other (Enable t s) task state other = ap (λ (b : Bool). if b && same_state state s then Some true else None) other
says_flag-other (Disable t s) task state other = ap (λ (b : Bool). if b && same_state state s then Some false else None) other
says_flag-other (Begin t hard soft) task state other = refl

pub last_said-other : (past : List PlainEvent) (e : PlainEvent) (task : List ℕ) (state : State) (frame : Option ℕ) → bytes_eq task (task_of e) ≡ false
    → last_said (past ++ e ∷ []) task state frame ≡ last_said past task state frame
last_said-other past e task state frame other = last_said-none past e task state frame (says_nothing past e task state frame (says_flag-other e task state other))

-- The levels after one more event.

-- an event of another task leaves them
pub levels-other : (past : List PlainEvent) (e : PlainEvent) (task : List ℕ) (state : State) → bytes_eq task (task_of e) ≡ false → levels (past ++ e ∷ []) task state ≡ levels past task state
levels-other past e task state other = levels-kept past e task state (stack-other past task e other) (says_flag-other e task state other) (says_begun-other e task state other)

-- so does one that is no interrupt's
quiet_says : (e : PlainEvent) (task : List ℕ) (state : State) → is_interrupt e ≡ false → (enters e ≡ None) × (exits e ≡ None) ×
    (says_flag task state e ≡ None) × (says_begun task state e ≡ None)
quiet_says (Acquire t l) task state quiet = (refl, refl, refl, refl)
quiet_says (Try t l) task state quiet = (refl, refl, refl, refl)
quiet_says (Nested t l n) task state quiet = (refl, refl, refl, refl)
quiet_says (Release t l) task state quiet = (refl, refl, refl, refl)
quiet_says (Enter t s) task state quiet = absurd (true≢false quiet)
quiet_says (Exit t s) task state quiet = absurd (true≢false quiet)
quiet_says (Enable t s) task state quiet = absurd (true≢false quiet)
quiet_says (Disable t s) task state quiet = absurd (true≢false quiet)
quiet_says (Begin t hard soft) task state quiet = absurd (true≢false quiet)

pub levels-quiet : (past : List PlainEvent) (e : PlainEvent) (task : List ℕ) (state : State) → is_interrupt e ≡ false → levels (past ++ e ∷ []) task state ≡ levels past task state
levels-quiet past e task state quiet = let says = quiet_says e task state quiet in levels-kept past e task state (stack-quiet past task e says.0 says.1) says.2 says.3

-- `enable` and `disable` set the flag of the innermost frame for their state, and no other
pub levels-enable : (past : List PlainEvent) (task : List ℕ) (changed state : State) → levels (past ++ Enable task changed ∷ []) task state ≡
    (if same_state state changed then true ∷ drop 1 (levels past task state) else levels past task state)
levels-enable past task changed state = by (same_state state changed) refl
  where
    says : (b : Bool) → same_state state changed ≡ b → says_flag task state (Enable task changed) ≡ (if b then Some true else None)
    says b is = (λ i. if (bytes_eq-Decides task task).1 refl i && is i then Some true else None)

    by : (b : Bool) → same_state state changed ≡ b → levels (past ++ Enable task changed ∷ []) task state ≡ (if b then true ∷ drop 1 (levels past task state) else levels past task state)
    by true is = levels-said past (Enable task changed) state true (stack-quiet past task (Enable task changed) refl refl) (says true is) refl
    by false is = levels-kept past (Enable task changed) task state (stack-quiet past task (Enable task changed) refl refl) (says false is) refl

pub levels-disable : (past : List PlainEvent) (task : List ℕ) (changed state : State) → levels (past ++ Disable task changed ∷ []) task state ≡
    (if same_state state changed then false ∷ drop 1 (levels past task state) else levels past task state)
levels-disable past task changed state = by (same_state state changed) refl
  where
    says : (b : Bool) → same_state state changed ≡ b → says_flag task state (Disable task changed) ≡ (if b then Some false else None)
    says b is = (λ i. if (bytes_eq-Decides task task).1 refl i && is i then Some false else None)

    by : (b : Bool) → same_state state changed ≡ b → levels (past ++ Disable task changed ∷ []) task state ≡ (if b then false ∷ drop 1 (levels past task state) else levels past task state)
    by true is = levels-said past (Disable task changed) state false (stack-quiet past task (Disable task changed) refl refl) (says true is) refl
    by false is = levels-kept past (Disable task changed) task state (stack-quiet past task (Disable task changed) refl refl) (says false is) refl

-- A `begin` of a task that has no frame, and of whose flag nothing was said, says the flag.
pub levels-begin : (past : List PlainEvent) (task : List ℕ) (hard soft : Bool) (state : State) → stack past task ≡ [] → last_said past task state None ≡ None
    → levels (past ++ Begin task hard soft ∷ []) task state ≡ flag_for state hard soft ∷ []
levels-begin past task hard soft state none unsaid =
    ap (levels_in task state (past ++ Begin task hard soft ∷ [])) (stack-quiet past task (Begin task hard soft) refl refl ∙ none)
    ∙ (λ i. unwrap_or (still i) (flag_begun-some past (Begin task hard soft) task state (flag_for state hard soft) says i) ∷ [])
  where
    still : last_said (past ++ Begin task hard soft ∷ []) task state None ≡ None
    still = last_said-none past (Begin task hard soft) task state None (says_nothing past (Begin task hard soft) task state None refl) ∙ unsaid

    says : says_begun task state (Begin task hard soft) ≡ Some (flag_for state hard soft)
    says = ap (λ (b : Bool). if b then Some (flag_for state hard soft) else None) ((bytes_eq-Decides task task).1 refl)

-- A frame begins with the flag of its own state off and the other as before; the flags around it stay.
pub levels-enter : (past : List PlainEvent) (task : List ℕ) (entered state : State) → levels (past ++ Enter task entered ∷ []) task state ≡
    (if same_state state entered then false else flag past task state) ∷ levels past task state
levels-enter past task entered state =
    ap (levels_in task state (past ++ Enter task entered ∷ []))
    (stack-enter_own past task entered)
    ∙ (λ i. unwrap_or (unsaid i) (if same_state state entered then false else flag_in task state (before i) (stack past task)) ∷ rest i)
  where
    unsaid : last_said (past ++ Enter task entered ∷ []) task state (Some (length past)) ≡ None
    unsaid = last_said-none past (Enter task entered) task state (Some (length past))
        (says_nothing past (Enter task entered) task state (Some (length past)) refl) ∙ last_said-new task state (length past) past (omega arith)

    before : take (length past) (past ++ Enter task entered ∷ []) ≡ past
    before = take_at past (Enter task entered ∷ []) (length past) refl

    rest : levels_in task state (past ++ Enter task entered ∷ []) (stack past task) ≡ levels past task state
    rest = levels_in-quiet past (Enter task entered) task state (stack past task) refl refl (stack_falls task past)

-- Where a frame is open, an exit gives back the flags around it.
pub levels-exit : (past : List PlainEvent) (task : List ℕ) (left state : State) (inner : Frame) (outer : List Frame) → stack past task ≡ inner ∷ outer
    → levels (past ++ Exit task left ∷ []) task state ≡ drop 1 (levels past task state)
levels-exit past task left state inner outer is =
    let falls : Falls (length past) (inner ∷ outer) = subst (Falls (length past)) is (stack_falls task past) in
    ap (levels_in task state (past ++ Exit task left ∷ [])) (stack-exit past task left ∙ ap (drop 1) is)
    ∙ levels_in-quiet past (Exit task left) task state outer refl refl (falls_below inner.place (length past) outer (omega (arith, falls.0)) falls.1)
    ∙ sym (ap (λ fs. drop 1 (levels_in task state past fs)) is)

-- The contexts.

pub states-enter : (past : List PlainEvent) (task : List ℕ) (state : State) → states (past ++ Enter task state ∷ []) task ≡ state ∷ states past task
states-enter past task state = ap (map state_of_frame) (stack-enter_own past task state)

pub states-exit : (past : List PlainEvent) (task : List ℕ) (state : State) → states (past ++ Exit task state ∷ []) task ≡ drop 1 (states past task)
states-exit past task state = ap (map state_of_frame) (stack-exit past task state) ∙ sym (drop-map state_of_frame 1 (stack past task))

pub states-other : (past : List PlainEvent) (task : List ℕ) (e : PlainEvent) → bytes_eq task (task_of e) ≡ false → states (past ++ e ∷ []) task ≡ states past task
states-other past task e other = ap (map state_of_frame) (stack-other past task e other)

-- each frame was opened by an `enter`
abbrev pub AllEnter : List Frame → Type 0
AllEnter [] = Unit {0}
AllEnter (f ∷ fs) = (state_entered f.element ≡ Some (state_of_frame f)) × AllEnter fs

stack_enters : (task : List ℕ) (past : List PlainEvent) → AllEnter (stack past task)
stack_enters task past = stack_follows task (λ xs fs. AllEnter fs) tt (λ xs e fs all. all) (λ xs state all. (refl, all)) rest past
  where
    rest : (xs : List PlainEvent) (fs : List Frame) → AllEnter fs → AllEnter (drop 1 fs)
    rest xs [] all = tt
    rest xs (f ∷ fs) all = all.1

-- the contexts are the states of the frames, outermost first
pub contexts-states : (past : List PlainEvent) (task : List ℕ) → contexts past task ≡ reverse (states past task)
contexts-states past task = ap (filter_map (λ o. state_entered o.element)) (frames_of_stack past task (stack past task) refl) ∙ each (stack past task) (stack_enters task past)
  where
    each : (fs : List Frame) → AllEnter fs → filter_map (λ (o : Frame). state_entered o.element) (reverse fs) ≡ reverse (map state_of_frame fs)
    each [] all = refl
    each (f ∷ fs) all =
        ap (filter_map (λ (o : Frame). state_entered o.element)) (reverse_onto fs f [])
        ∙ filter_map-append (λ (o : Frame). state_entered o.element) (reverse fs) (f ∷ [])
        ∙ (λ i. each fs all.1 i ++ cons_option (all.0 i) [])
        ∙ sym (reverse_onto (map state_of_frame fs) (state_of_frame f) [])

-- an exit that is no fault closes a frame
pub levels-exit_good : (past : List PlainEvent) (task : List ℕ) (left state : State) → is_bad_exit past (Exit task left) ≡ false → levels
    (past ++ Exit task left ∷ []) task state ≡ drop 1 (levels past task state)
levels-exit_good past task left state good = each (stack past task) refl
  where
    each : (fs : List Frame) → stack past task ≡ fs → levels (past ++ Exit task left ∷ []) task state ≡ drop 1 (levels past task state)
    each [] is =
        let none : contexts past task ≡ [] = contexts-states past task ∙ ap (λ gs. reverse (map state_of_frame gs)) is in
        absurd (true≢false (ap (λ cs. not (is_some_and (same_state left) (last_or None cs))) (sym none) ∙ good))
    each (inner ∷ outer) is = levels-exit past task left state inner outer is

-- the flag and what it enables, after an event of another task

pub flag-other : (past : List PlainEvent) (e : PlainEvent) (task : List ℕ) (state : State) → bytes_eq task (task_of e) ≡ false → flag (past ++ e ∷ []) task state ≡ flag past task state
flag-other past e task state other = flag-levels (past ++ e ∷ []) task state ∙ ap (λ bs. get_or bs 0 true) (levels-other past e task state other) ∙ sym (flag-levels past task state)

pub is_enabled-other : (past : List PlainEvent) (e : PlainEvent) (task : List ℕ) (state : State) → bytes_eq task (task_of e) ≡ false → is_enabled
    (past ++ e ∷ []) task state ≡ is_enabled past task state
is_enabled-other past e task Hard other = flag-other past e task Hard other
is_enabled-other past e task Soft other = (λ i. flag-other past e task Hard other i && flag-other past e task Soft other i)

pub is_enabled-quiet : (past : List PlainEvent) (e : PlainEvent) (task : List ℕ) (state : State) → is_interrupt e ≡ false → is_enabled (past ++ e ∷ []) task state ≡ is_enabled past task state
is_enabled-quiet past e task state quiet = each state
  where
    same : (s : State) → flag (past ++ e ∷ []) task s ≡ flag past task s
    same s = flag-levels (past ++ e ∷ []) task s ∙ ap (λ bs. get_or bs 0 true) (levels-quiet past e task s quiet) ∙ sym (flag-levels past task s)

    each : (s : State) → is_enabled (past ++ e ∷ []) task s ≡ is_enabled past task s
    each Hard = same Hard
    each Soft = (λ i. same Hard i && same Soft i)

-- the flag after an event of its own task

pub flag-enter : (past : List PlainEvent) (task : List ℕ) (entered state : State) → flag (past ++ Enter task entered ∷ []) task state ≡
    (if same_state state entered then false else flag past task state)
flag-enter past task entered state = flag-levels (past ++ Enter task entered ∷ []) task state ∙ ap (λ bs. get_or bs 0 true) (levels-enter past task entered state)

-- the first of the levels, set or not
first_set : (past : List PlainEvent) (task : List ℕ) (state : State) (to c : Bool) → get_or
    (if c then to ∷ drop 1 (levels past task state) else levels past task state) 0 true ≡ (if c then to else flag past task state)
first_set past task state to true = refl
first_set past task state to false = sym (flag-levels past task state)

pub flag-disable : (past : List PlainEvent) (task : List ℕ) (changed state : State) → flag (past ++ Disable task changed ∷ []) task state ≡
    (if same_state state changed then false else flag past task state)
flag-disable past task changed state = flag-levels (past ++ Disable task changed ∷ []) task state ∙ ap (λ bs. get_or bs 0 true)
    (levels-disable past task changed state) ∙ first_set past task state false (same_state state changed)

-- what is off, or as before, is on where it was on
off_or : (c b : Bool) → (if c then false else b) ≡ true → b ≡ true
off_or true b h = absurd (true≢false (sym h))
off_or false b h = h

-- `enter` and `disable` enable nothing
module _ (past : List PlainEvent) (e : PlainEvent) (changed : State) (flags : (state : State) → flag (past ++ e ∷ []) (task_of e) state ≡
    (if same_state state changed then false else flag past (task_of e) state)) where
  was_on : (state : State) → flag (past ++ e ∷ []) (task_of e) state ≡ true → flag past (task_of e) state ≡ true
  was_on state on = off_or (same_state state changed) (flag past (task_of e) state) (sym (flags state) ∙ on)

  was_enabled : (state : State) → is_enabled (past ++ e ∷ []) (task_of e) state ≡ true → is_enabled past (task_of e) state ≡ true
  was_enabled Hard on = was_on Hard on
  was_enabled Soft on =
      let parts = and_parts (flag (past ++ e ∷ []) (task_of e) Hard) (flag (past ++ e ∷ []) (task_of e) Soft) on in
      and_from (flag past (task_of e) Hard) (flag past (task_of e) Soft) (was_on Hard parts.0) (was_on Soft parts.1)

pub enabled_before_enter : (past : List PlainEvent) (task : List ℕ) (entered state : State) → is_enabled (past ++ Enter task entered ∷ []) task state ≡ true → is_enabled past task state ≡ true
enabled_before_enter past task entered state on = was_enabled past (Enter task entered) entered (flag-enter past task entered) state on

pub enabled_before_disable : (past : List PlainEvent) (task : List ℕ) (changed state : State) → is_enabled (past ++ Disable task changed ∷ []) task state ≡ true → is_enabled past task state ≡ true
enabled_before_disable past task changed state on = was_enabled past (Disable task changed) changed (flag-disable past task changed) state on

-- The conditions of the faults, where an event has none.

if_none : {X : Type 0} (b : Bool) (x : X) (o : Option X) → (if b then Some x else o) ≡ None → (b ≡ false) × (o ≡ None)
if_none true x o none = cc
if_none false x o none = (refl, none)

pub record NoFault (past : List PlainEvent) (e : PlainEvent) : Type 0 where
  pub tasks_fit : is_one_too_many bytes_eq MOST_TASKS (tasks past) (task_of e) ≡ false
  pub classes_fit : has_too_many_classes past e ≡ false
  pub locks_fit : is_too_deep past e ≡ false
  pub is_held : is_not_held past e ≡ false
  pub nests : is_badly_nested past e ≡ false
  pub unmasked : is_masked past e ≡ false
  pub exits_own : is_bad_exit past e ≡ false
  pub holds_none : is_held_at_exit past e ≡ false
  pub enables_other : is_bad_enable past e ≡ false
  pub begins_first : is_late_begin past e ≡ false

-- the conditions of an event without fault, one by one
module _ (past : List PlainEvent) (e : PlainEvent) (none : event_fault past e ≡ None) where
  pub no_fault_parts : NoFault past e
  no_fault_parts =
      let h1 = if_none (is_one_too_many bytes_eq MOST_TASKS (tasks past) (task_of e)) _ _ none in
      let h2 = if_none (has_too_many_classes past e) _ _ h1.1 in
      let h3 = if_none (is_too_deep past e) _ _ h2.1 in
      let h4 = if_none (is_not_held past e) _ _ h3.1 in
      let h5 = if_none (is_badly_nested past e) _ _ h4.1 in
      let h6 = if_none (is_masked past e) _ _ h5.1 in
      let h7 = if_none (is_bad_exit past e) _ _ h6.1 in
      let h8 = if_none (is_held_at_exit past e) _ _ h7.1 in
      let h9 = if_none (is_bad_enable past e) _ _ h8.1 in
      let h10 = if_none (is_late_begin past e) _ _ h9.1 in
      record { tasks_fit = h1.0; classes_fit = h2.0; locks_fit = h3.0; is_held = h4.0; nests = h5.0; unmasked = h6.0; exits_own = h7.0; holds_none = h8.0; enables_other = h9.0; begins_first = h10.0 }
