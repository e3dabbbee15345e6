-- The flag in a frame where nothing was said of it is that at the position just before its enter.
use Rattle.std.proofs.Common.{◌≡◌, ◌<◌, ◌++◌, ◌∷◌, [], List, ℕ, false, length, reverse, take, drop, Some, refl, ap, sym, subst, ◌∙◌, arith, if◌then◌else◌}
use Rattle.std.proofs.lemmas.List.{length_push, take-append-le, take_at}
use Rattle.std.specs.Option.{unwrap_or}
use Rattle.ld_trace.specs.declared.event.State.{State}
use Rattle.ld_trace.specs.Events.{PlainEvent}
use Rattle.ld_trace.specs.Events.PlainEvent.{Enter}
use Rattle.ld_rules.specs.Open.{is_some_and}
use Rattle.ld_rules.specs.Frames.{Frame, frames, state_entered}
use Rattle.ld_rules.specs.Flags.{same_state, last_said, flag_in, flag}
use Rattle.ld_rules.specs.Inner.Levels.{stack}
use Rattle.ld_rules.proofs.FlagLemmas.{stack_follows}

-- each of these frames, innermost first, was opened in the past, and those around it were open just
-- before its enter
abbrev AreAround : List PlainEvent → List ℕ → List Frame → Type 0
AreAround past task [] = Unit {0}
AreAround past task (f ∷ fs) = (f.place < length past) × (stack (take f.place past) task ≡ fs) × AreAround past task fs

-- so they are after one more event
around_later : (past : List PlainEvent) (e : PlainEvent) (task : List ℕ) (fs : List Frame) → AreAround past task fs → AreAround (past ++ e ∷ []) task fs
around_later past e task [] around = tt
around_later past e task (f ∷ fs) (low, before, rest) =
    (omega (arith, low, length_push past e), ap (λ xs. stack xs task) (take-append-le f.place past (e ∷ []) (omega (arith, low))) ∙ before, around_later past e task fs rest)

around_rest : (past : List PlainEvent) (task : List ℕ) (fs : List Frame) → AreAround past task fs → AreAround past task (drop 1 fs)
around_rest past task [] around = tt
around_rest past task (f ∷ fs) (low, before, rest) = rest

-- the open frames of a task are such
stack_around : (task : List ℕ) (past : List PlainEvent) → AreAround past task (stack past task)
stack_around task past = stack_follows task (λ xs fs. AreAround xs task fs) tt (λ xs e fs around. around_later xs e task fs around) opened (λ xs fs around. around_rest xs task fs around) past
  where
    opened : (xs : List PlainEvent) (state : State) → AreAround xs task (stack xs task) → AreAround (xs ++ Enter task state ∷ []) task
        (record { place = length xs; element = Enter task state; key = task } ∷ stack xs task)
    opened xs state around = (
      omega (arith, length_push xs (Enter task state)),
      ap (λ ys. stack ys task) (take_at xs (Enter task state ∷ []) (length xs) refl),
      around_later xs (Enter task state) task (stack xs task) around,
    )

-- The frames around the innermost one are those that were open just before its enter.
pub frames-before : (past : List PlainEvent) (task : List ℕ) (inner : Frame) (outer : List Frame) → reverse (frames past task) ≡ inner ∷ outer → reverse (frames (take inner.place past) task) ≡ outer
frames-before past task inner outer is = (subst (AreAround past task) is (stack_around task past)).1

-- So the flag in the innermost frame, where nothing was said there and the frame isn't one of the
-- state, is the flag just before the enter.
pub flag-before : (past : List PlainEvent) (task : List ℕ) (state : State) (inner : Frame) (outer : List Frame) → reverse (frames past task) ≡ inner ∷ outer →
    flag past task state ≡ unwrap_or (last_said past task state (Some inner.place))
    (if is_some_and (same_state state) (state_entered inner.element) then false else flag (take inner.place past) task state)
flag-before past task state inner outer is =
    ap (flag_in task state past) is
    ∙ (λ i. unwrap_or (last_said past task state (Some inner.place)) (if is_some_and (same_state state) (state_entered inner.element) then false else
    flag_in task state (take inner.place past) (sym (frames-before past task inner outer is) i)))
