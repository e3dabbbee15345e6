-- What a `begin` says of a flag, after one more event.
use Rattle.std.proofs.Common.{◌≡◌, ◌++◌, ◌∷◌, [], List, ℕ, Bool, true, false, filter_map, Some, None, refl, ap, ◌∙◌, if◌then◌else◌}
use Rattle.std.proofs.lemmas.List.{append-nil}
use Rattle.std.proofs.lemmas.List.Elements.{filter_map-append}
use Rattle.std.specs.List.{cons_option, last_or}
use Rattle.std.specs.Option.{unwrap_or}
use Rattle.std.specs.Str.{bytes_eq}
use Rattle.ld_trace.specs.declared.event.State.{State}
use Rattle.ld_trace.specs.Events.{PlainEvent}
use Rattle.ld_trace.specs.Events.PlainEvent.{Acquire, Try, Nested, Release, Enter, Exit, Enable, Disable, Begin}
use Rattle.ld_rules.specs.Frames.{task_of}
use Rattle.ld_rules.specs.Flags.{flag_begun, flag_for, says_begun}
use Rattle.ld_rules.proofs.PlaceLemmas.{last_or-push}

flag_begun-push : (past : List PlainEvent) (e : PlainEvent) (task : List ℕ) (state : State) → flag_begun (past ++ e ∷ []) task state ≡
    unwrap_or (last_or None (filter_map (says_begun task state) past ++ cons_option (says_begun task state e) [])) true
flag_begun-push past e task state = ap (λ bs. unwrap_or (last_or None bs) true) (filter_map-append (says_begun task state) past (e ∷ []))

pub flag_begun-none : (past : List PlainEvent) (e : PlainEvent) (task : List ℕ) (state : State) → says_begun task state e ≡ None → flag_begun (past ++ e ∷ []) task state ≡ flag_begun past task state
flag_begun-none past e task state none =
    flag_begun-push past e task state
    ∙ ap (λ o. unwrap_or (last_or None (filter_map (says_begun task state) past ++ cons_option o [])) true) none
    ∙ ap (λ bs. unwrap_or (last_or None bs) true) (append-nil (filter_map (says_begun task state) past))

pub flag_begun-some : (past : List PlainEvent) (e : PlainEvent) (task : List ℕ) (state : State) (b : Bool) → says_begun task state e ≡ Some b → flag_begun (past ++ e ∷ []) task state ≡ b
flag_begun-some past e task state b some =
    flag_begun-push past e task state
    ∙ ap (λ o. unwrap_or (last_or None (filter_map (says_begun task state) past ++ cons_option o [])) true) some
    ∙ ap (λ o. unwrap_or o true) (last_or-push None (filter_map (says_begun task state) past) b)

-- a `begin` of another task says nothing of this one, nor does any other event
pub says_begun-other : (e : PlainEvent) (task : List ℕ) (state : State) → bytes_eq task (task_of e) ≡ false → says_begun task state e ≡ None
says_begun-other (Acquire t l) task state other = refl
says_begun-other (Try t l) task state other = refl
says_begun-other (Nested t l n) task state other = refl
says_begun-other (Release t l) task state other = refl
says_begun-other (Enter t s) task state other = refl
says_begun-other (Exit t s) task state other = refl
says_begun-other (Enable t s) task state other = refl
says_begun-other (Disable t s) task state other = refl
says_begun-other (Begin t hard soft) task state other = ap (λ (b : Bool). if b then Some (flag_for state hard soft) else None) other
