-- A line of a verb, a task and a state, with single blanks, that ends by an LF, or by a CR and an LF.
use Rattle.std.proofs.Common.{ℕ, ◌≡◌, true, List, [], ◌∷◌, ◌++◌, refl, sym, ◌∙◌, ap, arith, Some, Ok, append_assoc, length-append}
use Rattle.ld_trace.specs.declared.event.State.{State}
use Rattle.ld_trace.specs.declared.event.State.TheVariants as states
use Rattle.ld_trace.specs.declared.event.StateVerb.{StateVerb}
use Rattle.ld_trace.specs.declared.event.StateVerb.TheVariants as state_verbs
use Rattle.ld_trace.specs.Events.{PlainEvent, Enter, Exit, Enable, Disable, said_by, said_by_fields}
use Rattle.ld_trace.specs.First.{IsFirstSaid}
use Rattle.ld_trace.specs.Lines.{is_word, lines}
use Rattle.ld_trace.specs.Inner.Plain.{IsEnded, line_end, spelling_of_state}
use Rattle.ld_trace.specs.Inner.Reading.{spelling_of_state_verb}
use Rattle.ld_trace.proofs.EndLemmas.{end-some}
use Rattle.ld_trace.proofs.PlainLemmas.{IsRun, fields-three, lines-three, run-word, spread, text-three}

-- the event of a verb with a task and a state
abbrev pub event_of_state : StateVerb → List ℕ → State → PlainEvent
event_of_state state_verbs.Enter task state = Enter task state
event_of_state state_verbs.Exit task state = Exit task state
event_of_state state_verbs.Enable task state = Enable task state
event_of_state state_verbs.Disable task state = Disable task state

run-verb : (verb : StateVerb) → IsRun (spelling_of_state_verb verb)
run-verb state_verbs.Enter = record { full = refl; graphic = refl }
run-verb state_verbs.Exit = record { full = refl; graphic = refl }
run-verb state_verbs.Enable = record { full = refl; graphic = refl }
run-verb state_verbs.Disable = record { full = refl; graphic = refl }

run-state : (state : State) → IsRun (spelling_of_state state)
run-state states.Hard = record { full = refl; graphic = refl }
run-state states.Soft = record { full = refl; graphic = refl }

said-three : (verb : StateVerb) (task : List ℕ) (state : State) → is_word task ≡ true
    → said_by_fields (spelling_of_state_verb verb ∷ task ∷ spelling_of_state state ∷ []) ≡ Ok (Some (event_of_state verb task state))
said-three state_verbs.Enter task states.Hard word = rw word refl
said-three state_verbs.Enter task states.Soft word = rw word refl
said-three state_verbs.Exit task states.Hard word = rw word refl
said-three state_verbs.Exit task states.Soft word = rw word refl
said-three state_verbs.Enable task states.Hard word = rw word refl
said-three state_verbs.Enable task states.Soft word = rw word refl
said-three state_verbs.Disable task states.Hard word = rw word refl
said-three state_verbs.Disable task states.Soft word = rw word refl

-- such a line says its event
pub said-state : (verb : StateVerb) (task : List ℕ) (state : State) (bytes after others behind rest : List ℕ) → bytes ≡ spelling_of_state_verb verb ++ 32 ∷ after
    → after ≡ task ++ 32 ∷ others → is_word task ≡ true → others ≡ spelling_of_state state ++ behind → IsEnded behind rest → IsFirstSaid bytes
    (Ok (Some (event_of_state verb task state))) rest
said-state verb task state bytes after others behind rest begins goes spelled ends ended =
    let first = spelling_of_state_verb verb in
    let field = spelling_of_state state in
    let middle = run-word task spelled in
    let body = first ++ 32 ∷ (task ++ 32 ∷ field) in
    let cr = ended.cr in
    let end = line_end cr in
    let whole : bytes ≡ first ++ 32 ∷ (task ++ 32 ∷ (field ++ (end ++ rest))) =
    begins ∙ ap (λ o. first ++ 32 ∷ o) (goes ∙ ap (λ o. task ++ 32 ∷ o) (ends ∙ ap (λ o. field ++ o) ended.whole)) in
    record {
      line = body ++ end;
      first = ap lines whole ∙ lines-three first task field rest cr (run-verb verb) middle (run-state state) ∙ ap (λ o. o ∷ lines rest) (spread first task field end);
      whole = whole ∙ spread first task field (end ++ rest) ∙ sym (append_assoc body end rest);
      nonempty = omega (arith, length-append body end, end-some cr);
      says =
          ap said_by (text-three first task field cr (run-state state)) ∙ ap said_by_fields (fields-three first task field (run-verb verb) middle (run-state state))
          ∙ said-three verb task state spelled;
    }
