-- The parts of a line, as the functions of the reader see them. No public contract cites this
-- file.
use Rattle.std.specs.Prelude.{ℕ, List, [], ◌∷◌, Option, Some, None, Result, Ok, Err, codes}
use Rattle.std.specs.Borrow.{Bor}
use Rattle.ld_trace.specs.declared.event.Lock.{Lock}
use Rattle.ld_trace.specs.declared.event.State.{State}
use Rattle.ld_trace.specs.declared.event.LineFault.{LineFault}
use Rattle.ld_trace.specs.declared.event.Verb.{Verb}
use Rattle.ld_trace.specs.declared.event.Verb.TheVariants.{OfLock, OfState, Nested, Begin}
use Rattle.ld_trace.specs.declared.event.LockVerb.{LockVerb}
use Rattle.ld_trace.specs.declared.event.LockVerb.TheVariants as lock_verbs
use Rattle.ld_trace.specs.declared.event.StateVerb.{StateVerb}
use Rattle.ld_trace.specs.declared.event.StateVerb.TheVariants as state_verbs
use Rattle.ld_trace.specs.Events.{PlainEvent, Acquire, Try, Release, Enter, Exit, Enable, Disable, PlainLock, Said, plain_lock, said_of_begin, said_of_lock, said_of_nested, said_of_state}

-- the fields, where they are two
abbrev pub two_fields_of : List (List ℕ) → Option (List ℕ × List ℕ)
two_fields_of [] = None
two_fields_of (first ∷ []) = None
two_fields_of (first ∷ second ∷ []) = Some (first, second)
two_fields_of (first ∷ second ∷ third ∷ others) = None

abbrev pub both_now : Bor (List ℕ) × Bor (List ℕ) → List ℕ × List ℕ
both_now pair = (pair.0.now, pair.1.now)

-- the fields, where they are three
abbrev pub three_fields_of : List (List ℕ) → Option (List ℕ × List ℕ × List ℕ)
three_fields_of [] = None
three_fields_of (first ∷ []) = None
three_fields_of (first ∷ second ∷ []) = None
three_fields_of (first ∷ second ∷ third ∷ []) = Some (first, second, third)
three_fields_of (first ∷ second ∷ third ∷ fourth ∷ others) = None

abbrev pub all_now : Bor (List ℕ) × Bor (List ℕ) × Bor (List ℕ) → List ℕ × List ℕ × List ℕ
all_now fields = (fields.0.now, fields.1.now, fields.2.now)

-- what a line says whose task and lock, or task and state, are read
abbrev pub said_with_lock : (List ℕ → PlainLock → PlainEvent) → Result (Bor (List ℕ) × Lock) LineFault → Said
said_with_lock make (Ok pair) = Ok (Some (make pair.0.now (plain_lock pair.1)))
said_with_lock make (Err fault) = Err fault

abbrev pub said_with_state : (List ℕ → State → PlainEvent) → Result (Bor (List ℕ) × State) LineFault → Said
said_with_state make (Ok pair) = Ok (Some (make pair.0.now pair.1))
said_with_state make (Err fault) = Err fault

-- how a verb is spelled
abbrev pub spelling_of_lock_verb : LockVerb → List ℕ
spelling_of_lock_verb lock_verbs.Acquire = codes "acquire"
spelling_of_lock_verb lock_verbs.Try = codes "try"
spelling_of_lock_verb lock_verbs.Release = codes "release"

abbrev pub spelling_of_state_verb : StateVerb → List ℕ
spelling_of_state_verb state_verbs.Enter = codes "enter"
spelling_of_state_verb state_verbs.Exit = codes "exit"
spelling_of_state_verb state_verbs.Enable = codes "enable"
spelling_of_state_verb state_verbs.Disable = codes "disable"

abbrev pub spelling : Verb → List ℕ
spelling (OfLock verb) = spelling_of_lock_verb verb
spelling (OfState verb) = spelling_of_state_verb verb
spelling Nested = codes "nested"
spelling Begin = codes "begin"

-- what a line with a verb says, by the fields after it
abbrev pub said_after_lock_verb : LockVerb → List (List ℕ) → Said
said_after_lock_verb lock_verbs.Acquire found = said_of_lock Acquire found
said_after_lock_verb lock_verbs.Try found = said_of_lock Try found
said_after_lock_verb lock_verbs.Release found = said_of_lock Release found

abbrev pub said_after_state_verb : StateVerb → List (List ℕ) → Said
said_after_state_verb state_verbs.Enter found = said_of_state Enter found
said_after_state_verb state_verbs.Exit found = said_of_state Exit found
said_after_state_verb state_verbs.Enable found = said_of_state Enable found
said_after_state_verb state_verbs.Disable found = said_of_state Disable found

abbrev pub said_after : Verb → List (List ℕ) → Said
said_after (OfLock verb) found = said_after_lock_verb verb found
said_after (OfState verb) found = said_after_state_verb verb found
said_after Nested found = said_of_nested found
said_after Begin found = said_of_begin found
