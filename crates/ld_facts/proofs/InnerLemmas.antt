-- The innermost frame of a task, as the scan keeps it.
use Rattle.std.proofs.Common.{◌≡◌, ◌++◌, ◌∷◌, [], ◌∙◌, ◌&&◌, ◌||◌, Bool, true, false, ℕ, List, Option, None, Some, Result, Ok, Err, length, map, drop, get_or, refl, ap, sym, subst, arith}
use Rattle.std.specs.Prelude.{slice_get}
use Rattle.std.specs.List.{cons_option, last_or, list_any}
use Rattle.std.specs.Option.{option_map}
use Rattle.std.proofs.lemmas.Grind.{reverse_onto}
use Rattle.std.proofs.lemmas.List.{drop-map, length-map}
use Rattle.std.proofs.lemmas.List.Folds.{list_any-append}
use Rattle.std.specs.Prelude.{reverse}
use Rattle.std.proofs.lemmas.Simd.{map-map}
use Rattle.ld_class.specs.Names.{PlainClass, no_class}
use Rattle.ld_trace.specs.declared.event.LineFault.{LineFault}
use Rattle.ld_trace.specs.declared.event.State.{State}
use Rattle.ld_trace.specs.declared.event.State.TheVariants.{Hard, Soft}
use Rattle.ld_trace.specs.Events.{PlainEvent, Position}
use Rattle.ld_tables.specs.declared.interrupts.Interrupts.{Interrupts}
use Rattle.ld_rules.specs.Flags.{flag, is_enabled}
use Rattle.ld_rules.specs.Frames.{contexts, frame_of}
use Rattle.ld_rules.specs.Held.{held_by, held_in}
use Rattle.ld_tables.specs.Inner.Interrupts.{enabled_now, flag_now, start_now, states_of}
use Rattle.ld_rules.specs.Inner.Levels.{starts}
use Rattle.ld_tables.specs.Inner.Locks.{Hold}
use Rattle.ld_rules.specs.Outcome.{event_said, events, faulty_lines, said_fault}
use Rattle.ld_facts.specs.Inner.Scan.{HeldLock, IsTask, lock_held, named_hold}
use Rattle.ld_rules.proofs.FlagLemmas.{contexts-states, flag-levels, no_fault_parts}
use Rattle.ld_rules.proofs.GroupLemmas.{IsGrouped, grouped-empty, grouped-push, held_in-innermost}
use Rattle.ld_facts.proofs.NamedLemmas.{holds-classes}
use Rattle.ld_rules.proofs.OutcomeLemmas.{events-push, faulty, faulty_lines-push}
use Rattle.ld_rules.proofs.PlaceLemmas.{by_pushes, last_or-push}

both_empty : {X : Type 0} (xs ys : List X) → xs ++ ys ≡ [] → (xs ≡ []) × (ys ≡ [])
both_empty [] ys none = (refl, none)
both_empty (x ∷ xs) ys none = absurd (omega (arith, ap length none))

none_there : {X Y : Type 0} (f : X → Y) (o : Option X) → cons_option (option_map f o) [] ≡ [] → o ≡ None
none_there f None none = refl
none_there f (Some x) none = absurd (omega (arith, ap length none))

-- where no position has a fault, what a task holds is grouped by its frames
pub clean-grouped : (all : List Position) (task : List ℕ) → faulty_lines all ≡ [] → IsGrouped (events all) task
clean-grouped all task = by_pushes (λ ps. faulty_lines ps ≡ [] → IsGrouped (events ps) task) (λ _. grouped-empty task) step all
  where
    step : (ps : List Position) (p : Position) → (faulty_lines ps ≡ [] → IsGrouped (events ps) task) → faulty_lines (ps ++ p ∷ []) ≡ [] → IsGrouped (events (ps ++ p ∷ [])) task
    step ps p rest clean =
        let parts = both_empty (faulty_lines ps) (cons_option (faulty ps p) []) (sym (faulty_lines-push ps p) ∙ clean) in
        subst (λ past. IsGrouped past task) (sym (events-push ps p)) (by p.says (none_there (λ fault. record { line = p.line; fault = fault }) (said_fault (events ps) p.says) parts.1) (rest parts.0))
      where
        by : (says : Result PlainEvent LineFault) → said_fault (events ps) says ≡ None → IsGrouped (events ps) task → IsGrouped (events ps ++ cons_option (event_said says) []) task
        by (Err fault) none before = absurd (omega (arith, ap (λ o. length (cons_option o [])) none))
        by (Ok e) none before = grouped-push (events ps) e task (no_fault_parts (events ps) e none).holds_none before

any_reverse : {X : Type 0} (p : X → Bool) (xs : List X) → list_any p (reverse xs) ≡ list_any p xs
any_reverse p [] = refl
any_reverse p (x ∷ xs) = ap (list_any p) (reverse_onto xs x []) ∙ list_any-append p (reverse xs) (x ∷ []) ∙ ap (λ b. b || (p x || false)) (any_reverse p xs) ∙ turned (list_any p xs) (p x)
  where
    turned : (a b : Bool) → (a || (b || false)) ≡ (b || a)
    turned true true = refl
    turned true false = refl
    turned false true = refl
    turned false false = refl

last-reverse : {X : Type 0} (xs : List X) → last_or None (reverse xs) ≡ slice_get xs 0
last-reverse [] = refl
last-reverse (x ∷ xs) = ap (last_or None) (reverse_onto xs x []) ∙ last_or-push None (reverse xs) x

-- what is kept of a task tells its flags, its contexts and where its innermost frame begins
module _ (names : List PlainClass) (held : List Hold) (interrupts : Interrupts) (past : List PlainEvent) (task : List ℕ) (is : IsTask names held interrupts past task) where
  pub flag-is : (state : State) → flag_now state interrupts ≡ flag past task state
  flag-is state = ap (λ bs. get_or bs 0 true) (is.levels state) ∙ sym (flag-levels past task state)

  pub enabled-is : (state : State) → enabled_now state interrupts ≡ is_enabled past task state
  enabled-is Hard = flag-is Hard
  enabled-is Soft = (λ i. flag-is Hard i && flag-is Soft i)

  pub length-is : length held ≡ length (held_by past task)
  length-is = sym (length-map held (named_hold names)) ∙ ap length is.holds ∙ length-map (held_by past task) lock_held

  pub start-is : start_now interrupts ≡ get_or (starts past task) 0 0
  start-is = ap (λ ss. get_or ss 0 0) is.starts

  pub contexts-are : contexts past task ≡ reverse (states_of interrupts)
  contexts-are = contexts-states past task ∙ ap reverse (sym is.states)

  pub any-context : (p : State → Bool) → list_any p (contexts past task) ≡ list_any p (states_of interrupts)
  any-context p = ap (list_any p) contexts-are ∙ any_reverse p (states_of interrupts)

  pub last-context : last_or None (contexts past task) ≡ slice_get (states_of interrupts) 0
  last-context = ap (last_or None) contexts-are ∙ last-reverse (states_of interrupts)

  -- its locks from there on are those of the frame
  pub inner-is : IsGrouped past task → map (named_hold names) (drop (start_now interrupts) held) ≡ map lock_held (held_in past task (frame_of past task))
  inner-is grouped =
      sym (drop-map (named_hold names) (start_now interrupts) held)
      ∙ (λ i. drop (start-is i) (is.holds i))
      ∙ drop-map lock_held (get_or (starts past task) 0 0) (held_by past task)
      ∙ ap (map lock_held) (sym (held_in-innermost past task grouped))

  -- the names of the classes that it holds locks of
  pub classes-are : map (λ class. get_or names class no_class) (map (λ hold. hold.class) held) ≡ map (λ one. one.class) (held_by past task)
  classes-are =
      holds-classes names held
      ∙ ap (map (λ (one : HeldLock). one.class)) is.holds
      ∙ map-map (λ (one : HeldLock). one.class) lock_held (held_by past task)
