-- A lock that is taken out of a stack.
use Rattle.std.proofs.Common.{◌≡◌, ℕ, ◌<◌, ◌≤◌, ◌+◌, ◌-◌, ◌++◌, ◌∷◌, List, [], map, length, take, drop, get_or, set, sym, ap, subst, ◌∙◌, arith}
use Rattle.std.proofs.lemmas.List.{append-nil, append_assoc, drop-append-le, drop_all, get_or-set_same, length-append}
use Rattle.std.proofs.lemmas.List.{length-drop, length-map, length-set, length-take-le, take-append-le, take-map}
use Rattle.ld_tables.specs.declared.edges.EdgeFact.{EdgeFact}
use Rattle.ld_tables.specs.declared.held.Held.{Held}
use Rattle.ld_tables.specs.Inner.Interrupts.{fresh, start_now}
use Rattle.ld_tables.specs.Inner.Locks.{AreTied, HeldByTasks, Hold, hold_of, holds_of, held_by_tasks}
use Rattle.ld_tables.specs.Inner.Stacks.{PlainStack, empty_stack, plain_held}
use Rattle.ld_tables.proofs.LockLemmas.{held_shown, interrupts_shown, put_again}
use Rattle.ld_tables.proofs.TopLemmas.{cut, fewer, lower_is, lower_many, stays_within, tied, whole}

-- a list without the one at a place
abbrev without : ℕ → List Hold → List Hold
without place holds = take place holds ++ drop (place + 1) holds

-- one that is pushed stays behind it
without-push : (place : ℕ) (holds : List Hold) (hold : Hold) → place < length holds → without place holds ++ hold ∷ [] ≡ without place (holds ++ hold ∷ [])
without-push place holds hold below =
    append_assoc (take place holds) (drop (place + 1) holds) (hold ∷ [])
    ∙ (λ i. sym (take-append-le place holds (hold ∷ []) (omega arith)) i ++ sym (drop-append-le (place + 1) holds (hold ∷ []) (omega arith)) i)

-- what the requirements say of the fields
module _ {before : List EdgeFact} (stacks : List PlainStack) (edges : List EdgeFact) (known : HeldByTasks) (task : ℕ) (held : List Held)
    (is : held_by_tasks stacks edges before ≡ known) (same : map plain_held held ≡ (get_or stacks task empty_stack).held) (place : ℕ)
    (inner : start_now (get_or known.interrupts task fresh) ≤ place) (below : place < length (get_or known.stacks task [])) (task_within : task < length known.stacks) where
  abbrev stack : PlainStack
  stack = get_or stacks task empty_stack

  abbrev top : ℕ
  top = length held - 1

  low : start_now stack.interrupts ≤ place
  low = subst (λ interrupts. start_now interrupts ≤ place) (sym (interrupts_shown stacks edges known task is)) inner

  inside : place < length held
  inside = omega (arith, below, length-map held (λ (h : Held). hold_of (plain_held h)), ap length (held_shown stacks edges known task is held same))

  inner_below : start_now stack.interrupts < length held
  inner_below = omega (arith, low, inside)

  abbrev lower_holds : List Hold
  lower_holds = holds_of (take top held)

  many_lower : length lower_holds ≡ top
  many_lower = lower_many stacks edges known task held is same inner_below task_within

  -- without the last one
  module _ (after : List PlainStack) (put : after ≡ set stacks task (record stack { held = take top stack.held })) where
    pub tied_below : (chains : _) (told : _) → AreTied stacks chains told edges → AreTied after chains told edges
    tied_below = tied stacks edges known task held is same inner_below task_within after put

    cut_below : held_by_tasks after edges before ≡ record known { stacks = set known.stacks task lower_holds }
    cut_below = cut stacks edges known task held is same inner_below task_within after put

    pub within_below : task < length (held_by_tasks after edges before).stacks
    within_below = stays_within stacks edges known task held is same inner_below task_within after put

    lower_at : get_or (held_by_tasks after edges before).stacks task [] ≡ lower_holds
    lower_at = lower_is stacks edges known task held is same inner_below task_within after put

    pub fewer_below : length (get_or (held_by_tasks after edges before).stacks task []) < length (get_or known.stacks task [])
    fewer_below = fewer stacks edges known task held is same inner_below task_within after put

    pub was_last : place ≡ top → held_by_tasks after edges before ≡ record known { stacks = set known.stacks task (without place (get_or known.stacks task [])) }
    was_last at =
        cut_below ∙ ap (λ hs. record known { stacks = set known.stacks task hs })
        (sym (append-nil lower_holds)
        ∙ (λ i. (ap (λ n. holds_of (take n held)) (sym at) ∙ sym (take-map (λ (h : Held). hold_of (plain_held h)) place held)) i
        ++ sym (drop_all (place + 1) (holds_of held) (omega (arith, at, inside, length-map held (λ (h : Held). hold_of (plain_held h))))) i)
        ∙ ap (without place) (held_shown stacks edges known task is held same))

    pub inner_stays : start_now (get_or (held_by_tasks after edges before).interrupts task fresh) ≤ place
    inner_stays = subst (λ interrupts. start_now interrupts ≤ place) (sym (ap (λ (k : HeldByTasks). get_or k.interrupts task fresh) cut_below)) inner

    pub stays_below : (place ≡ top → ⊥) → place < length (get_or (held_by_tasks after edges before).stacks task [])
    stays_below other = omega (arith, other, inside, ap length lower_at, many_lower)

    -- and without the one at the place
    module _ (new : HeldByTasks) (out : new ≡ record (held_by_tasks after edges before)
        { stacks = set (held_by_tasks after edges before).stacks task (without place (get_or (held_by_tasks after edges before).stacks task [])) }) where
      lesser : new ≡ record known { stacks = set known.stacks task (without place lower_holds) }
      lesser = put_again known (held_by_tasks after edges before) new task lower_holds (without place) cut_below out task_within

      lesser_within : task < length new.stacks
      lesser_within = subst (λ n. task < n) (sym (ap (λ (k : HeldByTasks). length k.stacks) lesser ∙ length-set known.stacks task (without place lower_holds))) task_within

      pub room : (most : ℕ) → length held ≤ most → (place ≡ top → ⊥) → length (get_or new.stacks task []) < most
      room most depth other =
          let now : get_or new.stacks task [] ≡ without place lower_holds =
          ap (λ (k : HeldByTasks). get_or k.stacks task []) lesser ∙ get_or-set_same known.stacks task (without place lower_holds) [] task_within in
          omega (
            arith,
            ap length now,
            length-append (take place lower_holds) (drop (place + 1) lower_holds),
            length-take-le place lower_holds (omega (arith, inside, many_lower)),
            length-drop (place + 1) lower_holds,
            many_lower,
            other,
            inside,
          )

      pub again : (d : Held) (last : HeldByTasks) → (place ≡ top → ⊥)
          → last ≡ record new { stacks = set new.stacks task (get_or new.stacks task [] ++ hold_of (plain_held (get_or held top d)) ∷ []) }
          → last ≡ record known { stacks = set known.stacks task (without place (get_or known.stacks task [])) }
      again d last other held_last =
          put_again known new last task (without place lower_holds) (λ hs. hs ++ hold_of (plain_held (get_or held top d)) ∷ []) lesser held_last task_within
          ∙ ap (λ hs. record known { stacks = set known.stacks task hs })
          (without-push place lower_holds (hold_of (plain_held (get_or held top d))) (omega (arith, other, inside, many_lower))
          ∙ ap (without place) (whole stacks edges known task held is same inner_below task_within d))
