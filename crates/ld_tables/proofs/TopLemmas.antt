-- The last lock of a stack, and those below it.
use Rattle.std.proofs.Common.{◌≡◌, ℕ, ◌<◌, ◌≤◌, ◌+◌, ◌-◌, ◌++◌, ◌∷◌, List, [], map, length, take, get_or, set, sym, ap, subst, ◌∙◌, arith, Result, Ok, Err, OnOk}
use Rattle.std.proofs.lemmas.List.{get_or-set_same, length-map, length-set, length-take-le, map_more, set-get_or, take-map, take_all}
use Rattle.std.proofs.lemmas.Simd.{map-map}
use Rattle.ld_tables.specs.declared.edges.EdgeFact.{EdgeFact}
use Rattle.ld_tables.specs.declared.held.Held.{Held}
use Rattle.ld_tables.specs.Inner.Interrupts.{start_now}
use Rattle.ld_tables.specs.Inner.Locks.{AreTied, HeldByTasks, Hold, hold_of, holds_of, held_by_tasks}
use Rattle.ld_tables.specs.Inner.Stacks.{PlainStack, empty_stack, plain_held}
use Rattle.ld_tables.proofs.LockLemmas.{held_shown, put_again, shown_held, tied_cut, within_shown}

module _ {before : List EdgeFact} (stacks : List PlainStack) (edges : List EdgeFact) (known : HeldByTasks) (task : ℕ) (held : List Held)
    (is : held_by_tasks stacks edges before ≡ known) (same : map plain_held held ≡ (get_or stacks task empty_stack).held)
    (low : start_now (get_or stacks task empty_stack).interrupts < length held) (task_within : task < length known.stacks) where
  abbrev stack : PlainStack
  stack = get_or stacks task empty_stack

  abbrev top : ℕ
  top = length held - 1

  -- the locks below the last one
  abbrev pub lower : List Hold
  lower = holds_of (take top held)

  many : length held ≡ length stack.held
  many = sym (length-map held plain_held) ∙ ap length same

  pub lower_many : length lower ≡ top
  lower_many = length-map (take top held) (λ (h : Held). hold_of (plain_held h)) ∙ length-take-le top held (omega arith)

  -- they and the last one are all
  pub whole : (d : Held) → lower ++ hold_of (plain_held (get_or held top d)) ∷ [] ≡ get_or known.stacks task []
  whole d =
      sym (map_more (λ (h : Held). hold_of (plain_held h)) held top d (omega (arith, low)))
      ∙ ap holds_of (take_all (top + 1) held (omega (arith, low)))
      ∙ held_shown stacks edges known task is held same

  -- without the last one
  module _ (after : List PlainStack) (put : after ≡ set stacks task (record stack { held = take top stack.held })) where
    pub tied : (chains : _) (told : _) → AreTied stacks chains told edges → AreTied after chains told edges
    tied chains told so_far =
        subst (λ ss. AreTied ss chains told edges) (sym put)
        (tied_cut stacks chains told edges so_far task top (within_shown stacks edges known task is task_within) (omega (arith, low)) (omega (arith, many)))

    pub cut : held_by_tasks after edges before ≡ record known { stacks = set known.stacks task lower }
    cut =
        ap (λ ss. held_by_tasks ss edges before) put
        ∙ shown_held stacks edges known task is (take top stack.held) lower
        (ap (λ hs. map hold_of (take top hs)) (sym same) ∙ ap (map hold_of) (take-map plain_held top held) ∙ map-map hold_of plain_held (take top held))

    pub stays_within : task < length (held_by_tasks after edges before).stacks
    stays_within = subst (λ n. task < n) (sym (ap (λ (k : HeldByTasks). length k.stacks) cut ∙ length-set known.stacks task lower)) task_within

    pub lower_is : get_or (held_by_tasks after edges before).stacks task [] ≡ lower
    lower_is = ap (λ (k : HeldByTasks). get_or k.stacks task []) cut ∙ get_or-set_same known.stacks task lower [] task_within

    pub fewer : length (get_or (held_by_tasks after edges before).stacks task []) < length (get_or known.stacks task [])
    fewer = omega (arith, ap length lower_is, lower_many, low, length-map held (λ (h : Held). hold_of (plain_held h)), ap length (held_shown stacks edges known task is held same))

    -- and with it again, where nothing else changed meanwhile
    module _ (new : HeldByTasks) (unchanged : new ≡ held_by_tasks after edges before) where
      pub room_again : (most : ℕ) → length held ≤ most → length (get_or new.stacks task []) < most
      room_again most depth = omega (arith, low, depth, lower_many, ap length (ap (λ (k : HeldByTasks). get_or k.stacks task []) unchanged ∙ lower_is))

      pub held_again : {E : Type 0} (r : Result (Unit {0}) E) (d : Held) (last : HeldByTasks) → OnOk r
          (last ≡ record new { stacks = set new.stacks task (get_or new.stacks task [] ++ hold_of (plain_held (get_or held top d)) ∷ []) }) → OnOk r (last ≡ known)
      held_again (Ok u) d last held_last =
          put_again known new last task lower (λ hs. hs ++ hold_of (plain_held (get_or held top d)) ∷ []) (unchanged ∙ cut) held_last task_within
          ∙ ap (λ hs. record known { stacks = set known.stacks task hs }) (whole d)
          ∙ ap (λ ss. record known { stacks = ss }) (set-get_or known.stacks task [])
      held_again (Err e) d last held_last = tt
