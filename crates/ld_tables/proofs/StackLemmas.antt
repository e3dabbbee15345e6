-- The stacks as plain data, after a change of one of them.
use Rattle.std.proofs.Common.{◌≡◌, ◌<◌, ◌≤◌, ◌+◌, ◌-◌, ◌||◌, ◌∷◌, [], List, ℕ, zero, suc, Bool, true, false, map, length, get_or, set, take, drop, remove, refl, ap, sym, subst, ◌∙◌, arith}
use Rattle.std.proofs.lemmas.List.{get_or-map, get_or-set_same, get_or-take, map-set, length-map, length-take-le, drop_more, take_rest}
use Rattle.std.proofs.Math.Seq.{take-set-lt}
use Rattle.std.proofs.lemmas.List.Folds.{list_any_at}
use Rattle.std.specs.List.{drop-map, list_any}
use Rattle.ld_trace.specs.Events.{PlainLock, plain_lock}
use Rattle.ld_rules.specs.Held.{same_lock}
use Rattle.ld_tables.specs.declared.held.Held.{Held}
use Rattle.ld_tables.specs.declared.held.Stack.{Stack}
use Rattle.ld_tables.specs.declared.interrupts.Interrupts.{Interrupts}
use Rattle.ld_tables.specs.Inner.Interrupts.{start_now}
use Rattle.ld_tables.specs.Inner.Stacks.{PlainStack, empty_stack, inner, plain_held, holds}
use Rattle.ld_rules.specs.Inner.Scanned.{remove_last}

abbrev pub shown : Stack → PlainStack
shown stack = record { held = map plain_held stack.held.items; interrupts = stack.interrupts }

module _ (view : List PlainStack) (stacks : List Stack) (live : ℕ) (short : live ≤ length stacks) (is : map shown (take live stacks) ≡ view)
    (i : ℕ) (inside : i < length view) (old : Stack) (read : old ≡ get_or stacks i old) where
  within : i < live
  within = omega (arith, inside, length-map (take live stacks) shown, length-take-le live stacks short, ap length is)

  -- a stack that is read, as plain data
  pub seen_at : get_or view i empty_stack ≡ shown old
  seen_at =
      ap (λ v. get_or v i empty_stack) (sym is)
      ∙ get_or-map shown (take live stacks) i old empty_stack (omega (arith, within, length-take-le live stacks short))
      ∙ ap shown (get_or-take live stacks i old within ∙ sym read)

  -- one stack is put in another's place
  pub put : (new : Stack) (after : PlainStack → PlainStack) → shown new ≡ after (shown old) → map shown (take live (set stacks i new)) ≡ set view i (after (get_or view i empty_stack))
  put new after changed =
      ap (map shown) (take-set-lt live stacks i new within) ∙ map-set shown (take live stacks) i new
      ∙ (λ k. set (is k) i (changed k)) ∙ ap (λ s. set view i (after s)) (sym seen_at)

  -- nothing but the frames and flags of one stack changes
  module _ (new : Stack) (same : new.held ≡ old.held) where
    put_moved : map shown (take live (set stacks i new)) ≡ set view i (record (get_or view i empty_stack) { interrupts = new.interrupts })
    put_moved = put new (λ (s : PlainStack). record s { interrupts = new.interrupts }) (λ k. record { held = map plain_held (same k).items; interrupts = new.interrupts })

    pub new_at : (get_or (map shown (take live (set stacks i new))) i empty_stack).interrupts ≡ new.interrupts
    new_at =
        ap (λ v. (get_or v i empty_stack).interrupts) put_moved
        ∙ ap (λ (s : PlainStack). s.interrupts) (get_or-set_same view i (record (get_or view i empty_stack) { interrupts = new.interrupts }) empty_stack inside)

    pub moved : map shown (take live (set stacks i new))
        ≡ set view i (record (get_or view i empty_stack) { interrupts = (get_or (map shown (take live (set stacks i new))) i empty_stack).interrupts })
    moved = put_moved ∙ ap (λ (f : Interrupts). set view i (record (get_or view i empty_stack) { interrupts = f })) (sym new_at)

    -- what holds of them
    pub moved_as : (R : Interrupts → Interrupts → Type 0) → R old.interrupts new.interrupts
        → R (get_or view i empty_stack).interrupts (get_or (map shown (take live (set stacks i new))) i empty_stack).interrupts
    moved_as R holds =
        subst (λ f. R (get_or view i empty_stack).interrupts f) (sym new_at)
        (subst (λ f. R f new.interrupts) (sym (ap (λ (s : PlainStack). s.interrupts) seen_at)) holds)

-- the locks from a place of a stack on, as plain data
pub part_is : (stack : PlainStack) (held : List Held) (start : ℕ) → map plain_held held ≡ stack.held → start ≡ start_now stack.interrupts → map
    plain_held (take (length held - start) (drop start held)) ≡ inner stack
part_is stack held start is starts =
    ap (map plain_held) (take_rest held start) ∙ sym (drop-map plain_held start held) ∙ (λ i. drop (starts i) (is i))

-- the element at i is the last that passes
pub removed_is : {X : Type 0} (p : X → Bool) (xs : List X) (i : ℕ) (d : X) → i < length xs → p (get_or xs i d) ≡ true → list_any p (drop (suc i) xs) ≡ false → remove xs i ≡ remove_last p xs
removed_is p [] i d within passes none = absurd (omega arith)
removed_is p (x ∷ xs) zero d within passes none = rw (none, passes) refl
removed_is p (x ∷ xs) (suc i) d within passes none =
    let found : list_any p xs ≡ true = list_any_at p xs i d (omega arith) passes in
    rw found (ap (λ ys. x ∷ ys) (removed_is p xs i d (omega arith) passes none))

-- a stack that is searched from its end

pub removed_at : (lock : PlainLock) (stack : List Held) (place : ℕ) (d : Held) → 0 < place → place ≤ length stack → same_lock lock
    (plain_lock (get_or stack (place - 1) d).lock) ≡ true → list_any (holds lock) (drop place (map plain_held stack)) ≡ false → remove
    (map plain_held stack) (place - 1) ≡ remove_last (holds lock) (map plain_held stack)
removed_at lock stack zero d some within passes none = absurd (omega arith)
removed_at lock stack (suc p) d some within passes none =
    let less : suc p - 1 ≡ p = omega arith in
    let here : get_or (map plain_held stack) p (plain_held d) ≡ plain_held (get_or stack p d) = get_or-map plain_held stack p d (plain_held d) (omega arith) in
    rw less (removed_is (holds lock) (map plain_held stack) p (plain_held d) (omega (arith, within, length-map stack plain_held))
    (ap (holds lock) here ∙ ap (λ n. same_lock lock (plain_lock (get_or stack n d).lock)) (sym less) ∙ passes) none)

pub none_before : (lock : PlainLock) (stack : List Held) (place : ℕ) (d : Held) → 0 < place → place ≤ length stack → same_lock lock
    (plain_lock (get_or stack (place - 1) d).lock) ≡ false → list_any (holds lock) (drop place (map plain_held stack)) ≡ false → list_any (holds lock) (drop (place - 1) (map plain_held stack)) ≡ false
none_before lock stack zero d some within fails none = absurd (omega arith)
none_before lock stack (suc p) d some within fails none =
    let less : suc p - 1 ≡ p = omega arith in
    let more : p + 1 ≡ suc p = omega arith in
    let here : get_or (map plain_held stack) p (plain_held d) ≡ plain_held (get_or stack p d) = get_or-map plain_held stack p d (plain_held d) (omega arith) in
    let differs : holds lock (get_or (map plain_held stack) p (plain_held d)) ≡ false = ap (holds lock) here ∙ ap (λ n. same_lock lock (plain_lock (get_or stack n d).lock)) (sym less) ∙ fails in
    ap (λ n. list_any (holds lock) (drop n (map plain_held stack))) less
    ∙ ap (list_any (holds lock)) (drop_more (map plain_held stack) p (plain_held d) (omega (arith, within, length-map stack plain_held)))
    ∙ (λ i. differs i || list_any (holds lock) (drop (more i) (map plain_held stack)))
    ∙ none
