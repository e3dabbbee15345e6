-- Stacks, chains and what was told.
use Rattle.std.proofs.Common.{◌≡◌, ◌<◌, ◌≤◌, ◌+◌, ◌-◌, ◌||◌, ◌++◌, ◌∷◌, [], List, ℕ, zero, suc, Bool, true, false, map, length, take, drop, remove}
use Rattle.std.proofs.Common.{get_or, set, fold, Option, Some, None, IfSome, option_map, Result, Ok, Err, OnOk, OnErr, refl, ap, sym, subst, ◌∙◌, ◌⊎◌, inl, inr}
use Rattle.std.proofs.Common.{arith, if◌then◌else◌, eqb, nat_eq}
use Rattle.std.proofs.lemmas.Bool.{and_parts, and_from, or_left, or_right, eq-eqb, eqb-true, cases_lt, cases_eq}
use Rattle.std.proofs.Math.ListN.{get_or-map}
use Rattle.std.proofs.Math.Seq.{take-add}
use Rattle.std.proofs.lemmas.List.{append-nil, map-append, length-map, length-set, length_push, get_or_push, get_or_append_left, same_from_push, drop-append-le}
use Rattle.std.proofs.lemmas.List.{take-append-le, take-append-drop, take_all, length-append, length-take-le, append_assoc, length-drop, drop-drop}
use Rattle.std.proofs.lemmas.List.{drop-map, drop-take, drop_all, get_or-take, take-take, take-map, set-get_or, set-set, map-set}
use Rattle.std.proofs.lemmas.List.{get_or-set_same, get_or-set_other}
use Rattle.std.proofs.lemmas.List.Folds.{list_any-append, Any-from_list_any}
use Rattle.std.proofs.lemmas.List.Elements.{All-push, All-weaker}
use Rattle.std.proofs.lemmas.Simd.{map-map}
use Rattle.std.specs.List.{list_all, list_any}
use Rattle.ld_class.proofs.Mapped.{list_any-map}
use Rattle.ld_tables.specs.declared.edges.EdgeFact.{EdgeFact}
use Rattle.ld_tables.specs.Inner.Chains.{chain_before}
use Rattle.ld_tables.specs.Inner.Edges.{AreToldTo, same_pair, edge_to, with_edge_fact}
use Rattle.ld_tables.specs.declared.held.Held.{Held}
use Rattle.ld_trace.specs.Events.{PlainLock}
use Rattle.ld_tables.specs.declared.interrupts.Interrupts.{Interrupts}
use Rattle.ld_trace.specs.declared.event.State.{State}
use Rattle.ld_tables.specs.Inner.Interrupts.{IsEntered, IsLeft, fresh, start_now, starts_of}
use Rattle.ld_tables.specs.Inner.Stacks.{PlainHeld, PlainStack, empty_stack, inner, plain_held, holds}
use Rattle.ld_rules.specs.Inner.Scanned.{remove_last}
use Rattle.ld_tables.specs.Inner.Locks.{Hold, HeldByTasks, ChangesInterrupts, is_of, hold_of, holds_of, held_by_tasks, classes_held}
use Rattle.ld_tables.specs.Inner.Locks.{chain_of, chain_up_to, IsChain, IsChainIfAny, IsNumbered, AreChainedBelow, AreChained, AreChainedIn, IsExtended, HasItsEdges, AreTied, Tells}
use Rattle.ld_rules.proofs.OpenLemmas.{remove_last-none}
use Rattle.ld_rules.proofs.RemoveLemmas.{map-remove_last}
use Rattle.ld_rules.proofs.PlaceLemmas.{by_pushes, last_or-push}
use Rattle.ld_rules.proofs.UsageLemmas.{list_all_mono}

-- what is there stays as more are added

with_edge_fact-keeps : (p : EdgeFact → Bool) (edges : List EdgeFact) (edge : EdgeFact) → list_any p edges ≡ true → list_any p (with_edge_fact edges edge) ≡ true
with_edge_fact-keeps p edges edge there = list_any-append p edges (if list_any (same_pair edge) edges then [] else edge ∷ []) ∙ or_left (list_any p edges)
    (list_any p (if list_any (same_pair edge) edges then [] else edge ∷ [])) there

pub told_keeps : (p : EdgeFact → Bool) (edges more : List EdgeFact) → list_any p edges ≡ true → list_any p (fold with_edge_fact edges more) ≡ true
told_keeps p edges [] there = there
told_keeps p edges (edge ∷ more) there = told_keeps p (with_edge_fact edges edge) more (with_edge_fact-keeps p edges edge there)

same_pair-refl : (edge : EdgeFact) → same_pair edge edge ≡ true
same_pair-refl edge = and_from (eqb edge.from edge.from) (eqb edge.to edge.to) (eq-eqb edge.from edge.from refl) (eq-eqb edge.to edge.to refl)

with_edge_fact-has : (edges : List EdgeFact) (edge : EdgeFact) → list_any (same_pair edge) (with_edge_fact edges edge) ≡ true
with_edge_fact-has edges edge = by (list_any (same_pair edge) edges) refl
  where
    by : (b : Bool) → list_any (same_pair edge) edges ≡ b → list_any (same_pair edge) (edges ++ (if b then [] else edge ∷ [])) ≡ true
    by true is = ap (list_any (same_pair edge)) (append-nil edges) ∙ is
    by false is = list_any-append (same_pair edge) edges (edge ∷ []) ∙ or_right (list_any (same_pair edge) edges) (same_pair edge edge || false)
        (or_left (same_pair edge edge) false (same_pair-refl edge))

-- each dependency that is told is there then, whatever its line
pub all_told : (class line : ℕ) (edges : List EdgeFact) (froms : List ℕ) → list_all
    (λ from. list_any (same_pair (edge_to class 0 from)) (fold with_edge_fact edges (map (edge_to class line) froms))) froms ≡ true
all_told class line edges [] = refl
all_told class line edges (from ∷ froms) =
    and_from (list_any (same_pair (edge_to class 0 from)) (fold with_edge_fact (with_edge_fact edges (edge_to class line from))
    (map (edge_to class line) froms))) (list_all
    (λ f. list_any (same_pair (edge_to class 0 f)) (fold with_edge_fact (with_edge_fact edges (edge_to class line from)) (map (edge_to class line) froms))) froms)
    (told_keeps (same_pair (edge_to class 0 from)) (with_edge_fact edges (edge_to class line from)) (map (edge_to class line) froms) (with_edge_fact-has edges (edge_to class line from)))
    (all_told class line (with_edge_fact edges (edge_to class line from)) froms)

-- where all are there, nothing is added
pub none_new : (class line : ℕ) (edges : List EdgeFact) (froms : List ℕ) → list_all (λ from. list_any (same_pair (edge_to class 0 from)) edges)
    froms ≡ true → fold with_edge_fact edges (map (edge_to class line) froms) ≡ edges
none_new class line edges [] all = refl
none_new class line edges (from ∷ froms) all =
    let parts = and_parts (list_any (same_pair (edge_to class 0 from)) edges) (list_all (λ f. list_any (same_pair (edge_to class 0 f)) edges) froms) all in
    ap (λ (b : Bool). fold with_edge_fact (edges ++ (if b then [] else edge_to class line from ∷ [])) (map (edge_to class line) froms)) parts.0
    ∙ ap (λ es. fold with_edge_fact es (map (edge_to class line) froms)) (append-nil edges) ∙ none_new class line edges froms parts.1

-- numbers of chains that stay

pub IsChain-kept : (a b : List (List ℕ)) (n : ℕ) (chain : List ℕ) → IsExtended a b → IsChain a n chain → IsChain b n chain
IsChain-kept a b n chain h is = (let x = h.more in let y = is.0 in omega arith, h.kept n is.0 ∙ is.1)

if_any-kept : (a b : List (List ℕ)) (number : Option ℕ) (chain : List ℕ) → IsExtended a b → IsChainIfAny a number chain → IsChainIfAny b number chain
if_any-kept a b None chain h is = tt
if_any-kept a b (Some n) chain h is = IsChain-kept a b n chain h is

pub AreChainedBelow-kept : (a b : List (List ℕ)) (stack : List PlainHeld) (n : ℕ) → IsExtended a b → AreChainedBelow a stack n → AreChainedBelow b stack n
AreChainedBelow-kept a b stack n h are i d below within = if_any-kept a b (get_or stack i d).chain (take (i + 1) (classes_held stack)) h (are i d below within)

pub HasItsEdges-kept : (a b : List (List ℕ)) (edges : List EdgeFact) (number : ℕ) → IsExtended a b → HasItsEdges a edges number → HasItsEdges b edges number
HasItsEdges-kept a b edges number h is = record {
  known = let x = h.more in let y = is.known in omega arith;
  told = λ froms class last. is.told froms class (sym (h.kept number is.known) ∙ last);
}

-- the chain of a stack

chain_of-push : (stack : List PlainHeld) (held : PlainHeld) → chain_of (stack ++ held ∷ []) ≡ option_map Some held.chain
chain_of-push stack held = ap chain_up_to (last_or-push None stack held)

pub chain_of_is : (chains : List (List ℕ)) (stack : List PlainHeld) → AreChained chains stack → IsNumbered chains stack
chain_of_is chains stack = by_pushes (λ xs. AreChained chains xs → IsNumbered chains xs) (λ _. record { known = tt; chain = refl }) step stack
  where
    known_of : (number : Option ℕ) (chain : List ℕ) → IsChainIfAny chains number chain → IfSome (option_map Some number) (λ before. IfSome before (λ n. n < length chains))
    known_of None chain is = tt
    known_of (Some n) chain is = is.0

    chain_is : (number : Option ℕ) (chain : List ℕ) → IsChainIfAny chains number chain → IfSome (option_map Some number) (λ before. chain_before chains before ≡ chain)
    chain_is None chain is = tt
    chain_is (Some n) chain is = is.1

    step : (xs : List PlainHeld) (x : PlainHeld) → (AreChained chains xs → IsNumbered chains xs) → AreChained chains (xs ++ x ∷ []) → IsNumbered chains (xs ++ x ∷ [])
    step xs x _ are =
        let longer : length xs < length (xs ++ x ∷ []) = omega (arith, length_push xs x) in
        let here : get_or (xs ++ x ∷ []) (length xs) x ≡ x = get_or_push xs x x (length xs) refl in
        let whole : take (length xs + 1) (classes_held (xs ++ x ∷ [])) ≡ classes_held (xs ++ x ∷ []) = take_all (length xs + 1)
        (classes_held (xs ++ x ∷ [])) (omega (arith, length-map (xs ++ x ∷ []) (λ (h : PlainHeld). h.class), length_push xs x)) in
        let at : IsChainIfAny chains x.chain (classes_held (xs ++ x ∷ [])) = subst (IsChainIfAny chains x.chain) whole
        (subst (λ (h : PlainHeld). IsChainIfAny chains h.chain (take (length xs + 1) (classes_held (xs ++ x ∷ [])))) here (are (length xs) x longer longer)) in
        record {
          known = subst (λ o. IfSome o (λ before. IfSome before (λ n. n < length chains))) (sym (chain_of-push xs x)) (known_of x.chain (classes_held (xs ++ x ∷ [])) at);
          chain = subst (λ o. IfSome o (λ before. chain_before chains before ≡ classes_held (xs ++ x ∷ []))) (sym (chain_of-push xs x)) (chain_is x.chain (classes_held (xs ++ x ∷ [])) at);
        }

-- the chain of a stack, as its last lock shows it
pub chain_of_last : (d : Held) (stack : List Held) → 0 < length stack → option_map Some (get_or stack (length stack - 1) d).chain ≡ chain_of (map plain_held stack)
chain_of_last d stack = by_pushes (λ xs. 0 < length xs → option_map Some (get_or xs (length xs - 1) d).chain ≡ chain_of (map plain_held xs)) (λ some. absurd (omega arith)) step stack
  where
    step : (xs : List Held) (x : Held) → (0 < length xs → option_map Some (get_or xs (length xs - 1) d).chain ≡ chain_of (map plain_held xs)) → 0 < length
        (xs ++ x ∷ []) → option_map Some (get_or (xs ++ x ∷ []) (length (xs ++ x ∷ []) - 1) d).chain ≡ chain_of (map plain_held (xs ++ x ∷ []))
    step xs x _ _ =
        let here : get_or (xs ++ x ∷ []) (length (xs ++ x ∷ []) - 1) d ≡ x = get_or_push xs x d (length (xs ++ x ∷ []) - 1) (omega (arith, length_push xs x)) in
        ap (λ (h : Held). option_map Some h.chain) here ∙ sym (ap chain_of (map-append plain_held xs (x ∷ [])) ∙ chain_of-push (map plain_held xs) (plain_held x))

-- a lock with the chain of the stack and its class
pub AreChained-push : (chains : List (List ℕ)) (stack : List PlainHeld) (held : PlainHeld) → AreChained chains stack → IsChainIfAny chains held.chain
    (classes_held stack ++ held.class ∷ []) → AreChained chains (stack ++ held ∷ [])
AreChained-push chains stack held are is i d below within = by (cases_lt i (length stack))
  where
    classes_push : classes_held (stack ++ held ∷ []) ≡ classes_held stack ++ held.class ∷ []
    classes_push = map-append (λ (h : PlainHeld). h.class) stack (held ∷ [])

    many : length (classes_held stack) ≡ length stack
    many = length-map stack (λ (h : PlainHeld). h.class)

    by : (i < length stack) ⊎ (length stack ≤ i) → IsChainIfAny chains (get_or (stack ++ held ∷ []) i d).chain (take (i + 1) (classes_held (stack ++ held ∷ [])))
    by (inl before) =
        let here : get_or stack i d ≡ get_or (stack ++ held ∷ []) i d = sym (get_or_append_left stack (held ∷ []) d i before) in
        let front : take (i + 1) (classes_held stack) ≡ take (i + 1) (classes_held (stack ++ held ∷ [])) = sym
        (ap (take (i + 1)) classes_push ∙ take-append-le (i + 1) (classes_held stack) (held.class ∷ []) (omega (arith, many))) in
        subst (λ (h : PlainHeld). IsChainIfAny chains h.chain (take (i + 1) (classes_held (stack ++ held ∷ [])))) here (subst (λ c. IsChainIfAny chains (get_or stack i d).chain c) front (are i d before before))
    by (inr last) =
        let end : length stack ≡ i = omega (arith, within, last, length_push stack held) in
        let here : held ≡ get_or (stack ++ held ∷ []) i d = sym (get_or_push stack held d i end) in
        let whole : classes_held stack ++ held.class ∷ [] ≡ take (i + 1) (classes_held (stack ++ held ∷ [])) = sym
        (ap (take (i + 1)) classes_push ∙ take_all (i + 1) (classes_held stack ++ held.class ∷ []) (omega (arith, many, end, length_push (classes_held stack) held.class))) in
        subst (λ (h : PlainHeld). IsChainIfAny chains h.chain (take (i + 1) (classes_held (stack ++ held ∷ [])))) here (subst (λ c. IsChainIfAny chains held.chain c) whole is)

-- the bottom of a stack keeps its chains
AreChained-front : (chains : List (List ℕ)) (stack : List PlainHeld) (place : ℕ) → place ≤ length stack → AreChained chains stack → AreChained chains (take place stack)
AreChained-front chains stack place short are i d below within =
    let inside : i < place = omega (arith, within, length-take-le place stack short) in
    let here : get_or (take place stack) i d ≡ get_or stack i d = get_or-take place stack i d inside in
    let classes : take (i + 1) (classes_held (take place stack)) ≡ take (i + 1) (classes_held stack) =
    ap (take (i + 1)) (sym (take-map (λ (h : PlainHeld). h.class) place stack)) ∙ take-take (i + 1) place (classes_held stack) (omega arith) in
    subst (λ c. IsChainIfAny chains (get_or (take place stack) i d).chain c) (sym classes)
    (subst (λ (h : PlainHeld). IsChainIfAny chains h.chain (take (i + 1) (classes_held stack))) (sym here) (are i d (omega arith) (omega arith)))

-- the chains of frames

-- where the locks of the innermost frame begin
abbrev first_start : List ℕ → ℕ
first_start starts = get_or starts 0 0

AreChainedIn-inner : (chains : List (List ℕ)) (stack : List PlainHeld) (starts : List ℕ) → AreChainedIn chains stack starts → AreChained chains (drop (first_start starts) stack)
AreChainedIn-inner chains stack [] are = are
AreChainedIn-inner chains stack (start ∷ starts) are = are.1.0

AreChainedIn-start : (chains : List (List ℕ)) (stack : List PlainHeld) (starts : List ℕ) → AreChainedIn chains stack starts → first_start starts ≤ length stack
AreChainedIn-start chains stack [] are = omega arith
AreChainedIn-start chains stack (start ∷ starts) are = are.0

AreChainedIn-kept : (a b : List (List ℕ)) (stack : List PlainHeld) (starts : List ℕ) → IsExtended a b → AreChainedIn a stack starts → AreChainedIn b stack starts
AreChainedIn-kept a b stack [] h are = AreChainedBelow-kept a b stack (length stack) h are
AreChainedIn-kept a b stack (start ∷ starts) h are = (
  are.0,
  (AreChainedBelow-kept a b (drop start stack) (length (drop start stack)) h are.1.0, AreChainedIn-kept a b (take start stack) starts h are.1.1),
)

AreChainedIn-push : (chains : List (List ℕ)) (stack : List PlainHeld) (held : PlainHeld) (starts : List ℕ) → AreChainedIn chains stack starts →
    IsChainIfAny chains held.chain (classes_held (drop (first_start starts) stack) ++ held.class ∷ []) → AreChainedIn chains (stack ++ held ∷ []) starts
AreChainedIn-push chains stack held [] are is = AreChained-push chains stack held are is
AreChainedIn-push chains stack held (start ∷ starts) are is =
    let short : start ≤ length stack = are.0 in
    let top : drop start (stack ++ held ∷ []) ≡ drop start stack ++ held ∷ [] = drop-append-le start stack (held ∷ []) short in
    let bottom : take start (stack ++ held ∷ []) ≡ take start stack = take-append-le start stack (held ∷ []) short in (
      omega (arith, length_push stack held),
      (
        subst (AreChained chains) (sym top) (AreChained-push chains (drop start stack) held are.1.0 is),
        subst
            (λ xs. AreChainedIn chains xs starts) (sym bottom) are.1.1,
      ),
    )

AreChainedIn-front : (chains : List (List ℕ)) (stack : List PlainHeld) (place : ℕ) (starts : List ℕ) → first_start starts ≤ place → place ≤ length
    stack → AreChainedIn chains stack starts → AreChainedIn chains (take place stack) starts
AreChainedIn-front chains stack place [] low high are = AreChained-front chains stack place high are
AreChainedIn-front chains stack place (start ∷ starts) low high are =
    let many : start + (place - start) ≡ place = omega arith in
    let top : take (place - start) (drop start stack) ≡ drop start (take place stack) = sym (drop-take start (place - start) stack) ∙ ap (λ n. drop start (take n stack)) many in
    let bottom : take start stack ≡ take start (take place stack) = sym (take-take start place stack low) in (
      omega (arith, low, length-take-le place stack high),
      (
        subst (AreChained chains) top (AreChained-front chains (drop start stack) (place - start) (omega (arith, high, length-drop start stack)) are.1.0),
        subst (λ xs. AreChainedIn chains xs starts) bottom are.1.1,
      ),
    )

-- a frame opens at the top
pub AreChainedIn-enter : (chains : List (List ℕ)) (stack : List PlainHeld) (starts : List ℕ) → AreChainedIn chains stack starts → AreChainedIn chains stack (length stack ∷ starts)
AreChainedIn-enter chains stack starts are = (
  omega arith,
  (
    subst (AreChained chains) (sym (drop_all (length stack) stack (omega arith))) (λ i d below within. absurd (omega arith)),
    subst (λ xs. AreChainedIn chains xs starts) (sym (take_all (length stack) stack (omega arith))) are,
  ),
)

-- and closes there
pub AreChainedIn-exit : (chains : List (List ℕ)) (stack : List PlainHeld) (starts : List ℕ) → first_start starts ≡ length stack → AreChainedIn chains
    stack starts → AreChainedIn chains stack (drop 1 starts)
AreChainedIn-exit chains stack [] empty are = are
AreChainedIn-exit chains stack (start ∷ starts) empty are = subst (λ xs. AreChainedIn chains xs starts) (take_all start stack (omega (arith, empty))) are.1.1

-- the whole, as its fields change

get_or_push_same : {X : Type 0} (xs : List X) (d : X) (i : ℕ) → get_or (xs ++ d ∷ []) i d ≡ get_or xs i d
get_or_push_same [] d zero = refl
get_or_push_same [] d (suc i) = refl
get_or_push_same (x ∷ xs) d zero = refl
get_or_push_same (x ∷ xs) d (suc i) = get_or_push_same xs d i

-- what callers see of a task

pub holds_at : (stacks : List PlainStack) (task : ℕ) → get_or (map (λ (s : PlainStack). map hold_of s.held) stacks) task [] ≡ map hold_of (get_or stacks task empty_stack).held
holds_at stacks task = get_or-map (λ (s : PlainStack). map hold_of s.held) stacks task empty_stack

pub interrupts_at : (stacks : List PlainStack) (task : ℕ) → get_or (map (λ (s : PlainStack). s.interrupts) stacks) task fresh ≡ (get_or stacks task empty_stack).interrupts
interrupts_at stacks task = get_or-map (λ (s : PlainStack). s.interrupts) stacks task empty_stack

-- what the task holds in its innermost frame
pub inner_at : (stacks : List PlainStack) (task : ℕ) → drop (start_now (get_or (map (λ (s : PlainStack). s.interrupts) stacks) task fresh))
    (get_or (map (λ (s : PlainStack). map hold_of s.held) stacks) task []) ≡ map hold_of (inner (get_or stacks task empty_stack))
inner_at stacks task =
    (λ i. drop (start_now (interrupts_at stacks task i)) (holds_at stacks task i))
    ∙ drop-map hold_of (start_now (get_or stacks task empty_stack).interrupts) (get_or stacks task empty_stack).held

module _ (stacks : List PlainStack) (chains : List (List ℕ)) (told : List ℕ) (edges : List EdgeFact) (tied : AreTied stacks chains told edges) where
  -- one more task
  pub tied_grown : {E : Type 0} (r : Result (Unit {0}) E) (new : List PlainStack) → OnOk r (new ≡ stacks ++ empty_stack ∷ []) → OnErr r (new ≡ stacks) → AreTied new chains told edges
  tied_grown (Ok u) new grown _ = record {
    chained = λ task. subst (λ (s : PlainStack). AreChainedIn chains s.held (starts_of s.interrupts))
        (sym (ap (λ ss. get_or ss task empty_stack) grown ∙ get_or_push_same stacks empty_stack task)) (tied.chained task);
    complete = tied.complete;
  }
  tied_grown (Err e) new _ refused = subst (λ ss. AreTied ss chains told edges) (sym refused) tied

  -- more dependencies, of which each old one is one
  pub tied_more : (new : List EdgeFact) → ((test : EdgeFact → Bool) → list_any test edges ≡ true → list_any test new ≡ true) → AreTied stacks chains told new
  tied_more new kept = record {
    chained = tied.chained;
    complete = All-weaker (λ number. HasItsEdges chains edges number) (λ number. HasItsEdges chains new number)
        (λ number is. record {
          known = is.known;
          told = λ froms class last. list_all_mono (λ from. list_any (same_pair (edge_to class 0 from)) edges)
              (λ from. list_any (same_pair (edge_to class 0 from)) new) (λ from there. kept (same_pair (edge_to class 0 from)) there)
              froms (is.told froms class last);
        }) told tied.complete;
  }

  -- the innermost frame's locks are there
  pub start_within : (task : ℕ) → start_now (get_or stacks task empty_stack).interrupts ≤ length (get_or stacks task empty_stack).held
  start_within task = AreChainedIn-start chains (get_or stacks task empty_stack).held (starts_of (get_or stacks task empty_stack).interrupts) (tied.chained task)

  -- and their chain's number
  pub numbered : (task : ℕ) → IsNumbered chains (inner (get_or stacks task empty_stack))
  numbered task = chain_of_is chains (inner (get_or stacks task empty_stack)) (AreChainedIn-inner chains (get_or stacks task empty_stack).held
      (starts_of (get_or stacks task empty_stack).interrupts) (tied.chained task))

  -- a chain that was told tells nothing new
  pub known_told : {before : List EdgeFact} (known : HeldByTasks) → held_by_tasks stacks edges before ≡ known → (task class line number : ℕ) →
      get_or chains number [] ≡ classes_held (inner (get_or stacks task empty_stack)) ++ class ∷ [] → list_any (nat_eq number) told ≡ true → known ≡ record known
      { edges = fold with_edge_fact known.edges (map (edge_to class line) (map (λ (h : Hold). h.class) (drop (start_now (get_or known.interrupts task fresh)) (get_or known.stacks task [])))) }
  known_told {before} known is task class line number at there =
      subst (λ (k : HeldByTasks). k ≡ record k {
        edges = fold with_edge_fact k.edges
            (map (edge_to class line) (map (λ (h : Hold). h.class) (drop (start_now (get_or k.interrupts task fresh)) (get_or k.stacks task []))));
      }) is
      (λ i. record (held_by_tasks stacks edges before) { edges = sym all i })
    where
      froms : map (λ (h : Hold). h.class) (drop (start_now (get_or (held_by_tasks stacks edges before).interrupts task fresh))
          (get_or (held_by_tasks stacks edges before).stacks task [])) ≡ classes_held (inner (get_or stacks task empty_stack))
      froms = ap (map (λ (h : Hold). h.class)) (inner_at stacks task) ∙ map-map (λ (h : Hold). h.class) hold_of (inner (get_or stacks task empty_stack))

      is_told : HasItsEdges chains edges number
      is_told =
          let found = Any-from_list_any (nat_eq number) told there in
          subst (HasItsEdges chains edges) (sym (eqb-true number found.1 found.4)) (subst (HasItsEdges chains edges) found.3 (tied.complete found.0 found.1 found.2))

      all : fold with_edge_fact edges (map (edge_to class line) (map (λ (h : Hold). h.class)
          (drop (start_now (get_or (held_by_tasks stacks edges before).interrupts task fresh)) (get_or (held_by_tasks stacks edges before).stacks task [])))) ≡ edges
      all = ap (λ fs. fold with_edge_fact edges (map (edge_to class line) fs)) froms ∙
          none_new class line edges (classes_held (inner (get_or stacks task empty_stack))) (is_told.told (classes_held (inner (get_or stacks task empty_stack))) class at)

  -- one that was told just now
  pub told_now : (froms : List ℕ) (class line number : ℕ) (new : List EdgeFact) → number < length chains → get_or chains number [] ≡ froms ++ class ∷ [] →
      AreToldTo froms class line edges new → HasItsEdges chains new number
  told_now froms class line number new within at is = record {
    known = within;
    told = λ others last same.
        let parts = same_from_push froms others class last (sym at ∙ same) in
        ap (λ fs. list_all (λ from. list_any (same_pair (edge_to last 0 from)) new) fs) (sym parts.0)
        ∙ ap (λ c. list_all (λ from. list_any (same_pair (edge_to c 0 from)) new) froms) (sym parts.1)
        ∙ (λ i. list_all (λ from. sym (is.told (same_pair (edge_to class 0 from))) i) froms)
        ∙ all_told class line edges froms;
  }

  pub tied_told : {E : Type 0} (r : Result (Unit {0}) E) (number : ℕ) (numbers : List ℕ) → HasItsEdges chains edges number →
      OnOk r (numbers ≡ told ++ number ∷ []) → OnErr r (numbers ≡ told) → AreTied stacks chains numbers edges
  tied_told r number numbers here = by r
    where
      by : {E : Type 0} (r : Result (Unit {0}) E) → OnOk r (numbers ≡ told ++ number ∷ []) → OnErr r (numbers ≡ told) → AreTied stacks chains numbers edges
      by (Ok u) noted _ = subst (λ ns. AreTied stacks chains ns edges) (sym noted)
          (record { chained = tied.chained; complete = All-push (λ n. HasItsEdges chains edges n) told number tied.complete here })
      by (Err e) _ refused = subst (λ ns. AreTied stacks chains ns edges) (sym refused) tied

  -- more chains
  pub tied_extended : (more : List (List ℕ)) → IsExtended chains more → AreTied stacks more told edges
  tied_extended more extended = record {
    chained = λ k. AreChainedIn-kept chains more (get_or stacks k empty_stack).held (starts_of (get_or stacks k empty_stack).interrupts) extended (tied.chained k);
    complete = All-weaker (λ number. HasItsEdges chains edges number) (λ number. HasItsEdges more edges number) (λ number is. HasItsEdges-kept chains more edges number extended is) told tied.complete;
  }

  -- another stack of a task
  pub tied_set : (task : ℕ) (stack : PlainStack) → task < length stacks → AreChainedIn chains stack.held (starts_of stack.interrupts) → AreTied (set stacks task stack) chains told edges
  tied_set task stack within are = record {
    chained = λ k. by k (cases_eq k task);
    complete = tied.complete;
  }
    where
      by : (k : ℕ) → (k ≡ task) ⊎ (k ≡ task → ⊥) → AreChainedIn chains (get_or (set stacks task stack) k empty_stack).held (starts_of (get_or (set stacks task stack) k empty_stack).interrupts)
      by k (inl here) = subst (λ (s : PlainStack). AreChainedIn chains s.held (starts_of s.interrupts))
          (sym (ap (λ n. get_or (set stacks task stack) n empty_stack) here ∙ get_or-set_same stacks task stack empty_stack within)) are
      by k (inr other) = subst (λ (s : PlainStack). AreChainedIn chains s.held (starts_of s.interrupts)) (sym (get_or-set_other stacks task k stack empty_stack other)) (tied.chained k)

  -- the task holds less of its innermost frame
  pub tied_cut : (task place : ℕ) → task < length stacks → start_now (get_or stacks task empty_stack).interrupts ≤ place → place ≤ length
      (get_or stacks task empty_stack).held → AreTied (set stacks task (record (get_or stacks task empty_stack) { held = take place (get_or stacks task empty_stack).held })) chains told edges
  tied_cut task place within low high =
      tied_set task (record (get_or stacks task empty_stack) { held = take place (get_or stacks task empty_stack).held }) within
      (AreChainedIn-front chains (get_or stacks task empty_stack).held place (starts_of (get_or stacks task empty_stack).interrupts) low high (tied.chained task))

-- the task holds one more lock, whose chain is that of the innermost frame with its class
pub tied_push : (stacks : List PlainStack) (chains : List (List ℕ)) (told : List ℕ) (edges : List EdgeFact) → AreTied stacks chains told edges →
    (task : ℕ) (held : PlainHeld) → task < length stacks → (more : List (List ℕ)) → IsExtended chains more →
    IsChainIfAny more held.chain (classes_held (inner (get_or stacks task empty_stack)) ++ held.class ∷ []) →
    AreTied (set stacks task (record (get_or stacks task empty_stack) { held = (get_or stacks task empty_stack).held ++ held ∷ [] })) more told edges
tied_push stacks chains told edges tied task held within more extended is =
    let tied_more : AreTied stacks more told edges = tied_extended stacks chains told edges tied more extended in
    tied_set stacks more told edges tied_more task (record (get_or stacks task empty_stack) { held = (get_or stacks task empty_stack).held ++ held ∷ [] }) within
    (AreChainedIn-push more (get_or stacks task empty_stack).held held (starts_of (get_or stacks task empty_stack).interrupts) (tied_more.chained task) is)

-- a waiting acquisition that tells its dependencies, as callers see it
pub told_shown : {E : Type 0} {before after : List EdgeFact} (r : Result (Unit {0}) E) (stacks : List PlainStack) (edges : List EdgeFact) (known : HeldByTasks) (task class line : ℕ)
    (new : List EdgeFact) → held_by_tasks stacks edges before ≡ known → AreToldTo (classes_held (inner (get_or stacks task empty_stack))) class line edges new → after ≡ before → OnOk r
    (Tells (map (λ (h : Hold). h.class) (drop (start_now (get_or known.interrupts task fresh)) (get_or known.stacks task []))) class line known (held_by_tasks stacks new after))
told_shown {E} {before} {after} r stacks edges known task class line new is are same = by r
  where
    froms : map (λ (h : Hold). h.class) (drop (start_now (get_or (held_by_tasks stacks edges before).interrupts task fresh))
        (get_or (held_by_tasks stacks edges before).stacks task [])) ≡ classes_held (inner (get_or stacks task empty_stack))
    froms = ap (map (λ (h : Hold). h.class)) (inner_at stacks task) ∙ map-map (λ (h : Hold). h.class) hold_of (inner (get_or stacks task empty_stack))

    whole : Tells (map (λ (h : Hold). h.class) (drop (start_now (get_or known.interrupts task fresh)) (get_or known.stacks task []))) class line known (held_by_tasks stacks new after)
    whole =
        subst (λ (k : HeldByTasks). Tells (map (λ (h : Hold). h.class) (drop (start_now (get_or k.interrupts task fresh)) (get_or k.stacks task []))) class line k (held_by_tasks stacks new after)) is
        (subst (λ fs. Tells fs class line (held_by_tasks stacks edges before) (held_by_tasks stacks new after)) (sym froms) (record {
          others = (λ i. held_by_tasks stacks new (same i));
          told = are;
        }))

    by : {E : Type 0} (r : Result (Unit {0}) E) → OnOk r
        (Tells (map (λ (h : Hold). h.class) (drop (start_now (get_or known.interrupts task fresh)) (get_or known.stacks task []))) class line known (held_by_tasks stacks new after))
    by (Ok u) = whole
    by (Err e) = tt

-- the number of tasks, as callers see it
pub within_shown : {before : List EdgeFact} (stacks : List PlainStack) (edges : List EdgeFact) (known : HeldByTasks) (task : ℕ) → held_by_tasks stacks edges before ≡ known →
    task < length known.stacks → task < length stacks
within_shown {before} stacks edges known task is within =
    subst (λ n. task < n) (ap (λ (k : HeldByTasks). length k.stacks) (sym is) ∙ length-map stacks (λ (s : PlainStack). map hold_of s.held)) within

-- another stack of a task, as callers see it
pub shown_held : {before : List EdgeFact} (stacks : List PlainStack) (edges : List EdgeFact) (known : HeldByTasks) (task : ℕ) → held_by_tasks stacks edges before ≡ known →
    (held : List PlainHeld) (holding : List Hold) → map hold_of held ≡ holding → held_by_tasks
    (set stacks task (record (get_or stacks task empty_stack) { held = held })) edges before ≡ record known { stacks = set known.stacks task holding }
shown_held {before} stacks edges known task is held holding same =
    subst (λ (k : HeldByTasks). held_by_tasks (set stacks task stack) edges before ≡ record k { stacks = set k.stacks task holding }) is
    (λ i. record { stacks = stacks_are i; interrupts = interrupts_are i; edges = edges; before = before })
  where
    stack : PlainStack
    stack = record (get_or stacks task empty_stack) { held = held }

    stacks_are : map (λ (s : PlainStack). map hold_of s.held) (set stacks task (record (get_or stacks task empty_stack) { held = held })) ≡ set
        (map (λ (s : PlainStack). map hold_of s.held) stacks) task holding
    stacks_are = map-set (λ (s : PlainStack). map hold_of s.held) stacks task (record (get_or stacks task empty_stack) { held = held }) ∙ ap
        (set (map (λ (s : PlainStack). map hold_of s.held) stacks) task) same

    interrupts_are : map (λ (s : PlainStack). s.interrupts) (set stacks task (record (get_or stacks task empty_stack) { held = held })) ≡ map (λ (s : PlainStack). s.interrupts) stacks
    interrupts_are =
        map-set (λ (s : PlainStack). s.interrupts) stacks task (record (get_or stacks task empty_stack) { held = held })
        ∙ ap (set (map (λ (s : PlainStack). s.interrupts) stacks) task) (sym (interrupts_at stacks task))
        ∙ set-get_or (map (λ (s : PlainStack). s.interrupts) stacks) task fresh

-- other frames and flags of a task, as callers see them
pub shown_moved : {before : List EdgeFact} (stacks : List PlainStack) (edges : List EdgeFact) (known : HeldByTasks) (task : ℕ) → held_by_tasks stacks edges before ≡ known →
    (interrupts : Interrupts) → ChangesInterrupts known (held_by_tasks (set stacks task (record (get_or stacks task empty_stack) { interrupts = interrupts })) edges before) task
shown_moved {before} stacks edges known task is interrupts =
    subst (λ (k : HeldByTasks). ChangesInterrupts k (held_by_tasks (set stacks task (record (get_or stacks task empty_stack) { interrupts = interrupts })) edges before) task) is
    (record {
      stacks = stacks_are;
      edges = refl;
      before = refl;
      many = many;
      others = λ k other. ap (λ xs. get_or xs k fresh) interrupts_are ∙ get_or-set_other
          (map (λ (s : PlainStack). s.interrupts) stacks) task k interrupts fresh other;
    })
  where
    stacks_are : map (λ (s : PlainStack). map hold_of s.held) (set stacks task
        (record (get_or stacks task empty_stack) { interrupts = interrupts })) ≡ map (λ (s : PlainStack). map hold_of s.held) stacks
    stacks_are =
        map-set (λ (s : PlainStack). map hold_of s.held) stacks task (record (get_or stacks task empty_stack) { interrupts = interrupts })
        ∙ ap (set (map (λ (s : PlainStack). map hold_of s.held) stacks) task) (sym (holds_at stacks task))
        ∙ set-get_or (map (λ (s : PlainStack). map hold_of s.held) stacks) task []

    interrupts_are : map (λ (s : PlainStack). s.interrupts) (set stacks task (record (get_or stacks task empty_stack) { interrupts = interrupts })) ≡
        set (map (λ (s : PlainStack). s.interrupts) stacks) task interrupts
    interrupts_are = map-set (λ (s : PlainStack). s.interrupts) stacks task (record (get_or stacks task empty_stack) { interrupts = interrupts })

    many : length (map (λ (s : PlainStack). s.interrupts) (set stacks task (record (get_or stacks task empty_stack) { interrupts = interrupts }))) ≡
        length (map (λ (s : PlainStack). s.interrupts) stacks)
    many = ap length interrupts_are ∙ length-set (map (λ (s : PlainStack). s.interrupts) stacks) task interrupts

module _ (stacks : List PlainStack) (task : ℕ) (interrupts : Interrupts) (after : List PlainStack)
    (is : after ≡ set stacks task (record (get_or stacks task empty_stack) { interrupts = interrupts })) where
  -- what the fields say of them
  pub tied_moved : (chains : List (List ℕ)) (told : List ℕ) (edges : List EdgeFact) → AreTied stacks chains told edges → task < length stacks →
      AreChainedIn chains (get_or stacks task empty_stack).held (starts_of interrupts) → AreTied after chains told edges
  tied_moved chains told edges tied within are =
      subst (λ ss. AreTied ss chains told edges) (sym is)
      (tied_set stacks chains told edges tied task (record (get_or stacks task empty_stack) { interrupts = interrupts }) within are)

  pub moved_is : {before : List EdgeFact} (edges : List EdgeFact) (known : HeldByTasks) → held_by_tasks stacks edges before ≡ known → ChangesInterrupts known (held_by_tasks after edges before) task
  moved_is {before} edges known shown = subst (λ ss. ChangesInterrupts known (held_by_tasks ss edges before) task) (sym is) (shown_moved stacks edges known task shown interrupts)

  pub moved_to : task < length stacks → get_or (map (λ (s : PlainStack). s.interrupts) after) task fresh ≡ interrupts
  moved_to within =
      interrupts_at after task
      ∙ ap (λ ss. (get_or ss task empty_stack).interrupts) is
      ∙ ap (λ (s : PlainStack). s.interrupts) (get_or-set_same stacks task (record (get_or stacks task empty_stack) { interrupts = interrupts }) empty_stack within)

pub interrupts_shown : {before : List EdgeFact} (stacks : List PlainStack) (edges : List EdgeFact) (known : HeldByTasks) (task : ℕ) → held_by_tasks stacks edges before ≡ known →
    (get_or stacks task empty_stack).interrupts ≡ get_or known.interrupts task fresh
interrupts_shown {before} stacks edges known task is = sym (interrupts_at stacks task) ∙ ap (λ (k : HeldByTasks). get_or k.interrupts task fresh) is

pub holds_shown : {before : List EdgeFact} (stacks : List PlainStack) (edges : List EdgeFact) (known : HeldByTasks) (task : ℕ) → held_by_tasks stacks edges before ≡ known → map hold_of
    (get_or stacks task empty_stack).held ≡ get_or known.stacks task []
holds_shown {before} stacks edges known task is = sym (holds_at stacks task) ∙ ap (λ (k : HeldByTasks). get_or k.stacks task []) is

-- the locks before and after one of them, as callers see them
pub cut_shown : {before : List EdgeFact} (stacks : List PlainStack) (edges : List EdgeFact) (known : HeldByTasks) (task : ℕ) → held_by_tasks stacks edges before ≡ known → (place : ℕ)
    → map hold_of (take place (get_or stacks task empty_stack).held) ++ map hold_of (drop (suc place) (get_or stacks task empty_stack).held)
    ≡ take place (get_or known.stacks task []) ++ drop (place + 1) (get_or known.stacks task [])
cut_shown stacks edges known task is place =
    let held = (get_or stacks task empty_stack).held in
    let next : suc place ≡ place + 1 = omega arith in
    (λ i. sym (take-map hold_of place held) i ++ sym (drop-map hold_of (suc place) held) i)
    ∙ ap (λ hs. take place hs ++ drop (suc place) hs) (holds_shown stacks edges known task is)
    ∙ ap (λ n. take place (get_or known.stacks task []) ++ drop n (get_or known.stacks task [])) next

-- the locks that a task holds, as callers see them
pub held_shown : {before : List EdgeFact} (stacks : List PlainStack) (edges : List EdgeFact) (known : HeldByTasks) (task : ℕ) → held_by_tasks stacks edges before ≡ known → (held : List Held) →
    map plain_held held ≡ (get_or stacks task empty_stack).held → holds_of held ≡ get_or known.stacks task []
held_shown {before} stacks edges known task is held same = sym (map-map hold_of plain_held held) ∙ ap (map hold_of) same ∙ holds_shown stacks edges known task is

-- what holds of the frames and flags that were read and written, as callers see them
pub shown_as : (R : Interrupts → Interrupts → Type 0) (old before new after : Interrupts) → old ≡ before → after ≡ new → R old new → R before after
shown_as R old before new after was is holds = subst (λ i. R i after) was (subst (λ i. R old i) (sym is) holds)

-- a frame that opens begins at the top
pub chained_entered : (chains : List (List ℕ)) (stack : List PlainHeld) (state : State) (held : List Held) (before old new : Interrupts) → map
    plain_held held ≡ stack → old ≡ before → IsEntered state (length held) old new → AreChainedIn chains stack (starts_of before) → AreChainedIn chains stack (starts_of new)
chained_entered chains stack state held before old new same at is are =
    let many : length held ≡ length stack = sym (length-map held plain_held) ∙ ap length same in
    let starts : length stack ∷ starts_of before ≡ starts_of new = (λ i. sym many i ∷ starts_of (sym at i)) ∙ sym is.starts in
    subst (AreChainedIn chains stack) starts (AreChainedIn-enter chains stack (starts_of before) are)

-- a frame that closes began at the top
pub chained_left : (chains : List (List ℕ)) (stack : List PlainHeld) (before old new : Interrupts) → start_now before ≡ length stack → old ≡ before →
    IsLeft old new → AreChainedIn chains stack (starts_of before) → AreChainedIn chains stack (starts_of new)
chained_left chains stack before old new empty at is are =
    subst (AreChainedIn chains stack) (ap (λ (i : Interrupts). drop 1 (starts_of i)) (sym at) ∙ sym is.starts) (AreChainedIn-exit chains stack (starts_of before) empty are)

-- a stack that is put, and then changed
pub put_again : (old now new : HeldByTasks) (task : ℕ) (stack : List Hold) (change : List Hold → List Hold) → now ≡ record old { stacks = set old.stacks task stack } → new ≡
    record now { stacks = set now.stacks task (change (get_or now.stacks task [])) } → task < length old.stacks → new ≡ record old { stacks = set old.stacks task (change stack) }
put_again old now new task stack change so_far is within =
    is ∙ ap (λ (k : HeldByTasks). record k { stacks = set k.stacks task (change (get_or k.stacks task [])) }) so_far
    ∙ (λ i. record old { stacks = same i })
  where
    same : set (set old.stacks task stack) task (change (get_or (set old.stacks task stack) task [])) ≡ set old.stacks task (change stack)
    same =
        set-set old.stacks task stack (change (get_or (set old.stacks task stack) task []))
        ∙ ap (λ hs. set old.stacks task (change hs)) (get_or-set_same old.stacks task stack [] within)

-- a release

-- a lock is held in the innermost frame, as callers see it
pub any_shown : {before : List EdgeFact} (stacks : List PlainStack) (edges : List EdgeFact) (known : HeldByTasks) (task : ℕ) (lock : PlainLock) → held_by_tasks stacks edges before ≡ known →
    list_any (is_of lock) (drop (start_now (get_or known.interrupts task fresh)) (get_or known.stacks task [])) ≡ list_any (holds lock) (inner (get_or stacks task empty_stack))
any_shown {before} stacks edges known task lock is =
    ap (λ (k : HeldByTasks). list_any (is_of lock) (drop (start_now (get_or k.interrupts task fresh)) (get_or k.stacks task []))) (sym is)
    ∙ ap (list_any (is_of lock)) (inner_at stacks task)
    ∙ list_any-map hold_of (is_of lock) (inner (get_or stacks task empty_stack))

-- what isn't held leaves all as it is
pub none_gone : (known : HeldByTasks) (task start : ℕ) (lock : PlainLock) → list_any (is_of lock) (drop start (get_or known.stacks task [])) ≡ false →
    known ≡ record known { stacks = set known.stacks task (take start (get_or known.stacks task []) ++ remove_last (is_of lock) (drop start (get_or known.stacks task []))) }
none_gone known task start lock none =
    let same : set known.stacks task (take start (get_or known.stacks task []) ++ remove_last (is_of lock) (drop start (get_or known.stacks task []))) ≡ known.stacks =
    ap (λ hs. set known.stacks task (take start (get_or known.stacks task []) ++ hs)) (remove_last-none (is_of lock) (drop start (get_or known.stacks task [])) none)
    ∙ ap (set known.stacks task) (take-append-drop start (get_or known.stacks task [])) ∙ set-get_or known.stacks task [] in
    (λ i. record known { stacks = sym same i })

-- what is taken was there
pub removed_some : (lock : PlainLock) (stack : List PlainHeld) (place : ℕ) → place < length stack → remove stack place ≡ remove_last (holds lock) stack → list_any (holds lock) stack ≡ true
removed_some lock stack place within is = by (list_any (holds lock) stack) refl
  where
    by : (b : Bool) → list_any (holds lock) stack ≡ b → b ≡ true
    by true _ = refl
    by false none =
        let same : remove stack place ≡ stack = is ∙ remove_last-none (holds lock) stack none in
        absurd (omega (arith, within, ap length same, length-append (take place stack) (drop (suc place) stack), length-take-le place stack (omega arith), length-drop (suc place) stack))

-- a stack without one lock of the part from a place on
parts_of : {X : Type 0} (xs : List X) (start place : ℕ) → take (start + place) xs ++ drop (suc (start + place)) xs ≡ take start xs ++ remove (drop start xs) place
parts_of xs start place =
    let next : suc (start + place) ≡ start + suc place = omega arith in
    let rest : drop (suc (start + place)) xs ≡ drop (suc place) (drop start xs) = ap (λ n. drop n xs) next ∙ sym (drop-drop (suc place) start xs) in
    (λ i. take-add start place xs i ++ rest i) ∙ append_assoc (take start xs) (take place (drop start xs)) (drop (suc place) (drop start xs))

-- a stack without the latest acquisition in its innermost frame, as callers see it
pub hold_gone : (lock : PlainLock) (stack : List PlainHeld) (start place : ℕ) → remove (drop start stack) place ≡ remove_last (holds lock)
    (drop start stack) → map hold_of (take (start + place) stack) ++ map hold_of (drop (suc (start + place)) stack) ≡ take start (map hold_of stack)
    ++ remove_last (is_of lock) (drop start (map hold_of stack))
hold_gone lock stack start place is =
    sym (map-append hold_of (take (start + place) stack) (drop (suc (start + place)) stack))
    ∙ ap (map hold_of) (parts_of stack start place)
    ∙ map-append hold_of (take start stack) (remove (drop start stack) place)
    ∙ (λ i. sym (take-map hold_of start stack) i ++ map hold_of (is i))
    ∙ ap (λ hs. take start (map hold_of stack) ++ hs) (map-remove_last hold_of (is_of lock) (drop start stack) ∙ ap (remove_last (is_of lock)) (sym (drop-map hold_of start stack)))

-- the innermost frame's locks as they lie in memory: their classes, and the number of their chain
pub classes_shown : (stack : PlainStack) (held : List Held) → map plain_held held ≡ inner stack → map (λ (h : Held). h.class) held ≡ classes_held (inner stack)
classes_shown stack held same = sym (map-map (λ (h : PlainHeld). h.class) plain_held held) ∙ ap classes_held same

pub numbered_as : (chains : List (List ℕ)) (stack : PlainStack) (held : List Held) → map plain_held held ≡ inner stack → IsNumbered chains (inner stack) →
    IsNumbered chains (map plain_held held)
numbered_as chains stack held same is = subst (IsNumbered chains) (sym same) is
