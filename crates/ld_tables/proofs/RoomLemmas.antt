-- While there is no task, and nothing was told, there is room.
use Rattle.std.proofs.Common.{◌≡◌, ◌<◌, ◌∷◌, [], ◌++◌, List, ℕ, Result, Ok, Err, OnOk, OnErr, length, take, set, ap, sym, subst, ◌∙◌, arith}
use Rattle.std.proofs.lemmas.List.{length-set, length_push, take_all}
use Rattle.std.specs.List.{All}
use Rattle.ld_tables.specs.declared.edges.EdgeFact.{EdgeFact}
use Rattle.ld_tables.specs.declared.locks.LocksStart.{LocksStart}
use Rattle.ld_tables.specs.declared.masks.NewEdges.{NewEdges}
use Rattle.ld_tables.specs.Inner.Chains.{KeptChains, chains_of}
use Rattle.ld_tables.specs.Inner.Edges.{edges_of}
use Rattle.ld_tables.specs.Inner.Stacks.{PlainStack, empty_stack}
use Rattle.ld_tables.specs.Inner.Locks.{HasItsEdges, HeldByTasks, IsAtStart, held_by_tasks}
use Rattle.ld_tables.proofs.LockLemmas.{within_shown}

-- a call about a task: there is one
pub some_task : {A : Type 0} {before : List EdgeFact} (stacks : List PlainStack) (edges : List EdgeFact) (known : HeldByTasks) (task : ℕ) → held_by_tasks stacks edges before ≡ known →
    task < length known.stacks → stacks ≡ [] → A
some_task stacks edges known task is within none =
    let inside : task < length stacks = within_shown stacks edges known task is within in absurd (omega (arith, ap length none))

-- and it is still there with another stack
pub some_task_then : {A : Type 0} {before : List EdgeFact} (stacks : List PlainStack) (edges : List EdgeFact) (known : HeldByTasks) (task : ℕ) → held_by_tasks stacks edges before ≡ known →
    task < length known.stacks → (after : List PlainStack) (stack : PlainStack) → after ≡ set stacks task stack → after ≡ [] → A
some_task_then stacks edges known task is within after stack put none =
    let inside : task < length stacks = within_shown stacks edges known task is within in
    absurd (omega (arith, ap length put, length-set stacks task stack, ap length none))

-- one more task, if there was memory
pub room_grown : {A E : Type 0} (r : Result (Unit {0}) E) (stacks after : List PlainStack) → OnOk r (after ≡ stacks ++ empty_stack ∷ []) → OnErr r (after ≡ stacks) → (stacks ≡ [] → A) → after ≡ [] → A
room_grown (Ok u) stacks after grown _ _ none = absurd (omega (arith, length_push stacks empty_stack, ap length (sym grown ∙ none)))
room_grown (Err e) stacks after _ refused was none = was (sym refused ∙ none)

-- the chains stay where a chain was told
module _ (old new : KeptChains) (told : List ℕ) (same : 0 < length told → new ≡ old) where
  told_none : (P : List (List ℕ) → ℕ → Type 0) (count : ℕ) (those : List ℕ) → (0 < length those → new ≡ old) → All (P (chains_of old.links)) (take count those) →
      All (P (chains_of new.links)) (take count those)
  told_none P count [] alike are = subst (All (P (chains_of new.links))) (sym (take_all count [] (omega arith))) (λ k d within. absurd (omega arith))
  told_none P count (n ∷ ns) alike are = subst (λ (k : KeptChains). All (P (chains_of k.links)) (take count (n ∷ ns))) (sym (alike (omega arith))) are

  pub complete_then : (edges : List EdgeFact) → All (λ number. HasItsEdges (chains_of old.links) edges number) told → All (λ number. HasItsEdges (chains_of new.links) edges number) told
  complete_then edges are =
      let all = take_all (length told) told (omega arith) in
      subst (All (λ number. HasItsEdges (chains_of new.links) edges number)) all
      (told_none (λ chains number. HasItsEdges chains edges number) (length told) told same (subst (All (λ number. HasItsEdges (chains_of old.links) edges number)) (sym all) are))

  pub start_then : (before : LocksStart) (tellings : List NewEdges) → IsAtStart before (chains_of old.links) told tellings → IsAtStart before (chains_of new.links) told tellings
  start_then before tellings is = record {
    edges_within = is.edges_within;
    told_within = is.told_within;
    complete = told_none (λ chains number. HasItsEdges chains (edges_of (take before.edges tellings)) number) before.told told same is.complete;
  }
