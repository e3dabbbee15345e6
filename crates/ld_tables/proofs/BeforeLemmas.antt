-- What was there when a trace began, as its events add to it.
use Rattle.std.proofs.Common.{◌≡◌, ◌<◌, ◌∷◌, [], ◌++◌, List, ℕ, Result, Ok, Err, OnOk, OnErr, length, take, ap, sym, subst, ◌∙◌, arith}
use Rattle.std.proofs.lemmas.List.{length-take, length-take-le, length_push, take-append-le, take-take, take_all}
use Rattle.std.proofs.lemmas.List.Elements.{All-weaker}
use Rattle.std.specs.List.{All}
use Rattle.ld_tables.specs.declared.edges.EdgeFact.{EdgeFact}
use Rattle.ld_tables.specs.declared.locks.LocksStart.{LocksStart}
use Rattle.ld_tables.specs.declared.masks.NewEdges.{NewEdges}
use Rattle.ld_tables.specs.Inner.Chains.{KeptChains, chains_of}
use Rattle.ld_tables.specs.Inner.Edges.{KeptEdges, edges_of}
use Rattle.ld_tables.specs.Inner.Stacks.{PlainStack}
use Rattle.ld_tables.specs.Inner.Locks.{AreTied, HasItsEdges, HasItsMasks, IsAtStart, IsExtended, IsKept, IsRoomy, held_by_tasks}
use Rattle.ld_tables.proofs.LockLemmas.{HasItsEdges-kept}
use Rattle.ld_tables.proofs.RoomLemmas.{complete_then, start_then}

module _ (before : LocksStart) (chains : List (List ℕ)) (told : List ℕ) (tellings : List NewEdges) (is : IsAtStart before chains told tellings) where
  -- more that is told, behind what is there
  pub before_same : (new : List NewEdges) → take (length tellings) new ≡ tellings → take before.edges new ≡ take before.edges tellings
  before_same new first = sym (take-take before.edges (length tellings) new is.edges_within) ∙ ap (take before.edges) first

  pub before_more : (new : List NewEdges) → take (length tellings) new ≡ tellings → IsAtStart before chains told new
  before_more new first = record {
    edges_within = let within = is.edges_within in omega (arith, length-take (length tellings) new, ap length first);
    told_within = is.told_within;
    complete = subst (λ ts. All (λ number. HasItsEdges chains (edges_of ts) number) (take before.told told)) (sym (before_same new first)) is.complete;
  }

  -- more chains
  pub before_extended : (more : List (List ℕ)) → IsExtended chains more → IsAtStart before more told tellings
  before_extended more extended = record {
    edges_within = is.edges_within;
    told_within = is.told_within;
    complete = All-weaker (λ number. HasItsEdges chains (edges_of (take before.edges tellings)) number) (λ number. HasItsEdges more (edges_of (take before.edges tellings)) number)
        (λ number has. HasItsEdges-kept chains more (edges_of (take before.edges tellings)) number extended has) (take before.told told) is.complete;
  }

  -- one more that was told
  pub before_told : {E : Type 0} (r : Result (Unit {0}) E) (number : ℕ) (numbers : List ℕ) → OnOk r (numbers ≡ told ++ number ∷ []) → OnErr r
      (numbers ≡ told) → IsAtStart before chains numbers tellings
  before_told r number numbers = by r
    where
      by : {E : Type 0} (r : Result (Unit {0}) E) → OnOk r (numbers ≡ told ++ number ∷ []) → OnErr r (numbers ≡ told) → IsAtStart before chains numbers tellings
      by (Ok u) noted _ = subst (λ ns. IsAtStart before chains ns tellings) (sym noted) (record {
        edges_within = is.edges_within;
        told_within = let within = is.told_within in omega (arith, length_push told number);
        complete = subst (λ ns. All (λ n. HasItsEdges chains (edges_of (take before.edges tellings)) n) ns) (sym (take-append-le before.told told (number ∷ []) is.told_within)) is.complete;
      })
      by (Err e) _ refused = subst (λ ns. IsAtStart before chains ns tellings) (sym refused) is

  -- what came since is taken back
  pub before_again : IsAtStart before chains (take before.told told) (take before.edges tellings)
  before_again = record {
    edges_within = omega (arith, length-take-le before.edges tellings is.edges_within);
    told_within = omega (arith, length-take-le before.told told is.told_within);
    complete =
        (subst (λ ts. All (λ number. HasItsEdges chains (edges_of ts) number) (take before.told (take before.told told))) (sym (take-take before.edges before.edges tellings (omega arith)))
        (subst (λ ls. All (λ number. HasItsEdges chains (edges_of (take before.edges tellings)) number) ls) (sym (take-take before.told before.told told (omega arith))) is.complete));
  }

-- no task
pub tied_none : (chains : List (List ℕ)) (told : List ℕ) (edges : List EdgeFact) → All (λ number. HasItsEdges chains edges number) told → AreTied [] chains told edges
tied_none chains told edges complete = record {
  chained = λ task i d below within. absurd (omega arith);
  complete = complete;
}

-- what came since is taken back, and room is made where nothing is left
pub undone : (before : LocksStart) (chains : KeptChains) (told : List ℕ) (edges : KeptEdges) → IsAtStart before (chains_of chains.links) told edges.tellings →
    HasItsMasks (chains_of chains.links) chains.masks edges.words → (stacks : List PlainStack) (numbers : List ℕ) (left : KeptEdges) → stacks ≡ [] →
    numbers ≡ take before.told told → left ≡ record edges { tellings = take before.edges edges.tellings } → (now : KeptChains) (last : KeptEdges) → (0 < length numbers → now ≡ chains) →
    last.tellings ≡ left.tellings → (HasItsMasks (chains_of chains.links) chains.masks left.words → HasItsMasks (chains_of now.links) now.masks last.words) →
    (numbers ≡ [] → left.tellings ≡ [] → IsRoomy now last) → IsKept stacks now numbers last before
undone before chains told edges is masked stacks numbers left none numbers_are left_is now last alike same masks roomy = record {
  tied =
      subst (λ ss. AreTied ss (chains_of now.links) numbers (edges_of last.tellings)) (sym none)
      (tied_none (chains_of now.links) numbers (edges_of last.tellings) (complete_then chains now numbers alike (edges_of last.tellings) complete));
  start = start_then chains now numbers alike before last.tellings start;
  masked = masks (subst (HasItsMasks (chains_of chains.links) chains.masks) (sym (ap (λ (k : KeptEdges). k.words) left_is)) masked);
  room = λ _ untold empty. roomy untold (sym same ∙ empty);
}
  where
    left_at : last.tellings ≡ take before.edges edges.tellings
    left_at = same ∙ ap (λ (k : KeptEdges). k.tellings) left_is

    start : IsAtStart before (chains_of chains.links) numbers last.tellings
    start =
        subst (λ ns. IsAtStart before (chains_of chains.links) ns last.tellings) (sym numbers_are)
        (subst (λ ts. IsAtStart before (chains_of chains.links) (take before.told told) ts) (sym left_at) (before_again before (chains_of chains.links) told edges.tellings is))

    complete : All (λ number. HasItsEdges (chains_of chains.links) (edges_of last.tellings) number) numbers
    complete =
        subst (All (λ number. HasItsEdges (chains_of chains.links) (edges_of last.tellings) number)) (sym numbers_are)
        (subst (λ ts. All (λ number. HasItsEdges (chains_of chains.links) (edges_of ts) number) (take before.told told)) (sym left_at) is.complete)

-- a trace begins here
pub before_now : (chains : List (List ℕ)) (told : List ℕ) (tellings : List NewEdges) → All (λ number. HasItsEdges chains (edges_of tellings) number) told → (before : LocksStart) →
    before.edges ≡ length tellings → before.told ≡ length told → IsAtStart before chains told tellings
before_now chains told tellings complete before all_edges all_told = record {
  edges_within = omega arith;
  told_within = omega arith;
  complete =
      subst (λ ts. All (λ number. HasItsEdges chains (edges_of ts) number) (take before.told told)) (sym (take_all before.edges tellings (omega arith)))
      (subst (λ ls. All (λ number. HasItsEdges chains (edges_of tellings) number) ls) (sym (take_all before.told told (omega arith))) complete);
}

-- no task, as callers see it
pub none_shown : (stacks : List PlainStack) (edges before seen seen_before : List EdgeFact) → stacks ≡ [] → edges ≡ seen → before ≡ seen_before → held_by_tasks
    stacks edges before ≡ record { stacks = []; interrupts = []; edges = seen; before = seen_before }
none_shown stacks edges before seen seen_before none same begins = (λ i. held_by_tasks (none i) (same i) (begins i))
