-- What was found stays exact as edges and bits come.
use Rattle.std.proofs.Common.{option_map, ◌≡◌, ◌↔◌, ◌⊎◌, inl, inr, ◌<◌, ◌++◌, ◌∙◌, [], arith, take-append-drop, MatchOption, List, ℕ, true, false, Option}
use Rattle.std.proofs.Common.{Some, None, is_some, All, Contains, refl, take, drop, get_or, sym, ap, subst}
use Rattle.std.proofs.lemmas.Bool.{true≢false}
use Rattle.std.proofs.lemmas.List.Elements.{All-contains, Contains-append_cases, Contains-append_left}
use Rattle.ld_class.specs.Names.{PlainClass, no_class}
use Rattle.ld_class.specs.declared.usage.Usage.{Usage}
use Rattle.ld_graph.specs.declared.Edge.{Edge}
use Rattle.ld_graph.specs.Edges.{IsEdge, edge}
use Rattle.ld_graph.specs.Walks.{HasWalk}
use Rattle.ld_graph.proofs.WalkLemmas.{IsWalk-same}
use Rattle.ld_trace.specs.declared.event.State.{State}
use Rattle.ld_rules.specs.Usage.{Bit, usage_of}
use Rattle.ld_rules.specs.Usage.Bit.{In, On}
use Rattle.ld_union.specs.declared.alarms.Forbidden.{Forbidden}
use Rattle.ld_union.specs.declared.alarms.Found.{Found}
use Rattle.ld_union.specs.Alarms.{AreExact, IsExact}
use Rattle.ld_union.specs.Inner.Union.{IsCycleAt, PlainUnion, edges_of}
use Rattle.ld_union.specs.Inner.Numbers.{AreFound, BitsGrow, EdgesGrow, IsConflictAt, IsForbiddenAt, named_alarms, named_pair}
use Rattle.ld_union.specs.Inner.Rows.{IsOfEach}
use Rattle.ld_union.specs.Violations.{IsConflict, IsCycle, IsForbidden}
use Rattle.ld_trace.specs.Sources.{PlainSource}
use Rattle.ld_union.specs.declared.delta.NewBit.{NewBit}
use Rattle.ld_union.specs.Inner.Bits.{HasBitAt, new_bit}
use Rattle.ld_union.specs.Inner.Delta.{PlainDelta, Tells, TellsBits}
use Rattle.ld_union.specs.Inner.Reached.{IsSourceAt}
use Rattle.ld_union.specs.Inner.States.{of_state}
use Rattle.ld_union.specs.Usage.{bits_of}
use Rattle.ld_union.proofs.DeltaLemmas.{row_within}
use Rattle.ld_union.proofs.ReachedLemmas.{bit_cases}

module _ {A : Type 0} (P Q : A → Type 0) (kept : (x : A) → P x → Q x) (found : Option A) (exact : IsExact P found) where
  -- one that was found stays
  pub stays : is_some found ≡ true → IsExact Q found
  stays = by found exact
    where
      by : (o : Option A) → IsExact P o → is_some o ≡ true → IsExact Q o
      by None none there = absurd (true≢false (sym there))
      by (Some x) is there = kept x is

walk_kept : (old new : List Edge) → EdgesGrow old new → (a b : ℕ) → HasWalk (IsEdge old) a b → HasWalk (IsEdge new) a b
walk_kept old new kept a b walk = (walk.0, IsWalk-same (IsEdge old) (IsEdge new) kept a b walk.0 walk.1)

module _ (state : State) (usage more : List Usage) (bits : BitsGrow usage more) where
  pub conflict_kept : (c : ℕ) → IsConflictAt usage state c → IsConflictAt more state c
  conflict_kept c conflict = (bits c (In state) conflict.0, bits c (On state) conflict.1)

  pub forbidden_kept : (edges all : List Edge) → EdgesGrow edges all → (w : Forbidden) → IsForbiddenAt edges usage state w.from w.to → IsForbiddenAt all more state w.from w.to
  forbidden_kept edges all grow w walk = (bits w.from (In state) walk.0, (bits w.to (On state) walk.1.0, walk_kept edges all grow w.from w.to walk.1.1))

-- edges that stand in front are still there
pub edges_kept : (old new : List Edge) (n : ℕ) → take n new ≡ old → EdgesGrow old new
edges_kept old new n front a b there =
    subst (λ all. IsEdge all a b) (ap (λ es. es ++ drop n new) (sym front) ∙ take-append-drop n new) (Contains-append_left old (drop n new) (edge a b) there)

module _ (usage more : List Usage) (told : List NewBit) (tells : TellsBits usage more told) where
  -- a conflict that was looked for at the bits that came
  pub conflict_looked : (state : State) (before : Option ℕ) → is_some before ≡ false → IsExact (IsConflictAt usage state) before
      → (found : Option ℕ) → MatchOption found (All (λ (t : NewBit). ¬ IsConflictAt more state t.class) told) (IsConflictAt more state) → IsExact (IsConflictAt more state) found
  conflict_looked state (Some c) absent exact found here = absurd (true≢false absent)
  conflict_looked state None absent exact (Some c) here = here
  conflict_looked state None absent exact None here = λ any. by any.0 any.1 (bit_cases usage any.0 (In state)) (bit_cases usage any.0 (On state))
    where
      at_new : (c : ℕ) (bit : Bit) → IsConflictAt more state c → HasBitAt more c bit → ¬ HasBitAt usage c bit → ⊥
      at_new c bit conflict has new = All-contains (λ (t : NewBit). ¬ IsConflictAt more state t.class) told (new_bit c bit) here (tells.all c bit has new) conflict

      by : (c : ℕ) → IsConflictAt more state c → HasBitAt usage c (In state) ⊎ (¬ HasBitAt usage c (In state))
          → HasBitAt usage c (On state) ⊎ (¬ HasBitAt usage c (On state)) → ⊥
      by c conflict (inl acquired) (inl held) = exact (c, (acquired, held))
      by c conflict (inl acquired) (inr new) = at_new c (On state) conflict conflict.1 new
      by c conflict (inr new) held = at_new c (In state) conflict conflict.0 new

-- a forbidden walk that was looked for at the classes that were reached since, and at the bits that came
module _ (old new : PlainUnion) (delta : PlainDelta) (tells : Tells old new delta) (state : State)
    (each : (class : ℕ) → Contains (of_state new.reached state) class ↔ ((from : ℕ) × IsSourceAt (edges_of new.dependencies) (bits_of new.usage) state class from)) where
  abbrev WasOne : Forbidden → Type 0
  WasOne w = IsForbiddenAt (edges_of old.dependencies) (bits_of old.usage) state w.from w.to

  abbrev IsOne : Forbidden → Type 0
  IsOne w = IsForbiddenAt (edges_of new.dependencies) (bits_of new.usage) state w.from w.to

  abbrev NoneTo : ℕ → Type 0
  NoneTo class = (from : ℕ) → ¬ IsForbiddenAt (edges_of new.dependencies) (bits_of new.usage) state from class

  no_walk : (¬ ((w : Forbidden) × WasOne w)) → All NoneTo (drop (of_state delta.first_reached state) (of_state new.reached state))
      → All (λ (t : NewBit). t.bit ≡ usage_of (On state) → NoneTo t.class) delta.bits → (walk : Forbidden) → ¬ IsOne walk
  no_walk none reached held walk is = by (bit_cases (bits_of old.usage) walk.to (On state))
    where
      count : ℕ
      count = of_state delta.first_reached state

      now : List ℕ
      now = of_state new.reached state

      there : Contains now walk.to
      there = (each walk.to).1 (walk.from, (is.0, is.1.1))

      before : HasBitAt (bits_of old.usage) walk.to (On state) → Contains (take count now) walk.to ⊎ Contains (drop count now) walk.to → ⊥
      before held_before (inl known) =
          let source = tells.from state walk.to (subst (λ all. Contains all walk.to) (tells.still state) known) in
          none (record { from = source.0; to = walk.to }, (source.1.0, (held_before, source.1.1)))
      before held_before (inr since) = All-contains NoneTo (drop count now) walk.to reached since walk.from is

      by : HasBitAt (bits_of old.usage) walk.to (On state) ⊎ (¬ HasBitAt (bits_of old.usage) walk.to (On state)) → ⊥
      by (inl held_before) =
          before held_before (Contains-append_cases (take count now) (drop count now) walk.to (subst (λ all. Contains all walk.to) (sym (take-append-drop count now)) there))
      by (inr unheld) =
          All-contains (λ (t : NewBit). t.bit ≡ usage_of (On state) → NoneTo t.class) delta.bits (new_bit walk.to (On state)) held
          (tells.bits.all walk.to (On state) is.1.0 unheld) refl walk.from is

  pub forbidden_looked : (before found : Option Forbidden) → is_some before ≡ false → IsExact WasOne before
      → All NoneTo (drop (of_state delta.first_reached state) (of_state new.reached state))
      → MatchOption found (All (λ (t : NewBit). t.bit ≡ usage_of (On state) → NoneTo t.class) delta.bits) IsOne → IsExact IsOne found
  forbidden_looked (Some w) found absent was reached held = absurd (true≢false absent)
  forbidden_looked None (Some w) absent was reached held = held
  forbidden_looked None None absent was reached held = λ any. no_walk was reached held any.0 any.1

-- no classes have nothing
pub nothing_found : (found : Found) → found.cycle ≡ None → ((state : State) → of_state found.conflict state ≡ None) →
    ((state : State) → of_state found.forbidden state ≡ None) → AreFound [] [] found
nothing_found found cycle conflict forbidden = record {
  cycle = subst (IsExact (IsCycleAt [])) (sym cycle) (λ any. no_edge any.0.from any.0.to any.1.0);
  conflict = λ state. subst (IsExact (IsConflictAt [] state)) (sym (conflict state)) (λ any. bit_of_none any.0 (In state) any.1.0);
  forbidden = λ state. subst (IsExact (λ (f : Forbidden). IsForbiddenAt [] [] state f.from f.to)) (sym (forbidden state)) (λ any. bit_of_none any.0.from (In state) any.1.0);
}
  where
    no_edge : (a b : ℕ) → IsEdge [] a b → ⊥
    no_edge a b there = let past : there.0 < 0 = there.1 in omega (arith, past)

    bit_of_none : (c : ℕ) (bit : Bit) → HasBitAt [] c bit → ⊥
    bit_of_none c bit has = let past : c < 0 = row_within [] c bit has in omega (arith, past)

-- where nothing of a kind was found, exact alarms say that there is none
pub of_each_from_exact : (sources : List PlainSource) (classes : List PlainClass) (found : Found) → AreExact sources (named_alarms classes found) → IsOfEach sources found
of_each_from_exact sources classes found exact = record {
  cycle = λ none a b cycle. subst
      (λ o. IsExact {A = PlainClass × PlainClass} (λ p. IsCycle sources p.0 p.1) (option_map (λ (e : Edge). named_pair classes e.from e.to) o)) none exact.cycle ((a, b), cycle);
  conflict = λ state none class conflict. subst (λ o. IsExact (IsConflict sources state) (option_map (λ c. get_or classes c no_class) o)) none (exact.conflict state) (class, conflict);
  forbidden = λ state none a b walk. subst (λ o. IsExact {A = PlainClass × PlainClass} (λ p. IsForbidden sources state p.0 p.1)
      (option_map (λ (f : Forbidden). named_pair classes f.from f.to) o)) none (exact.forbidden state) ((a, b), walk);
}
