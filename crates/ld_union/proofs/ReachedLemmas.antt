-- What is reached, as edges, classes and bits come.
use Rattle.std.proofs.Common.{◌≡◌, ◌≢◌, ◌↔◌, ◌⊎◌, inl, inr, ◌+◌, ◌++◌, ◌∷◌, ◌∙◌, [], List, ℕ, Bool, true, false, count_by, Option, None, Some, is_some, MatchOption, Contains}
use Rattle.std.proofs.Common.{length, take, get_or, refl, sym, ap, subst, arith}
use Rattle.std.proofs.lemmas.Bool.{true≢false}
use Rattle.std.proofs.lemmas.List.{length-take, length_push, take-take}
use Rattle.std.proofs.lemmas.List.Elements.{Contains-append_left, Contains-push, Contains-push_cases}
use Rattle.std.proofs.Math.Seq.{take-length}
use Rattle.ld_class.specs.Names.{PlainClass}
use Rattle.ld_class.specs.declared.usage.Usage.{Usage}
use Rattle.ld_class.specs.Usage.{has_bit, no_bits}
use Rattle.ld_graph.specs.declared.Edge.{Edge}
use Rattle.ld_graph.specs.Edges.{IsEdge, PlainGraph, with_spares}
use Rattle.ld_graph.specs.Reach.{IsReach, IsSource, PlainReach, mark_of, source_of, with_unreached}
use Rattle.ld_trace.specs.declared.event.State.{State}
use Rattle.ld_trace.specs.declared.event.State.TheVariants.{Hard, Soft}
use Rattle.ld_rules.specs.Usage.{Bit, bit_of, usage_of}
use Rattle.ld_rules.specs.Usage.Bit.{In}
use Rattle.ld_union.specs.declared.delta.NewBit.{NewBit}
use Rattle.ld_union.specs.declared.dependencies.Witnessed.{Witnessed}
use Rattle.ld_union.specs.declared.reaches.PerState.{PerState}
use Rattle.ld_union.specs.declared.usage.UsageRow.{UsageRow}
use Rattle.ld_union.specs.Inner.Bits.{HasBitAt, new_bit}
use Rattle.ld_union.specs.Inner.Delta.{TellsBits}
use Rattle.ld_union.specs.Inner.Reached.{AreFurther, ExpandsOnce, HaveClasses, IsFurther, IsReachOf, IsSeeded, IsSourceAt, StayExact, expanded_by, marks_by, reached_by}
use Rattle.ld_union.specs.Inner.States.{of_state}
use Rattle.ld_union.specs.Inner.Union.{IsUnion, edges_of}
use Rattle.ld_union.specs.Usage.{bits_of}

-- of three lists the first stands in front of the third
pub front-then : {X : Type 0} (old mid new : List X) → take (length old) mid ≡ old → take (length mid) new ≡ mid → take (length old) new ≡ old
front-then old mid new first next =
    sym (take-take (length old) (length mid) new (omega (arith, ap length first, length-take (length old) mid)))
    ∙ ap (take (length old)) next
    ∙ first

pub further-same : (reach : PerState PlainReach) → AreFurther reach reach
further-same reach state = record { front = take-length (of_state reach state).reached; stays = λ class on. on }

-- of one state
further-spare : (old new : PlainReach) → new ≡ record old { spare = new.spare } → IsFurther old new
further-spare old new same = record {
  front = ap (λ (r : PlainReach). take (length old.reached) r.reached) same ∙ take-length old.reached;
  stays = λ class on. ap (λ (r : PlainReach). mark_of r class) same ∙ on;
}

further-unreached : (old new : PlainReach) → new ≡ with_unreached old → ((x : ℕ) → mark_of old x ≡ true → mark_of new x ≡ true) → IsFurther old new
further-unreached old new same stays = record {
  front = ap (λ (r : PlainReach). take (length old.reached) r.reached) same ∙ take-length old.reached;
  stays = stays;
}

-- other spares alone
pub further-spares : (old new : PerState PlainReach) → new.hard ≡ record old.hard { spare = new.hard.spare } → new.soft ≡ record old.soft { spare = new.soft.spare } → AreFurther old new
further-spares old new hard soft Hard = further-spare old.hard new.hard hard
further-spares old new hard soft Soft = further-spare old.soft new.soft soft

-- one more class
pub further-class : (old new : PerState PlainReach) → new.hard ≡ with_unreached old.hard → new.soft ≡ with_unreached old.soft
    → ((x : ℕ) → mark_of old.hard x ≡ true → mark_of new.hard x ≡ true) → ((x : ℕ) → mark_of old.soft x ≡ true → mark_of new.soft x ≡ true) → AreFurther old new
further-class old new hard soft hard_stays soft_stays Hard = further-unreached old.hard new.hard hard hard_stays
further-class old new hard soft hard_stays soft_stays Soft = further-unreached old.soft new.soft soft soft_stays

pub further-then : (old mid new : PerState PlainReach) → AreFurther old mid → AreFurther mid new → AreFurther old new
further-then old mid new first next state = record {
  front = front-then (of_state old state).reached (of_state mid state).reached (of_state new state).reached (first state).front (next state).front;
  stays = λ class on. (next state).stays class ((first state).stays class on);
}

-- the marks of a state, by both ways to say it
pub marks_at : (reach : PerState PlainReach) (state : State) → of_state (marks_by reach) state ≡ (of_state reach state).marks
marks_at reach Hard = refl
marks_at reach Soft = refl

pub expanded_at : (reach : PerState PlainReach) (state : State) → of_state (expanded_by reach) state ≡ (of_state reach state).expanded
expanded_at reach Hard = refl
expanded_at reach Soft = refl

-- what a state has reached, by both ways to say it
pub reached_at : (reach : PerState PlainReach) (state : State) → of_state (reached_by reach) state ≡ (of_state reach state).reached
reached_at reach Hard = refl
reached_at reach Soft = refl

-- other spares, and one more class, of one state
pub once-spare : (count : ℕ) (old new : PlainReach) → new ≡ record old { spare = new.spare } → new.expanded ≡ count_by (λ mark. mark) new.marks → ExpandsOnce count old → ExpandsOnce count new
once-spare count old new same each is = record { count = ap (λ (r : PlainReach). length r.marks) same ∙ is.count; each = each }

pub once-unreached : (count : ℕ) (old new : PlainReach) → new ≡ with_unreached old → new.expanded ≡ count_by (λ mark. mark) new.marks → ExpandsOnce count old → ExpandsOnce (count + 1) new
once-unreached count old new same each is = record {
  count = ap (λ (r : PlainReach). length r.marks) same ∙ length_push old.marks false ∙ ap (λ n. n + 1) is.count;
  each = each;
}

-- whether a class has a bit
pub bit_cases : (usage : List Usage) (c : ℕ) (bit : Bit) → HasBitAt usage c bit ⊎ (¬ HasBitAt usage c bit)
bit_cases usage c bit = by (has_bit (get_or usage c no_bits) (usage_of bit)) refl
  where
    by : (b : Bool) → has_bit (get_or usage c no_bits) (usage_of bit) ≡ b → HasBitAt usage c bit ⊎ (¬ HasBitAt usage c bit)
    by true is = inl is
    by false is = inr (λ has. true≢false (sym has ∙ is))

in_bit : (state : State) → bit_of (usage_of (In state)) ≡ In state
in_bit Hard = refl
in_bit Soft = refl

-- one more bit is told
module _ (edges : List Edge) (before : List ℕ) (state : State) (told : List NewBit) (last : NewBit) where
  -- it is the one that handlers of the state acquire its class, which is a seed now
  pub seeded-seed : (old new : PlainReach) → last.bit ≡ usage_of (In state)
      → ((seeds : List ℕ) → IsReach (IsEdge edges) seeds old → IsReach (IsEdge edges) (seeds ++ last.class ∷ []) new)
      → IsSeeded edges before state told old → IsSeeded edges before state (told ++ last ∷ []) new
  seeded-seed old new acquired exact is = record {
    seeds = is.seeds ++ last.class ∷ [];
    each = λ c. ((λ there. to c (Contains-push_cases is.seeds last.class c there)), (λ there. from c there));
    exact = exact is.seeds is.exact;
  }
    where
      this : (c : ℕ) → last.class ≡ c → last ≡ new_bit c (In state)
      this c same i = record { class = same i; bit = acquired i }

      longer : (c : ℕ) → Contains before c ⊎ Contains told (new_bit c (In state)) → Contains before c ⊎ Contains (told ++ last ∷ []) (new_bit c (In state))
      longer c (inl there) = inl there
      longer c (inr there) = inr (Contains-append_left told (last ∷ []) (new_bit c (In state)) there)

      to : (c : ℕ) → Contains is.seeds c ⊎ (last.class ≡ c) → Contains before c ⊎ Contains (told ++ last ∷ []) (new_bit c (In state))
      to c (inl there) = longer c ((is.each c).0 there)
      to c (inr same) = inr (subst (Contains (told ++ last ∷ [])) (this c same) (Contains-push told last))

      known : (c : ℕ) → Contains before c ⊎ Contains told (new_bit c (In state)) → Contains (is.seeds ++ last.class ∷ []) c
      known c there = Contains-append_left is.seeds (last.class ∷ []) c ((is.each c).1 there)

      from : (c : ℕ) → Contains before c ⊎ Contains (told ++ last ∷ []) (new_bit c (In state)) → Contains (is.seeds ++ last.class ∷ []) c
      from c (inl there) = known c (inl there)
      from c (inr there) = by (Contains-push_cases told last (new_bit c (In state)) there)
        where
          by : Contains told (new_bit c (In state)) ⊎ (last ≡ new_bit c (In state)) → Contains (is.seeds ++ last.class ∷ []) c
          by (inl old) = known c (inr old)
          by (inr same) = subst (Contains (is.seeds ++ last.class ∷ [])) (ap (λ (b : NewBit). b.class) same) (Contains-push is.seeds last.class)

  -- it is another one
  pub seeded-other : (reach : PlainReach) → last.bit ≢ usage_of (In state) → IsSeeded edges before state told reach → IsSeeded edges before state (told ++ last ∷ []) reach
  seeded-other reach other is = record {
    seeds = is.seeds;
    each = λ c. ((λ there. longer c ((is.each c).0 there)), (λ there. from c there));
    exact = is.exact;
  }
    where
      longer : (c : ℕ) → Contains before c ⊎ Contains told (new_bit c (In state)) → Contains before c ⊎ Contains (told ++ last ∷ []) (new_bit c (In state))
      longer c (inl there) = inl there
      longer c (inr there) = inr (Contains-append_left told (last ∷ []) (new_bit c (In state)) there)

      from : (c : ℕ) → Contains before c ⊎ Contains (told ++ last ∷ []) (new_bit c (In state)) → Contains is.seeds c
      from c (inl there) = (is.each c).1 (inl there)
      from c (inr there) = by (Contains-push_cases told last (new_bit c (In state)) there)
        where
          by : Contains told (new_bit c (In state)) ⊎ (last ≡ new_bit c (In state)) → Contains is.seeds c
          by (inl old) = (is.each c).1 (inr old)
          by (inr same) = absurd (other (ap (λ (b : NewBit). b.bit) same))

-- the bits that handlers acquire a class are told apart by the state
pub hard≢soft : (bit : Usage) → bit ≡ usage_of (In Hard) → bit ≢ usage_of (In Soft)
hard≢soft bit hard soft = true≢false (ap (λ u. has_bit u (usage_of (In Hard))) (sym hard ∙ soft))

-- a reach whose seeds grew by the bits that came
pub reach-seeded : (edges : List Edge) (usage more : List Usage) (told : List NewBit) → TellsBits usage more told
    → (state : State) (classes : ℕ) (seeds : List ℕ) → ((c : ℕ) → Contains seeds c ↔ HasBitAt usage c (In state))
    → (reach : PlainReach) → ExpandsOnce classes reach → IsSeeded edges seeds state told reach → IsReachOf classes edges more state reach
reach-seeded edges usage more told tells state classes seeds seeded reach once is = record {
  once = once;
  seeds = is.seeds;
  seeded = λ c. ((λ there. now c ((is.each c).0 there)), (λ has. (is.each c).1 (was c has (bit_cases usage c (In state)))));
  exact = is.exact;
}
  where
    now : (c : ℕ) → Contains seeds c ⊎ Contains told (new_bit c (In state)) → HasBitAt more c (In state)
    now c (inl seed) = tells.kept c (In state) ((seeded c).0 seed)
    now c (inr new) =
        let here : NewBit = get_or told new.0 (new_bit c (In state)) in
        let has : HasBitAt more here.class (bit_of here.bit) = (tells.each new.0 (new_bit c (In state)) new.1).now in
        subst (HasBitAt more c) (in_bit state) (subst (λ (b : NewBit). HasBitAt more b.class (bit_of b.bit)) new.2 has)

    was : (c : ℕ) → HasBitAt more c (In state) → HasBitAt usage c (In state) ⊎ (¬ HasBitAt usage c (In state)) → Contains seeds c ⊎ Contains told (new_bit c (In state))
    was c has (inl before) = inl ((seeded c).1 before)
    was c has (inr new) = inr (tells.all c (In state) has new)

-- a reach that stays exact
pub reach-kept : (classes : ℕ) (edges : List Edge) (usage : List Usage) (state : State) (old new : PlainReach) → IsReachOf classes edges usage state old
    → ExpandsOnce classes new → ((seeds : List ℕ) → IsReach (IsEdge edges) seeds old → IsReach (IsEdge edges) seeds new) → IsReachOf classes edges usage state new
reach-kept classes edges usage state old new is once exact = record { once = once; seeds = is.seeds; seeded = is.seeded; exact = exact is.seeds is.exact }

-- a union whose graph and reaches got other spares
pub union-kept : {classes : List PlainClass} {graph : PlainGraph} {rows : List Witnessed} {usage : List UsageRow}
    {closing : Option Edge} {reach : PerState PlainReach} {spare_classes spare_edges : ℕ} (more : PerState PlainReach)
    → IsUnion classes graph rows usage closing reach → (count : ℕ) → count ≡ graph.classes → HaveClasses count more → StayExact (edges_of rows) (edges_of rows) reach more
    → IsUnion classes (with_spares graph spare_classes spare_edges) rows usage closing more
union-kept {classes} {graph} {rows} {usage} {closing} {reach} more is count same once exact = record {
  numbered = is.numbered;
  few = is.few;
  count = is.count;
  rows = is.rows;
  closing = is.closing;
  reached = λ state. reach-kept (length classes) (edges_of rows) (bits_of usage) state (of_state reach state) (of_state more state) (is.reached state) (subst (λ n. ExpandsOnce n (of_state more state)) (same ∙ is.count) (once state)) (exact state);
}

module _ (classes : ℕ) (edges : List Edge) (usage : List Usage) (state : State) (reach : PlainReach) (is : IsReachOf classes edges usage state reach) where
  -- the source of a class
  pub source_at : (class : ℕ) (found : Option ℕ) → found ≡ source_of reach class
      → MatchOption found ((from : ℕ) → ¬ IsSourceAt edges usage state class from) (IsSourceAt edges usage state class)
  source_at class found same =
      subst (λ o. MatchOption o ((from : ℕ) → ¬ IsSourceAt edges usage state class from) (IsSourceAt edges usage state class)) (sym same)
      (by (source_of reach class) (is.exact.sources class))
    where
      by : (o : Option ℕ) → MatchOption o ((s : ℕ) → ¬ IsSource (IsEdge edges) is.seeds class s) (IsSource (IsEdge edges) is.seeds class)
          → MatchOption o ((from : ℕ) → ¬ IsSourceAt edges usage state class from) (IsSourceAt edges usage state class)
      by None none = λ from at. none from ((is.seeded from).1 at.0, at.1)
      by (Some s) source = ((is.seeded s).0 source.0, source.1)

  -- a class has one exactly where there is one
  pub source_some : (class : ℕ) → is_some (source_of reach class) ≡ true → (from : ℕ) × IsSourceAt edges usage state class from
  source_some class some = by (source_of reach class) (source_at class (source_of reach class) refl) some
    where
      by : (o : Option ℕ) → MatchOption o ((from : ℕ) → ¬ IsSourceAt edges usage state class from) (IsSourceAt edges usage state class)
          → is_some o ≡ true → (from : ℕ) × IsSourceAt edges usage state class from
      by None at there = absurd (true≢false (sym there))
      by (Some s) at there = (s, at)

  pub source_there : (class from : ℕ) → IsSourceAt edges usage state class from → is_some (source_of reach class) ≡ true
  source_there class from at = by (source_of reach class) (source_at class (source_of reach class) refl)
    where
      by : (o : Option ℕ) → MatchOption o ((from : ℕ) → ¬ IsSourceAt edges usage state class from) (IsSourceAt edges usage state class) → is_some o ≡ true
      by None none = absurd (none from at)
      by (Some s) is_some = refl
