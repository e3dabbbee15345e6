-- What violations by number say of the names.
use Rattle.std.proofs.Common.{◌≡◌, ◌<◌, true, arith, option_map, IfSome, List, ℕ, zero, suc, Option, Some, None, is_some, Any, length, get_or, refl, sym, ap, subst, ◌∙◌}
use Rattle.std.proofs.lemmas.Bool.{true≢false}
use Rattle.ld_class.specs.declared.usage.Usage.{Usage}
use Rattle.ld_class.specs.Names.{IsNameAt, PlainClass, no_class, place_of}
use Rattle.ld_class.proofs.NameLemmas.{place_of-Some}
use Rattle.ld_graph.specs.declared.Edge.{Edge}
use Rattle.ld_graph.specs.Edges.{IsEdge, edge}
use Rattle.ld_graph.specs.Walks.{HasWalk}
use Rattle.ld_graph.proofs.WalkLemmas.{Far, HasWalk-Far, IsWalk-Far}
use Rattle.ld_trace.specs.declared.event.State.{State}
use Rattle.ld_trace.specs.Sources.{PlainSource}
use Rattle.ld_rules.specs.Dependency.{Dependency}
use Rattle.ld_rules.specs.Union.{dependency_witness}
use Rattle.ld_rules.specs.Usage.{Bit}
use Rattle.ld_rules.specs.Usage.Bit.{In, On}
use Rattle.ld_union.specs.declared.alarms.Forbidden.{Forbidden}
use Rattle.ld_union.specs.declared.alarms.Found.{Found}
use Rattle.ld_union.specs.declared.dependencies.Witnessed.{Witnessed}
use Rattle.ld_union.specs.Alarms.{AreExact, IsExact}
use Rattle.ld_union.specs.Inner.Union.{IsCycleAt}
use Rattle.ld_union.specs.Inner.Numbers.{AreBitsOf, AreFound, AreWithin, IsConflictAt, IsForbiddenAt, named_alarms}
use Rattle.ld_union.specs.Inner.Bits.{HasBitAt}
use Rattle.ld_union.specs.Inner.States.{of_state}
use Rattle.ld_union.specs.Inner.Union.{AreBetween, AreWitnessed, edges_of, named_edge}
use Rattle.ld_union.proofs.DeltaLemmas.{bit_within}
use Rattle.ld_union.specs.Violations.{Depends, HasBit, IsConflict, IsCycle, IsForbidden, Leads}
use Rattle.ld_union.proofs.UnionLemmas.{at_row, ends_of_edge, length_rows}

-- a number that a name has
abbrev pub Numbered : List PlainClass → PlainClass → Type 0
Numbered classes name = (c : ℕ) × IsNameAt classes c name

some_number : (classes : List PlainClass) (name : PlainClass) → is_some (place_of classes name) ≡ true → Numbered classes name
some_number classes name there = by (place_of classes name) refl
  where
    by : (o : Option ℕ) → place_of classes name ≡ o → Numbered classes name
    by None is = absurd (true≢false (sym there ∙ ap is_some is))
    by (Some c) is = (c, place_of-Some classes name c is)

module _ (classes : List PlainClass) (rows : List Witnessed) (is : AreBetween classes rows)
    (sources : List PlainSource) (witnessed : AreWitnessed classes rows (dependency_witness sources)) where
  -- a class's name
  abbrev name : ℕ → PlainClass
  name c = get_or classes c no_class

  -- an edge is a dependency of the names
  pub depends_from_edge : (a b : ℕ) → IsEdge (edges_of rows) a b → Depends sources (name a) (name b)
  depends_from_edge a b there =
      let within : there.0 < length rows = subst (λ n. there.0 < n) (sym (length_rows rows)) there.1 in
      let row : Witnessed = record { edge = edge a b; first = record { number = 0; line = 0 } } in
      ap (λ e. is_some (dependency_witness sources (named_edge classes e))) (sym (sym (at_row rows there.0 row (edge a b) within) ∙ there.2))
      ∙ ap is_some (witnessed.each there.0 row within)

  -- a dependency is an edge of numbers that the names have
  pub edge_from_depends : (x y : PlainClass) → Depends sources x y → (a : ℕ) × ((b : ℕ) × (IsNameAt classes a x × IsNameAt classes b y × IsEdge (edges_of rows) a b))
  edge_from_depends x y shown =
      let at : Any (λ r. named_edge classes r.edge ≡ record { from = x; to = y }) rows = witnessed.all (record { from = x; to = y }) shown in
      let a = at.1.edge.from in
      let b = at.1.edge.to in
      let there : IsEdge (edges_of rows) a b = (
        at.0,
        subst (λ n. at.0 < n) (length_rows rows) at.2,
        at_row rows at.0
            at.1 (edge a b) at.2 ∙ ap (λ (r : Witnessed). r.edge) at.3,
      ) in
      let ends = ends_of_edge classes rows is a b there in
      (a, (b, ((ends.0, ap (λ (d : Dependency). d.from) at.4), (ends.1, ap (λ (d : Dependency). d.to) at.4), there)))

  -- so it is an edge of any numbers that the names have
  pub edge_from_named : (a b : ℕ) (x y : PlainClass) → IsNameAt classes a x → IsNameAt classes b y → Depends sources x y → IsEdge (edges_of rows) a b
  edge_from_named a b x y at_a at_b shown =
      let found = edge_from_depends x y shown in
      let same_a : found.0 ≡ a = is.distinct found.0 a x found.1.1.0 at_a in
      let same_b : found.1.0 ≡ b = is.distinct found.1.0 b y found.1.1.1 at_b in
      subst (λ p. IsEdge (edges_of rows) p b) same_a (subst (λ q. IsEdge (edges_of rows) found.0 q) same_b found.1.1.2)

  far_named : (n a b : ℕ) → Far (IsEdge (edges_of rows)) n a b → Far (Depends sources) n (name a) (name b)
  far_named zero a b h = depends_from_edge a b h
  far_named (suc n) a b h = (name h.0, (depends_from_edge a h.0 h.1.0, far_named n h.0 b h.1.1))

  far_numbered : (n a b : ℕ) (x y : PlainClass) → IsNameAt classes a x → IsNameAt classes b y → Far (Depends sources) n x y → Far (IsEdge (edges_of rows)) n a b
  far_numbered zero a b x y at_a at_b h = edge_from_named a b x y at_a at_b h
  far_numbered (suc n) a b x y at_a at_b h =
      let found = edge_from_depends x h.0 h.1.0 in
      let c = found.1.0 in
      let at_c : IsNameAt classes c h.0 = found.1.1.1 in
      (c, (edge_from_named a c x h.0 at_a at_c h.1.0, far_numbered n c b h.0 y at_c at_b h.1.1))

  -- a walk of the numbers is one of the names
  pub leads_from_walk : (a b : ℕ) → HasWalk (IsEdge (edges_of rows)) a b → Leads sources (name a) (name b)
  leads_from_walk a b walk =
      let far = IsWalk-Far (IsEdge (edges_of rows)) a b walk.0 walk.1 in
      HasWalk-Far (Depends sources) far.0 (name a) (name b) (far_named far.0 a b far.1.1)

  -- and the other way round
  pub walk_from_leads : (a b : ℕ) (x y : PlainClass) → IsNameAt classes a x → IsNameAt classes b y → Leads sources x y → HasWalk (IsEdge (edges_of rows)) a b
  walk_from_leads a b x y at_a at_b walk =
      let far = IsWalk-Far (Depends sources) x y walk.0 walk.1 in
      HasWalk-Far (IsEdge (edges_of rows)) far.0 a b (far_numbered far.0 a b x y at_a at_b far.1.1)

  -- a cycle by number is one by name
  pub cycle_named : (e : Edge) → IsCycleAt (edges_of rows) e → IsCycle sources (name e.from) (name e.to)
  cycle_named e cycle = (depends_from_edge e.from e.to cycle.0, leads_from_walk e.to e.from cycle.1)

  pub cycle_numbered : (x y : PlainClass) → IsCycle sources x y → (e : Edge) × IsCycleAt (edges_of rows) e
  cycle_numbered x y cycle =
      let found = edge_from_depends x y cycle.0 in
      let a = found.0 in
      let b = found.1.0 in
      (edge a b, (found.1.1.2, walk_from_leads b a y x found.1.1.1 found.1.1.0 cycle.1))

module _ (classes : List PlainClass) (usage : List Usage) (sources : List PlainSource) (used : AreBitsOf classes usage sources) where
  -- a bit by number is one by name
  bit_named : (c : ℕ) (bit : Bit) → HasBitAt usage c bit → HasBit sources (get_or classes c no_class) bit
  bit_named c bit has =
      let within : c < length usage = bit_within usage c bit has in
      (used.each c bit (omega (arith, within, used.within))).0 has

  -- and the other way round
  bit_numbered : (c : ℕ) (name : PlainClass) (bit : Bit) → IsNameAt classes c name → HasBit sources name bit → HasBitAt usage c bit
  bit_numbered c name bit at has = (used.each c bit at.0).1 (subst (λ n. HasBit sources n bit) (sym at.1) has)

  -- a number of a name that has a bit
  number_of_bit : (name : PlainClass) (bit : Bit) → HasBit sources name bit → Numbered classes name
  number_of_bit name bit has = some_number classes name (used.known name bit has)

  conflict_exact : (state : State) (found : Option ℕ) → IsExact (IsConflictAt usage state) found → IsExact (IsConflict sources state) (option_map (λ c. get_or classes c no_class) found)
  conflict_exact state None absent = λ any.
      let at = number_of_bit any.0 (In state) any.1.0 in
      absent (at.0, (bit_numbered at.0 any.0 (In state) at.1 any.1.0, bit_numbered at.0 any.0 (On state) at.1 any.1.1))
  conflict_exact state (Some c) is = (bit_named c (In state) is.0, bit_named c (On state) is.1)

  module _ (rows : List Witnessed) (is : AreBetween classes rows) (witnessed : AreWitnessed classes rows (dependency_witness sources)) where
    cycle_exact : (found : Option Edge) → IsExact (IsCycleAt (edges_of rows)) found → IsExact {A = PlainClass × PlainClass} (λ p. IsCycle sources p.0 p.1)
        (option_map (λ (e : Edge). (get_or classes e.from no_class, get_or classes e.to no_class)) found)
    cycle_exact None absent = λ any. absent (cycle_numbered classes rows is sources witnessed any.0.0 any.0.1 any.1)
    cycle_exact (Some e) cycle = cycle_named classes rows is sources witnessed e cycle

    forbidden_exact : (state : State) (found : Option Forbidden) → IsExact (λ (f : Forbidden). IsForbiddenAt (edges_of rows) usage state f.from f.to) found
        → IsExact {A = PlainClass × PlainClass} (λ p. IsForbidden sources state p.0 p.1) (option_map (λ (f : Forbidden). (get_or classes f.from no_class, get_or classes f.to no_class)) found)
    forbidden_exact state None absent = λ any.
        let from = number_of_bit any.0.0 (In state) any.1.0 in
        let to = number_of_bit any.0.1 (On state) any.1.1 in
        let two : Forbidden = record { from = from.0; to = to.0 } in
        absent (
          two,
          (
            bit_numbered from.0 any.0.0 (In state) from.1 any.1.0,
            (
              bit_numbered to.0 any.0.1 (On state) to.1 any.1.1,
              walk_from_leads
                  classes rows is sources witnessed from.0 to.0 any.0.0 any.0.1 from.1 to.1 any.1.2,
            ),
          ),
        )
    forbidden_exact state (Some f) here = (bit_named f.from (In state) here.0, bit_named f.to (On state) here.1.0, leads_from_walk classes rows is sources witnessed f.from f.to here.1.1)

    -- what was found by number is exact by name
    pub exact_from_found : (found : Found) → AreFound (edges_of rows) usage found → AreExact sources (named_alarms classes found)
    exact_from_found found are = record {
      cycle = cycle_exact found.cycle are.cycle;
      conflict = λ state. conflict_exact state (of_state found.conflict state) (are.conflict state);
      forbidden = λ state. forbidden_exact state (of_state found.forbidden state) (are.forbidden state);
    }

    -- the numbers that were found are those of classes
    pub within_from_found : (found : Found) → AreFound (edges_of rows) usage found → AreWithin (length classes) found
    within_from_found found are = record {
      cycle = cycle found.cycle are.cycle;
      conflict = λ state. conflict state (of_state found.conflict state) (are.conflict state);
      forbidden = λ state. forbidden state (of_state found.forbidden state) (are.forbidden state);
    }
      where
        of_bit : (c : ℕ) (bit : Bit) → HasBitAt usage c bit → c < length classes
        of_bit c bit has =
            let within : c < length usage = bit_within usage c bit has in
            omega (arith, within, used.within)

        cycle : (o : Option Edge) → IsExact (IsCycleAt (edges_of rows)) o → IfSome o (λ (e : Edge). (e.from < length classes) × (e.to < length classes))
        cycle None absent = tt
        cycle (Some e) here = ends_of_edge classes rows is e.from e.to here.0

        conflict : (state : State) (o : Option ℕ) → IsExact (IsConflictAt usage state) o → IfSome o (λ c. c < length classes)
        conflict state None absent = tt
        conflict state (Some c) here = of_bit c (In state) here.0

        forbidden : (state : State) (o : Option Forbidden) → IsExact (λ (f : Forbidden). IsForbiddenAt (edges_of rows) usage state f.from f.to) o → IfSome
            o (λ (f : Forbidden). (f.from < length classes) × (f.to < length classes))
        forbidden state None absent = tt
        forbidden state (Some f) here = (of_bit f.from (In state) here.0, of_bit f.to (On state) here.1.0)
