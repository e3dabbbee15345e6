use Rattle.std.proofs.Common.{rules, refl, inr, All, None, Contains, arith, ◌≡◌, ◌<◌, ◌+◌, ◌∙◌, ◌∷◌, ◌++◌, [], ℕ, Vec, get_or, length, map, subst, sym, ap}
use Rattle.std.proofs.lemmas.List.{append-nil, map-append}
use Rattle.std.proofs.lemmas.List.Elements.{Contains-get_or}
use Rattle.std.proofs.lemmas.Option.{MatchOption-at_none, MatchOption-at_some}
use Rattle.ld_class.specs.Names.{PlainClass}
use Rattle.ld_graph.specs.declared.Edge.{Edge}
use Rattle.ld_graph.specs.Edges.{IsEdge, edge}
use Rattle.ld_graph.specs.Walks.{AreEnough, Reaches}
use Rattle.ld_graph.proofs.WalkLemmas.{HasWalk-Far}
use Rattle.ld_union.specs.Findings.{IsBefore, IsCycleRow, IsPairBefore, cycle_key, plain_cycle_row}
use Rattle.ld_union.specs.Inner.ByName.{AreRising, class_at, class_name, name_at}
use Rattle.ld_union.specs.Inner.Rows.{AreCycleRowsOf, AreEnoughFrom, IsBackEdge, IsCycleRowOf, IsPassed}
use Rattle.ld_union.specs.Violations.{IsCycle}
use Rattle.ld_union.proofs.CycleLemmas.{back-from_cycle}
use Rattle.ld_union.proofs.PassedLemmas.{passed_in, rows-more}
use Rattle.ld_union.proofs.RowLemmas.{rows-none, rows-not, rows-one, rows-same}
use Rattle.ld_union.proofs.findings.cycles.cycles_from.Goals as goal
use Rattle.ld_union.proofs.findings.cycles.cycles_from.Goals.{After-deref-to-items, in-Some+in_ok-push, in_default}

pub returns-then-is_empty-clause-rows : goal.returns-then-is_empty-clause-rows
returns-then-is_empty-clause-rows c sources shows =
    let union = c.args.indexed.union.now in
    let a = c.args.from in
    let none : length c.in_ok-ends.ends.items ≡ 0 = search rules in
    subst (AreCycleRowsOf sources (λ p. p.0 ≡ class_name union.classes a)) (sym (ap (map plain_cycle_row) c.new-rows.ensures.items))
    (rows-none cycle_key (IsCycleRow sources) (λ p. IsCycle sources p.0 p.1) IsPairBefore (λ p. p.0 ≡ class_name union.classes a)
    (λ p cycle from.
    let back = back-from_cycle union.classes union.dependencies shows.numbered sources shows.witnesses a p.1 c.requires.from (subst (λ n. IsCycle sources n p.1) from cycle) in
    let there = (c.in_ok-ends.ensures.exact back.0).1 back.1.1 in
    let l = there.1 in
    omega (arith, l, none)))

-- each class that is gone over is one to which a dependency on a cycle leads
edge_is : (c : After-deref-to-items) → (k : ℕ) (d : ℕ) → k < length c.deref-to-items.result.now → IsBackEdge c.args.indexed.union.now c.args.from (get_or c.deref-to-items.result.now k d)
edge_is c k d within =
    (c.in_ok-ends.ensures.exact (get_or c.deref-to-items.result.now k d)).0
    (subst (λ ends. Contains ends (get_or c.deref-to-items.result.now k d)) c.deref-to-items.ensures.value (Contains-get_or c.deref-to-items.result.now k d within))

end_is : (c : After-deref-to-items) → (k : ℕ) → k < length c.deref-to-items.result.now → class_at c.deref-to-items.result.now k < length c.args.indexed.union.now.classes
end_is c k within =
    let e = (edge_is c k 0 within).0 in
    (subst (λ (x : Edge). (x.from < length c.args.indexed.union.now.classes) × (x.to < length c.args.indexed.union.now.classes)) e.2
    (c.graph.ensures.numbered.ends e.0 (edge c.args.from (class_at c.deref-to-items.result.now k)) e.1)).1

pub cycle_row-requires-clause-to : goal.cycle_row-requires-clause-to
cycle_row-requires-clause-to c = end_is (goal.at.cycle_row-requires-clause-to c).After-deref-to-items c.loop-to.to-index c.loop-to-test.true

pub loop-to-preserved : goal.loop-to-preserved
loop-to-preserved c sources shows =
    let union = c.args.indexed.union.now in
    let classes = union.classes in
    let from = class_name classes c.args.from in
    let i = c.loop-to.to-index in
    let class = c.args.from in
    let same : class_name classes class ≡ from = refl in
    let ends = c.deref-to-items.result.now in
    let names = name_at classes ends in
    let to = class_at ends i in
    let name : class_name classes to ≡ names i = refl in
    let within : i < length ends = c.loop-to-test.true in
    let rising : AreRising names (length ends) = subst (λ es. AreRising (name_at classes es) (length es)) (sym c.deref-to-items.ensures.value) c.in_ok-ends.ensures.rising in
    let before = map plain_cycle_row c.loop-to.rows.items in
    let owed = λ (p : PlainClass × PlainClass). IsCycle sources p.0 p.1 in
    elim c.match-branch-3.branch [
      | in-Some+in_ok-push w ↦
          let row = plain_cycle_row w.in-Some.row in
          let told = MatchOption-at_some (¬ IsCycle sources (class_name classes class) (class_name classes to))
          (λ r. IsCycleRowOf sources (class_name classes class) (class_name classes to) (plain_cycle_row r)) w.in-Some.row w.in-Some.is (c.in_ok-row.ensures sources shows) in
          let is : IsCycleRowOf sources from (names i) row = subst (λ n. IsCycleRowOf sources from n row) name
          (subst (λ n. IsCycleRowOf sources n (class_name classes to) row) same told) in
          let items : map plain_cycle_row c.match-branch-3.rows.items ≡ before ++ row ∷ [] = ap (λ (rows : Vec _ _). map plain_cycle_row rows.items)
          w.rows-is ∙ ap (map plain_cycle_row) w.in_ok-push.ensures.items ∙ map-append plain_cycle_row c.loop-to.rows.items (w.in-Some.row ∷ []) in
          subst (AreCycleRowsOf sources (λ p. (p.0 ≡ from) × IsPassed names (i + 1) p.1)) (sym items)
          (rows-more names IsBefore (length ends) rising cycle_key (IsCycleRow sources) owed IsBefore from i before (row ∷ []) within (c.loop-to.invariant sources shows)
          (rows-one cycle_key (IsCycleRow sources) owed IsPairBefore (from, names i) row is.0 is.1))
      | in_default w ↦
          let told = MatchOption-at_none (¬ IsCycle sources (class_name classes class) (class_name classes to))
          (λ r. IsCycleRowOf sources (class_name classes class) (class_name classes to) (plain_cycle_row r)) w.in_default.is (c.in_ok-row.ensures sources shows) in
          let none : ¬ IsCycle sources from (names i) = subst (λ n. ¬ IsCycle sources from n) name (subst (λ n. ¬ IsCycle sources n (class_name classes to)) same told) in
          let items : map plain_cycle_row c.match-branch-3.rows.items ≡ before ++ [] = ap (λ (rows : Vec _ _). map plain_cycle_row rows.items) w.rows-is ∙ sym (append-nil before) in
          subst (AreCycleRowsOf sources (λ p. (p.0 ≡ from) × IsPassed names (i + 1) p.1)) (sym items)
          (rows-more names IsBefore (length ends) rising cycle_key (IsCycleRow sources) owed IsBefore from i before [] within (c.loop-to.invariant sources shows)
          (rows-not cycle_key (IsCycleRow sources) owed IsPairBefore (from, names i) none))
    ]

pub returns-clause-rows : goal.returns-clause-rows
returns-clause-rows c sources shows =
    let union = c.args.indexed.union.now in
    let from = class_name union.classes c.args.from in
    let ends = c.deref-to-items.result.now in
    let i = c.loop-to.to-index in
    rows-same cycle_key (IsCycleRow sources) (λ p. IsCycle sources p.0 p.1) IsPairBefore (λ p. (p.0 ≡ from) × IsPassed (name_at union.classes ends) i p.1)
    (λ p. p.0 ≡ from) (map plain_cycle_row c.loop-to.rows.items)
    (λ p here. here.0)
    (λ p owed here.
    let back = back-from_cycle union.classes union.dependencies shows.numbered sources shows.witnesses c.args.from p.1 c.requires.from (subst (λ n. IsCycle sources n p.1) here owed) in
    let there = subst (λ es. Contains es back.0) (sym c.deref-to-items.ensures.value) ((c.in_ok-ends.ensures.exact back.0).1 back.1.1) in
    (here, passed_in union.classes ends back.0 i p.1 c.loop-to-test.false there back.1.0.1))
    (c.loop-to.invariant sources shows)

pub cycle_row-requires-clause-distances : goal.cycle_row-requires-clause-distances
cycle_row-requires-clause-distances c =
    let a = c.args.from in
    let ends = c.deref-to-items.result.now in
    let i = c.loop-to.to-index in
    let to = class_at ends i in
    let back = edge_is (goal.at.cycle_row-requires-clause-distances c).After-deref-to-items i 0 c.loop-to-test.true in
    subst (AreEnoughFrom c.args.indexed.union.now to a) (sym c.levels.ensures) (record {
      len = c.distances_inside.ensures.len ∙ c.graph.ensures.classes;
      enough = subst (λ es. AreEnough (IsEdge es) to a (λ x. get_or c.distances_inside.new.distances x None)) c.graph.ensures.edges
          (subst (All (λ w. Reaches (IsEdge c.graph.result.now.edges) a w → AreEnough (IsEdge c.graph.result.now.edges) w a (λ x. get_or c.distances_inside.new.distances x None)))
          (c.deref.ensures.value ∙ sym c.deref-to-items.ensures.value) c.distances_inside.ensures.enough i 0 c.loop-to-test.true
          (inr (HasWalk-Far (IsEdge c.graph.result.now.edges) 0 a to (subst (λ es. IsEdge es a to) (sym c.graph.ensures.edges) back.0))));
    })

pub distances_inside-requires-clause-wanted : goal.distances_inside-requires-clause-wanted
distances_inside-requires-clause-wanted c = λ k d within.
    let to = get_or c.deref.result.now k d in
    let there = ((c.in_ok-ends.ensures.exact to).0 (subst (λ ends. Contains ends to) c.deref.ensures.value (Contains-get_or c.deref.result.now k d within))).0 in
    let low = (subst (λ (x : Edge). (x.from < length c.args.indexed.union.now.classes) × (x.to < length c.args.indexed.union.now.classes)) there.2
    (c.graph.ensures.numbered.ends there.0 (edge c.args.from to) there.1)).1 in
    omega (arith, low, c.graph.ensures.classes)
