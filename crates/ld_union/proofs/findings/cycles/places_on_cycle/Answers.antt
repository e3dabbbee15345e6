use Rattle.std.proofs.Common.{◌≡◌, ◌<◌, ◌∙◌, ◌∷◌, ◌++◌, ◌+◌, [], List, ℕ, Contains, Vec, ap, arith, get_or, length, subst, sym}
use Rattle.std.proofs.lemmas.List.{get_or_default}
use Rattle.std.proofs.lemmas.List.Elements.{Contains-get_or}
use Rattle.std.proofs.lemmas.List.Sorted.{Contains-permutation, IsPermutation-sym}
use Rattle.ld_graph.specs.Edges.{IsEdge}
use Rattle.ld_graph.specs.Lists.{list_at}
use Rattle.ld_union.specs.Inner.ByName.{class_at, place_of_class}
use Rattle.ld_union.specs.Inner.Rows.{IsBackEdge, IsBackPlace}
use Rattle.ld_union.specs.Inner.Union.{edges_of}
use Rattle.ld_union.proofs.CycleLemmas.{back-together, together-back}
use Rattle.ld_union.proofs.StayingLemmas.{AreStaying, AreStaying-none, AreStaying-one_more, AreStaying-other, increasing_from_sort}
use Rattle.ld_union.proofs.findings.cycles.places_on_cycle.Goals as goal
use Rattle.ld_union.proofs.findings.cycles.places_on_cycle.Goals.{After-after-to-items, then-components-to+in_ok-push, else-components-to}

-- each successor that is read is one
edge_at : (c : After-after-to-items) → (k : ℕ) → k < length c.after-to-items.result.now
    → IsEdge (edges_of c.args.indexed.union.now.dependencies) c.args.from (get_or c.after-to-items.result.now k 0)
edge_at c k within =
    let to = get_or c.after-to-items.result.now k 0 in
    let near : Contains (list_at c.lists.result.now.after.lists c.args.from) to = subst (λ l. Contains l to) (c.after-to-items.ensures.near ∙ ap (λ l. list_at l.after.lists c.args.from) c.new.ensures.lists)
    (Contains-get_or c.after-to-items.result.now k 0 within) in
    subst (λ edges. IsEdge edges c.args.from to) c.graph.ensures.edges ((c.lists.ensures.after c.args.from to).0 near)

end_at : (c : After-after-to-items) → (to : ℕ) → IsEdge (edges_of c.args.indexed.union.now.dependencies) c.args.from to → to < length c.args.indexed.union.now.classes
end_at c to there =
    let e = (c.lists.ensures.ends c.args.from to (subst (λ edges. IsEdge edges c.args.from to) (sym c.graph.ensures.edges) there)).1 in
    omega (arith, e, c.graph.ensures.classes)

near_at : (c : After-after-to-items) → (to : ℕ) → IsEdge (edges_of c.args.indexed.union.now.dependencies) c.args.from to → Contains c.after-to-items.result.now to
near_at c to there = subst (λ l. Contains l to) (sym (c.after-to-items.ensures.near ∙ ap (λ l. list_at l.after.lists c.args.from) c.new.ensures.lists)) ((c.lists.ensures.after c.args.from to).1
    (subst (λ edges. IsEdge edges c.args.from to) (sym c.graph.ensures.edges) there))

-- a successor stands at its place
back_at : (c : After-after-to-items) → (k : ℕ) → k < length c.after-to-items.result.now
    → (place_of_class c.args.indexed.order.now.places.items (get_or c.after-to-items.result.now k 0) < length c.args.indexed.order.now.numbers.items)
    × (class_at c.args.indexed.order.now.numbers.items (place_of_class c.args.indexed.order.now.places.items (get_or c.after-to-items.result.now k 0)) ≡ get_or c.after-to-items.result.now k 0)
back_at c k within =
    let to = get_or c.after-to-items.result.now k 0 in
    c.args.indexed.named.every to (end_at c to (edge_at c k within))

pub loop-to-init : goal.loop-to-init
loop-to-init c =
    let kind = λ (k : ℕ). get_or c.args.components.now k 0 ≡ get_or c.args.components.now c.args.from 0 in
    subst (AreStaying c.after-to-items.result.now c.args.indexed.order.now.places.items kind 0) (sym c.new-places.ensures.items)
    (AreStaying-none c.after-to-items.result.now c.args.indexed.order.now.places.items kind)

pub bounds-components-to : goal.bounds-components-to
bounds-components-to c =
    let a = (goal.at.bounds-components-to c).After-after-to-items in
    let to = get_or c.after-to-items.result.now c.loop-to.to-index 0 in
    let e = end_at a to (edge_at a c.loop-to.to-index c.loop-to-test.true) in
    omega (arith, e, c.requires.components.len)

pub index-requires : goal.index-requires
index-requires c =
    let a = (goal.at.index-requires c).After-after-to-items in
    let to = get_or c.after-to-items.result.now c.loop-to.to-index 0 in
    let e = end_at a to (edge_at a c.loop-to.to-index c.loop-to-test.true) in
    omega (arith, e, c.args.indexed.named.placed)

pub loop-to-preserved : goal.loop-to-preserved
loop-to-preserved c =
    let a = (goal.at.loop-to-preserved c).After-after-to-items in
    let near = c.after-to-items.result.now in
    let places = c.args.indexed.order.now.places.items in
    let kind = λ (k : ℕ). get_or c.args.components.now k 0 ≡ get_or c.args.components.now c.args.from 0 in
    let i = c.loop-to.to-index in
    elim c.if-components-to.branch [
      | then-components-to+in_ok-push w ↦
          let value : c.if-components-to.places.items ≡ c.loop-to.places.items ++ place_of_class places (get_or near i 0) ∷ [] =
          ap (λ (v : Vec _ _). v.items) w.places-is ∙ w.in_ok-push.ensures.items ∙ ap (λ p. c.loop-to.places.items ++ p ∷ [])
          (w.index.ensures ∙ get_or_default places (get_or near i 0) w.index.result.now 0 (let e = end_at a (get_or near i 0) (edge_at a i c.loop-to-test.true) in omega (arith, e, c.args.indexed.named.placed))) in
          subst (AreStaying near places kind (i + 1)) (sym value)
          (AreStaying-one_more near places kind i c.loop-to.places.items c.loop-to.invariant c.after-to-items.ensures.once c.loop-to-test.true
          (λ j k at_j at_k same. sym (back_at a j at_j).1 ∙ ap (class_at c.args.indexed.order.now.numbers.items) same ∙ (back_at a k at_k).1)
          w.if-components-to.true)
      | else-components-to w ↦
          subst (AreStaying near places kind (i + 1)) (sym (ap (λ (v : Vec _ _). v.items) w.places-is))
          (AreStaying-other near places kind i c.loop-to.places.items c.loop-to.invariant w.if-components-to.false)
    ]

pub returns-clause-exact : goal.returns-clause-exact
returns-clause-exact c = record { each = forth; all = back }
  where
    near : List ℕ
    near = c.after-to-items.result.now

    a : After-after-to-items
    a = (goal.at.returns-clause-exact c).After-after-to-items

    forth : (p : ℕ) → Contains c.sort_unstable.new.self.items p → IsBackPlace c.args.indexed.union.now c.args.indexed.order.now.numbers.items c.args.from p
    forth p h =
        let e = c.loop-to.invariant.each p (Contains-permutation c.sort_unstable.new.self.items c.loop-to.places.items p
        (IsPermutation-sym c.loop-to.places.items c.sort_unstable.new.self.items c.sort_unstable.ensures.permutation) h) in
        let l = e.1.0 in
        let within : e.0 < length near = omega (arith, l, c.loop-to.auto.to-index-end) in
        let to = get_or near e.0 0 in
        let there = edge_at a e.0 within in
        let at = back_at a e.0 within in
        let edge : IsBackEdge c.args.indexed.union.now c.args.from to = (
          there,
          back-together (IsEdge (edges_of c.args.indexed.union.now.dependencies)) (length c.args.indexed.union.now.classes)
              c.args.components.now c.requires.components c.args.from to c.requires.from (end_at a to there) there e.1.1.0,
        ) in
        subst (IsBackPlace c.args.indexed.union.now c.args.indexed.order.now.numbers.items c.args.from) e.1.1.1
        (at.0, subst (IsBackEdge c.args.indexed.union.now c.args.from) (sym at.1) edge)

    back : (to : ℕ) → IsBackEdge c.args.indexed.union.now c.args.from to
        → (p : ℕ) × (Contains c.sort_unstable.new.self.items p × (class_at c.args.indexed.order.now.numbers.items p ≡ to))
    back to b =
        let there = b.0 in
        let k = near_at a to there in
        let l = k.1 in
        let at : get_or near k.0 0 ≡ to = get_or_default near k.0 0 to l ∙ k.2 in
        let found = c.loop-to.invariant.all k.0 (omega (arith, l, c.loop-to-test.false))
        (ap (λ z. get_or c.args.components.now z 0) at ∙ together-back (IsEdge (edges_of c.args.indexed.union.now.dependencies)) (length c.args.indexed.union.now.classes) c.args.components.now
        c.requires.components c.args.from to c.requires.from (end_at a to there) there b.1) in
        let p = place_of_class c.args.indexed.order.now.places.items to in (
          p,
          (
            Contains-permutation c.loop-to.places.items c.sort_unstable.new.self.items p c.sort_unstable.ensures.permutation
                (subst (Contains c.loop-to.places.items) (ap (place_of_class c.args.indexed.order.now.places.items) at) found),
            (c.args.indexed.named.every to (end_at a to there)).1,
          ),
        )

pub returns-clause-rising : goal.returns-clause-rising
returns-clause-rising c = increasing_from_sort c.loop-to.places.items c.sort_unstable.new.self.items c.loop-to.invariant.once c.sort_unstable.ensures.permutation
    c.sort_unstable.ensures.sorted
