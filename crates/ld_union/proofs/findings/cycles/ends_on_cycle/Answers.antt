use Rattle.std.proofs.Common.{◌≡◌, ◌<◌, ◌≤◌, ◌∙◌, ◌∷◌, ◌++◌, [], List, ℕ, Contains, ap, arith, length, map, subst, sym, take}
use Rattle.std.proofs.lemmas.List.{get_or_default, map-append, take_all, take_more}
use Rattle.std.proofs.lemmas.List.Elements.{Contains-get_or}
use Rattle.ld_union.specs.Inner.ByName.{AreRising, class_at, name_at}
use Rattle.ld_union.specs.Inner.Rows.{IsBackEdge, IsBackPlace}
use Rattle.ld_union.proofs.ByNameLemmas.{names-rise}
use Rattle.ld_union.proofs.StayingLemmas.{AreRising-placed, Contains-from_placed, Contains-placed}
use Rattle.ld_union.proofs.findings.cycles.ends_on_cycle.Goals as goal
use Rattle.ld_union.proofs.findings.cycles.ends_on_cycle.Goals.{After-deref-place-items, At-loop-place}

-- each place that is gone over is one of a dependency on a cycle
place_is : (c : After-deref-place-items) → (k : ℕ) → k < length c.deref-place-items.result.now
    → IsBackPlace c.args.indexed.union.now c.args.indexed.order.now.numbers.items c.args.from (class_at c.deref-place-items.result.now k)
place_is c k within =
    c.in_ok-places.ensures.exact.each (class_at c.deref-place-items.result.now k)
    (subst (λ ps. Contains ps (class_at c.deref-place-items.result.now k)) c.deref-place-items.ensures.value (Contains-get_or c.deref-place-items.result.now k 0 within))

pub index-requires : goal.index-requires
index-requires c =
    let place = (place_is (goal.at.index-requires c).After-deref-place-items c.loop-place.place-index c.loop-place-test.true).0 in
    omega (arith, place)

pub loop-place-preserved : goal.loop-place-preserved
loop-place-preserved c =
    let numbers = c.args.indexed.order.now.numbers.items in
    let places = c.deref-place-items.result.now in
    let i = c.loop-place.place-index in
    let place = (place_is (goal.at.loop-place-preserved c).After-deref-place-items i c.loop-place-test.true).0 in
    let value : c.index.result.now ≡ class_at numbers (class_at places i) = c.index.ensures ∙ get_or_default numbers (class_at places i) c.index.result.now 0 place in
    c.in_ok-push.ensures.items ∙ ap (λ xs. xs ++ c.index.result.now ∷ []) c.loop-place.invariant ∙ ap (λ x. map (class_at numbers) (take i places) ++ x ∷ []) value
    ∙ sym (map-append (class_at numbers) (take i places) (class_at places i ∷ [])) ∙ ap (map (class_at numbers)) (sym (take_more places i 0 c.loop-place-test.true))

-- all of them at the end
ends_are : (c : At-loop-place) → length c.deref-place-items.result.now ≤ c.loop-place.place-index
    → c.loop-place.ends.items ≡ map (class_at c.args.indexed.order.now.numbers.items) c.in_ok-places.places.items
ends_are c past = c.loop-place.invariant ∙ ap (map (class_at c.args.indexed.order.now.numbers.items))
    (take_all c.loop-place.place-index c.deref-place-items.result.now past ∙ c.deref-place-items.ensures.value)

pub returns-clause-exact : goal.returns-clause-exact
returns-clause-exact c = λ to. (λ h. forth to h, λ edge. back to edge)
  where
    numbers : List ℕ
    numbers = c.args.indexed.order.now.numbers.items

    are : c.loop-place.ends.items ≡ map (class_at c.args.indexed.order.now.numbers.items) c.in_ok-places.places.items
    are = ends_are (goal.at.returns-clause-exact c).At-loop-place c.loop-place-test.false

    forth : (to : ℕ) → Contains c.loop-place.ends.items to → IsBackEdge c.args.indexed.union.now c.args.from to
    forth to h =
        let p = Contains-from_placed numbers c.in_ok-places.places.items to (subst (λ ends. Contains ends to) are h) in
        subst (IsBackEdge c.args.indexed.union.now c.args.from) p.1.1 (c.in_ok-places.ensures.exact.each p.0 p.1.0).1

    back : (to : ℕ) → IsBackEdge c.args.indexed.union.now c.args.from to → Contains c.loop-place.ends.items to
    back to edge =
        let at = c.in_ok-places.ensures.exact.all to edge in
        subst (λ ends. Contains ends to) (sym are) (subst (Contains (map (class_at numbers) c.in_ok-places.places.items)) at.1.1
        (Contains-placed numbers c.in_ok-places.places.items at.0 at.1.0))

pub returns-clause-rising : goal.returns-clause-rising
returns-clause-rising c =
    let classes = c.args.indexed.union.now.classes in
    let numbers = c.args.indexed.order.now.numbers.items in
    let places = c.in_ok-places.places.items in
    let are = ends_are (goal.at.returns-clause-rising c).At-loop-place c.loop-place-test.false in
    subst (λ ends. AreRising (name_at classes ends) (length ends)) (sym are)
    (AreRising-placed classes numbers places (names-rise classes numbers c.args.indexed.order.now.places.items c.args.indexed.named) c.in_ok-places.ensures.rising
    (λ i l. (c.in_ok-places.ensures.exact.each (class_at places i) (Contains-get_or places i 0 l)).0))
