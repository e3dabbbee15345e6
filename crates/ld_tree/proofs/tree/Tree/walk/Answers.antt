use Rattle.std.proofs.Common.{◌≡◌, ◌<◌, ◌-◌, ◌∙◌, ◌∷◌, ◌++◌, [], Contains, ap, arith, length, reverse, subst, sym}
use Rattle.std.proofs.lemmas.List.{get_or_default, reverse-append}
use Rattle.ld_graph.specs.Edges.{ComesBefore}
use Rattle.ld_graph.specs.Lists.{IsNear}
use Rattle.ld_graph.specs.Walks.{IsShownWalk}
use Rattle.ld_tree.specs.Trees.{PlainTree, nth}
use Rattle.ld_tree.proofs.ClimbLemmas.{IsClimb, climb_begin, climb_end, climb_more, number_read}
use Rattle.ld_tree.proofs.tree.Tree.walk.Goals as goal

pub index-requires : goal.index-requires
index-requires c =
    let w = c.self.invariant.within c.args.end (subst (λ (t : PlainTree). Contains t.found c.args.end) (sym c.self.view_is) c.requires.end) in
    omega (arith, w, c.self.inside.numbers.ok.0)

pub index-place-requires : goal.index-place-requires
index-place-requires c =
    let low : c.args.end < length c.self.inside.numbers.items = c.self.invariant.within c.args.end (subst (λ (t : PlainTree). Contains t.found c.args.end) (sym c.self.view_is) c.requires.end) in
    let n = number_read c.args.leading.now c.args.start c.args.self.now c.requires.tree c.args.end c.in-Some.number c.requires.end c.self.inside.numbers.items (ap (λ (t : PlainTree). t.numbers) c.self.view_is)
    c.index.result.now low c.index.ensures c.in-Some.is in
    let at = n.0 in
    let from : c.self.inside.from.items ≡ c.args.self.now.from = ap (λ (t : PlainTree). t.from) c.self.view_is in
    let found : c.self.inside.found.items ≡ c.args.self.now.found = ap (λ (t : PlainTree). t.found) c.self.view_is in
    let as_many : length c.self.inside.from.items ≡ length c.args.self.now.found = ap length from ∙ c.requires.tree.same in
    let all : length c.self.inside.found.items ≡ length c.args.self.now.found = ap length found in
    omega (arith, at, as_many, c.self.inside.from.ok.0)

pub loop-place-init : goal.loop-place-init
loop-place-init c =
    let low : c.args.end < length c.self.inside.numbers.items = c.self.invariant.within c.args.end (subst (λ (t : PlainTree). Contains t.found c.args.end) (sym c.self.view_is) c.requires.end) in
    let n = number_read c.args.leading.now c.args.start c.args.self.now c.requires.tree c.args.end c.in-Some.number c.requires.end c.self.inside.numbers.items (ap (λ (t : PlainTree). t.numbers) c.self.view_is)
    c.index.result.now low c.index.ensures c.in-Some.is in
    let at = n.0 in
    let from : c.self.inside.from.items ≡ c.args.self.now.from = ap (λ (t : PlainTree). t.from) c.self.view_is in
    let found : c.self.inside.found.items ≡ c.args.self.now.found = ap (λ (t : PlainTree). t.found) c.self.view_is in
    let as_many : length c.self.inside.from.items ≡ length c.args.self.now.found = ap length from ∙ c.requires.tree.same in
    let all : length c.self.inside.found.items ≡ length c.args.self.now.found = ap length found in
    let place : nth c.args.self.now.from c.in-Some.number ≡ c.index-place.result.now =
    ap (λ ns. nth ns c.in-Some.number) (sym from) ∙ get_or_default c.self.inside.from.items c.in-Some.number 0 c.index-place.result.now (omega (arith, at, as_many)) ∙ sym c.index-place.ensures in
    let walk : c.push.new.self.items ≡ c.args.end ∷ [] = c.in_ok-push.ensures.items ∙ ap (λ ns. ns ++ c.args.end ∷ []) c.clear.ensures.items in
    rw walk (subst (λ p. IsClimb c.args.leading.now c.args.start c.args.self.now c.in-Some.number p (c.args.end ∷ [])) place
    (subst (λ y. IsClimb c.args.leading.now c.args.start c.args.self.now c.in-Some.number (nth c.args.self.now.from c.in-Some.number) (y ∷ [])) n.1
    (climb_begin c.args.leading.now c.args.start c.args.self.now c.requires.tree c.in-Some.number at)))

pub index-requires-in-loop-place : goal.index-requires-in-loop-place
index-requires-in-loop-place c =
    let low : c.args.end < length c.self.inside.numbers.items = c.self.invariant.within c.args.end (subst (λ (t : PlainTree). Contains t.found c.args.end) (sym c.self.view_is) c.requires.end) in
    let n = number_read c.args.leading.now c.args.start c.args.self.now c.requires.tree c.args.end c.in-Some.number c.requires.end c.self.inside.numbers.items (ap (λ (t : PlainTree). t.numbers) c.self.view_is)
    c.index.result.now low c.index.ensures c.in-Some.is in
    let at = n.0 in
    let from : c.self.inside.from.items ≡ c.args.self.now.from = ap (λ (t : PlainTree). t.from) c.self.view_is in
    let found : c.self.inside.found.items ≡ c.args.self.now.found = ap (λ (t : PlainTree). t.found) c.self.view_is in
    let as_many : length c.self.inside.from.items ≡ length c.args.self.now.found = ap length from ∙ c.requires.tree.same in
    let all : length c.self.inside.found.items ≡ length c.args.self.now.found = ap length found in
    omega (arith, at, all, c.loop-place.invariant.below, c.loop-place-test.true, c.self.inside.found.ok.0)

pub index-place-requires-in-loop-place : goal.index-place-requires-in-loop-place
index-place-requires-in-loop-place c =
    let low : c.args.end < length c.self.inside.numbers.items = c.self.invariant.within c.args.end (subst (λ (t : PlainTree). Contains t.found c.args.end) (sym c.self.view_is) c.requires.end) in
    let n = number_read c.args.leading.now c.args.start c.args.self.now c.requires.tree c.args.end c.in-Some.number c.requires.end c.self.inside.numbers.items (ap (λ (t : PlainTree). t.numbers) c.self.view_is)
    c.index.result.now low c.index.ensures c.in-Some.is in
    let at = n.0 in
    let from : c.self.inside.from.items ≡ c.args.self.now.from = ap (λ (t : PlainTree). t.from) c.self.view_is in
    let found : c.self.inside.found.items ≡ c.args.self.now.found = ap (λ (t : PlainTree). t.found) c.self.view_is in
    let as_many : length c.self.inside.from.items ≡ length c.args.self.now.found = ap length from ∙ c.requires.tree.same in
    let all : length c.self.inside.found.items ≡ length c.args.self.now.found = ap length found in
    omega (arith, at, as_many, c.loop-place.invariant.below, c.loop-place-test.true, c.self.inside.from.ok.0)

pub loop-place-smaller : goal.loop-place-smaller
loop-place-smaller c =
    let low : c.args.end < length c.self.inside.numbers.items = c.self.invariant.within c.args.end (subst (λ (t : PlainTree). Contains t.found c.args.end) (sym c.self.view_is) c.requires.end) in
    let n = number_read c.args.leading.now c.args.start c.args.self.now c.requires.tree c.args.end c.in-Some.number c.requires.end c.self.inside.numbers.items (ap (λ (t : PlainTree). t.numbers) c.self.view_is)
    c.index.result.now low c.index.ensures c.in-Some.is in
    let at = n.0 in
    let from : c.self.inside.from.items ≡ c.args.self.now.from = ap (λ (t : PlainTree). t.from) c.self.view_is in
    let found : c.self.inside.found.items ≡ c.args.self.now.found = ap (λ (t : PlainTree). t.found) c.self.view_is in
    let as_many : length c.self.inside.from.items ≡ length c.args.self.now.found = ap length from ∙ c.requires.tree.same in
    let all : length c.self.inside.found.items ≡ length c.args.self.now.found = ap length found in
    let low : c.loop-place.place - 1 < length c.args.self.now.found = omega (arith, at, c.loop-place.invariant.below, c.loop-place-test.true) in
    let place : nth c.args.self.now.from (c.loop-place.place - 1) ≡ c.index-place-in-loop-place.result.now =
    ap (λ ns. nth ns (c.loop-place.place - 1)) (sym from) ∙ get_or_default c.self.inside.from.items (c.loop-place.place - 1) 0 c.index-place-in-loop-place.result.now (omega (arith, low, as_many)) ∙ sym c.index-place-in-loop-place.ensures in
    let up = c.requires.tree.walks.up (c.loop-place.place - 1) low in
    omega (arith, place, up, c.loop-place-test.true)

pub loop-place-preserved : goal.loop-place-preserved
loop-place-preserved c =
    let low : c.args.end < length c.self.inside.numbers.items = c.self.invariant.within c.args.end (subst (λ (t : PlainTree). Contains t.found c.args.end) (sym c.self.view_is) c.requires.end) in
    let n = number_read c.args.leading.now c.args.start c.args.self.now c.requires.tree c.args.end c.in-Some.number c.requires.end c.self.inside.numbers.items (ap (λ (t : PlainTree). t.numbers) c.self.view_is)
    c.index.result.now low c.index.ensures c.in-Some.is in
    let at = n.0 in
    let from : c.self.inside.from.items ≡ c.args.self.now.from = ap (λ (t : PlainTree). t.from) c.self.view_is in
    let found : c.self.inside.found.items ≡ c.args.self.now.found = ap (λ (t : PlainTree). t.found) c.self.view_is in
    let as_many : length c.self.inside.from.items ≡ length c.args.self.now.found = ap length from ∙ c.requires.tree.same in
    let all : length c.self.inside.found.items ≡ length c.args.self.now.found = ap length found in
    let low : c.loop-place.place - 1 < length c.args.self.now.found = omega (arith, at, c.loop-place.invariant.below, c.loop-place-test.true) in
    let place : nth c.args.self.now.from (c.loop-place.place - 1) ≡ c.index-place-in-loop-place.result.now =
    ap (λ ns. nth ns (c.loop-place.place - 1)) (sym from) ∙ get_or_default c.self.inside.from.items (c.loop-place.place - 1) 0 c.index-place-in-loop-place.result.now (omega (arith, low, as_many)) ∙ sym c.index-place-in-loop-place.ensures in
    let class : nth c.args.self.now.found (c.loop-place.place - 1) ≡ c.index-in-loop-place.result.now =
    ap (λ ns. nth ns (c.loop-place.place - 1)) (sym found) ∙ get_or_default c.self.inside.found.items (c.loop-place.place - 1) 0 c.index-in-loop-place.result.now (omega (arith, low, all)) ∙ sym c.index-in-loop-place.ensures in
    let walk : reverse c.push-in-loop-place.new.self.items ≡ c.index-in-loop-place.result.now ∷ reverse c.loop-place.walk.items =
    ap reverse c.in_ok-push-2.ensures.items ∙ reverse-append c.loop-place.walk.items (c.index-in-loop-place.result.now ∷ []) in
    rw walk (subst (λ p. IsClimb c.args.leading.now c.args.start c.args.self.now c.in-Some.number p (c.index-in-loop-place.result.now ∷ reverse c.loop-place.walk.items)) place
    (subst (λ y. IsClimb c.args.leading.now c.args.start c.args.self.now c.in-Some.number (nth c.args.self.now.from (c.loop-place.place - 1)) (y ∷ reverse c.loop-place.walk.items)) class
    (climb_more c.args.leading.now c.args.start c.args.self.now c.requires.tree c.in-Some.number at c.loop-place.place (reverse c.loop-place.walk.items) (omega (arith, c.loop-place-test.true)) c.loop-place.invariant)))

pub returns : goal.returns
returns c =
    let low : c.args.end < length c.self.inside.numbers.items = c.self.invariant.within c.args.end (subst (λ (t : PlainTree). Contains t.found c.args.end) (sym c.self.view_is) c.requires.end) in
    let n = number_read c.args.leading.now c.args.start c.args.self.now c.requires.tree c.args.end c.in-Some.number c.requires.end c.self.inside.numbers.items (ap (λ (t : PlainTree). t.numbers) c.self.view_is)
    c.index.result.now low c.index.ensures c.in-Some.is in
    let at = n.0 in
    let from : c.self.inside.from.items ≡ c.args.self.now.from = ap (λ (t : PlainTree). t.from) c.self.view_is in
    let found : c.self.inside.found.items ≡ c.args.self.now.found = ap (λ (t : PlainTree). t.found) c.self.view_is in
    let as_many : length c.self.inside.from.items ≡ length c.args.self.now.found = ap length from ∙ c.requires.tree.same in
    let all : length c.self.inside.found.items ≡ length c.args.self.now.found = ap length found in
    let walk : c.reverse.new.self.items ≡ c.args.start ∷ reverse c.loop-place.walk.items =
    c.reverse.ensures.items ∙ ap reverse c.in_ok-push-3.ensures.items ∙ reverse-append c.loop-place.walk.items (c.args.start ∷ []) in
    rw walk (subst (λ y. IsShownWalk (IsNear c.args.leading.now.lists) (ComesBefore c.args.leading.now.places) c.args.start y (c.args.start ∷ reverse c.loop-place.walk.items)) n.1
    (climb_end c.args.leading.now c.args.start c.args.self.now c.requires.tree c.in-Some.number at c.loop-place.place (reverse c.loop-place.walk.items) (omega (arith, c.loop-place-test.false)) c.loop-place.invariant))
