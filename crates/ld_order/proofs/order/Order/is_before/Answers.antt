use Rattle.std.proofs.Common.{◌≡◌, ◌<◌, ◌+◌, ◌↔◌, IsTrue, arith, get_or, length, ltb, subst, sym}
use Rattle.std.proofs.lemmas.Bool.{ltb-true, lt-ltb}
use Rattle.std.proofs.lemmas.List.{get_or_read}
use Rattle.ld_order.specs.Orders.{AreRanks}
use Rattle.ld_order.specs.Inner.Kept.{ranks_of}
use Rattle.ld_order.proofs.ClassLemmas.{are_ranks, class_below, ranks_tell, ring_of}
use Rattle.ld_order.proofs.order.Order.is_before.Goals as goal

pub index-requires : goal.index-requires
index-requires c =
    let l = class_below c.self.inside c.args.a (subst (λ o. c.args.a < length o.ranks) (sym c.self.view_is) c.requires.a) in omega (arith, l)

pub index-requires-2 : goal.index-requires-2
index-requires-2 c =
    let l = class_below c.self.inside c.args.b (subst (λ o. c.args.b < length o.ranks) (sym c.self.view_is) c.requires.b) in omega (arith, l)

pub returns-clause-before : goal.returns-clause-before
returns-clause-before c =
    let labels = c.self.inside.labels.items in
    let a : c.args.a < length (ranks_of labels) = subst (λ o. c.args.a < length o.ranks) (sym c.self.view_is) c.requires.a in
    let b : c.args.b < length (ranks_of labels) = subst (λ o. c.args.b < length o.ranks) (sym c.self.view_is) c.requires.b in
    let r = ring_of c.self.inside c.self.invariant c.args.a a in
    let in_a = class_below c.self.inside c.args.a a in let in_b = class_below c.self.inside c.args.b b in
    let t = ranks_tell labels c.self.inside.next.items c.self.inside.prev.items r c.args.a c.args.b in_a in_b in
    let e : c.index.result.now ≡ get_or labels (c.args.a + 1) 0 = get_or_read labels (c.args.a + 1) c.index.result.now in_a c.index.ensures 0 in
    let f : c.index-2.result.now ≡ get_or labels (c.args.b + 1) 0 = get_or_read labels (c.args.b + 1) c.index-2.result.now in_b c.index-2.ensures 0 in
    subst (λ o. IsTrue (ltb c.index.result.now c.index-2.result.now) ↔ (get_or o.ranks c.args.a 0 < get_or o.ranks c.args.b 0)) c.self.view_is (
      λ h. t.1 (let q = ltb-true c.index.result.now c.index-2.result.now h in omega (arith, q, e, f)),
      λ h. lt-ltb c.index.result.now c.index-2.result.now (let q = t.0 h in omega (arith, q, e, f)),
    )

pub returns-clause-dense : goal.returns-clause-dense
returns-clause-dense c =
    let a : c.args.a < length (ranks_of c.self.inside.labels.items) = subst (λ o. c.args.a < length o.ranks) (sym c.self.view_is) c.requires.a in
    subst (λ o. AreRanks o.ranks) c.self.view_is (are_ranks c.self.inside.labels.items c.self.inside.next.items c.self.inside.prev.items
    (ring_of c.self.inside c.self.invariant c.args.a a))
