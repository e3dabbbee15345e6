use Rattle.std.proofs.Common.{◌≡◌, ◌-◌, ◌<◌, ◌∙◌, drop, length, take, arith, ap, sym, subst}
use Rattle.std.proofs.lemmas.List.{length-drop, take_all}
use Rattle.ld_order.specs.Orders.{AreInOrder, AreRanks}
use Rattle.ld_order.specs.Inner.Kept.{ranks_of}
use Rattle.ld_order.proofs.ClassLemmas.{are_ranks, labels_in_order, ranks_len, ring_of}
use Rattle.ld_order.proofs.order.Order.labels.Goals as goal

pub returns-clause-len : goal.returns-clause-len
returns-clause-len c =
    let d = c.deref.result.now in
    let e = ap length (take_all (length d - 1) (drop 1 d) (let l = length-drop 1 d in omega (arith, l))) in
    let l = length-drop 1 d in let v = ap length c.deref.ensures.value in
    let m = ranks_len c.self.inside.labels.items in let n = ap (λ o. length o.ranks) c.self.view_is in
    omega (arith, e, l, v, m, n)

pub returns-clause-order : goal.returns-clause-order
returns-clause-order c =
    let d = c.deref.result.now in
    let some : 0 < length (ranks_of c.self.inside.labels.items) = subst (λ o. 0 < length o.ranks) (sym c.self.view_is) c.requires in
    let e : take (length d - 1) (drop 1 d) ≡ drop 1 c.self.inside.labels.items =
    take_all (length d - 1) (drop 1 d) (let l = length-drop 1 d in omega (arith, l)) ∙ ap (drop 1) c.deref.ensures.value in
    subst (λ o. AreInOrder o.ranks (take (length d - 1) (drop 1 d))) c.self.view_is
    (subst (AreInOrder (ranks_of c.self.inside.labels.items)) (sym e)
    (labels_in_order c.self.inside.labels.items c.self.inside.next.items c.self.inside.prev.items (ring_of c.self.inside c.self.invariant 0 some)))

pub returns-clause-dense : goal.returns-clause-dense
returns-clause-dense c =
    let some : 0 < length (ranks_of c.self.inside.labels.items) = subst (λ o. 0 < length o.ranks) (sym c.self.view_is) c.requires in
    subst (λ o. AreRanks o.ranks) c.self.view_is (are_ranks c.self.inside.labels.items c.self.inside.next.items c.self.inside.prev.items
    (ring_of c.self.inside c.self.invariant 0 some))
