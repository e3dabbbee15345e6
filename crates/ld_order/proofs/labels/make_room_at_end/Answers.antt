use Rattle.std.proofs.Common.{◌+◌, ◌<◌, ◌∙◌, ◌^◌, drop, arith, ap, get_or, length, subst, sym}
use Rattle.std.proofs.lemmas.List.{take_at}
use Rattle.ld_order.specs.declared.labels.TheConstants.{STEP}
use Rattle.ld_order.specs.Inner.Rings.{IsRing, IsSameOrder}
use Rattle.ld_order.proofs.RankLemmas.{rank-below}
use Rattle.ld_order.proofs.labels.make_room_at_end.Goals as goal

pub relabel-requires-clause-ring : goal.relabel-requires-clause-ring
relabel-requires-clause-ring c = subst (λ l. IsRing l c.args.next.now c.args.prev.now) (sym c.deref_mut.ensures.value) c.requires.ring

pub returns-clause-ring : goal.returns-clause-ring
returns-clause-ring c =
    subst (λ l. IsRing l c.args.next.now c.args.prev.now)
    (sym (take_at c.relabel.new.labels (drop (length c.relabel.new.labels) c.args.labels.now.items) _ (c.relabel.ensures.len ∙ c.deref_mut.ensures.len)))
    c.relabel.ensures.ring

pub returns-clause-order : goal.returns-clause-order
returns-clause-order c =
    subst (λ l. IsSameOrder (length c.args.labels.now.items) (λ k. get_or c.args.labels.now.items k 0) (λ k. get_or l k 0))
    (sym (take_at c.relabel.new.labels (drop (length c.relabel.new.labels) c.args.labels.now.items) _ (c.relabel.ensures.len ∙ c.deref_mut.ensures.len)))
    (subst (λ l. IsSameOrder (length l) (λ k. get_or l k 0) (λ k. get_or c.relabel.new.labels k 0)) c.deref_mut.ensures.value c.relabel.ensures.order)

pub returns-clause-top : goal.returns-clause-top
returns-clause-top c =
    let r = c.requires.ring.links in
    let l = (r.prev_in 0 (r.some, λ z. (let s = r.some in omega (arith, s, z)))).0 in
    let v = ap length c.deref_mut.ensures.value in
    let b = rank-below (length c.deref_mut.result.now) (λ k. get_or c.deref_mut.result.now k 0) (get_or c.args.prev.now 0 0) (omega (arith, l, v)) in
    let e = c.relabel.ensures.labels (get_or c.args.prev.now 0 0) (omega (arith, l, v)) in
    subst (λ l. get_or l (get_or c.args.prev.now 0 0) 0 + STEP < 2 ^ 64)
    (sym (take_at c.relabel.new.labels (drop (length c.relabel.new.labels) c.args.labels.now.items) _ (c.relabel.ensures.len ∙ c.deref_mut.ensures.len)))
    (omega (arith, e, b, v, c.requires.few))
