use Rattle.std.proofs.Common.{◌≡◌, ◌≢◌, ◌+◌, ◌-◌, ◌<◌, ◌∙◌, true≢false, length, arith, ap, sym, subst, refl, vec_len, get_or, drop}
use Rattle.std.proofs.lemmas.Bool.{eq-eqb}
use Rattle.std.proofs.Common.{List, ℕ}
use Rattle.std.proofs.lemmas.Grind.{same_number_lists}
use Rattle.std.proofs.lemmas.List.{take_at}
use Rattle.ld_order.specs.Orders.{AreRanks}
use Rattle.ld_order.specs.Inner.Kept.{ranks_of}
use Rattle.ld_order.specs.Inner.Rings.{IsRing, rank}
use Rattle.ld_order.proofs.ClassLemmas.{are_ranks, rank_is, ranks_len, ring_some}
use Rattle.ld_order.proofs.order.Order.ranks.Goals as goal

pub fill-requires-clause-ring : goal.fill-requires-clause-ring
fill-requires-clause-ring c =
    subst (λ l. IsRing l c.deref-3.result.now c.deref-4.result.now) (sym c.deref-2.ensures.value)
    (subst (λ l. IsRing c.self.inside.labels.items l c.deref-4.result.now) (sym c.deref-3.ensures.value)
    (subst (IsRing c.self.inside.labels.items c.self.inside.next.items) (sym c.deref-4.ensures.value)
    (ring_some c.self.inside c.self.invariant (λ e.
    let z : vec_len c.self.inside.labels ≡ 0 = omega (arith, e) in
    true≢false (sym (c.is_empty.ensures ∙ eq-eqb (vec_len c.self.inside.labels) 0 z) ∙ c.if-is_empty.false)))))

pub returns : goal.returns
returns c =
    let labels = c.self.inside.labels.items in
    let r = ring_some c.self.inside c.self.invariant (λ e.
    let z : vec_len c.self.inside.labels ≡ 0 = omega (arith, e) in
    true≢false (sym (c.is_empty.ensures ∙ eq-eqb (vec_len c.self.inside.labels) 0 z) ∙ c.if-is_empty.false)) in
    let n = ranks_len labels in
    let len : length c.fill.new.ranks ≡ length (ranks_of labels) =
    (let d = ap length c.deref_mut.ensures.value in omega (arith, n, d, c.fill.ensures.len, c.self.invariant.ranks_len)) in
    let same : c.fill.new.ranks ≡ ranks_of labels = same_number_lists c.fill.new.ranks (ranks_of labels) len (λ k l.
    let e = subst (λ (l : List ℕ). get_or c.fill.new.ranks k 0 + 1 ≡ rank (length l) (λ x. get_or l x 0) (k + 1)) c.deref-2.ensures.value
    (c.fill.ensures.ranks k (omega (arith, l, c.fill.ensures.len))) in
    let f = rank_is labels c.self.inside.next.items c.self.inside.prev.items r k (omega (arith, l, len, n)) in
    omega (arith, e, f)) in (
      (refl, (λ _. tt), c.self.view_is),
      record {
        same = tt;
        ranks = c.deref-5.ensures.value
            ∙ take_at c.fill.new.ranks (drop (length c.fill.new.ranks) c.self.inside.ranks.items) _ (c.fill.ensures.len ∙ c.deref_mut.ensures.len)
            ∙ same ∙ ap (λ o. o.ranks) c.self.view_is;
        dense = subst (λ o. AreRanks o.ranks) c.self.view_is (are_ranks labels c.self.inside.next.items c.self.inside.prev.items r);
      },
    )
