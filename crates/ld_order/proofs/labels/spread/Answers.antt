use Rattle.std.proofs.Common.{◌≡◌, ◌+◌, ◌*◌, ◌≤◌, ◌∙◌, arith, get_or, length, refl, sym, subst}
use Rattle.std.proofs.lemmas.List.{length-set}
use Rattle.std.proofs.Math.Nat.{add-mul, mul-le-mul_right}
use Rattle.ld_order.specs.Inner.Rings.{AreLinked, IsSpread, rank}
use Rattle.ld_order.proofs.RankLemmas.{rank-head, rank-step, relabelled}
use Rattle.ld_order.proofs.SpreadLemmas.{rising_same, spread_rises, spread-more, spread-none}
use Rattle.ld_order.proofs.labels.spread.Goals as goal

pub bounds-next-node : goal.bounds-next-node
bounds-next-node c = let i = c.loop.invariant in let n = c.requires.ring.next_len in omega (arith, i.within, n)

pub overflow_add-label-in-loop : goal.overflow_add-label-in-loop
overflow_add-label-in-loop c =
    let i = c.loop.invariant in
    let m : (c.args.left + c.loop.counter + 1) * c.args.step ≤ (c.args.left + c.args.count) * c.args.step = mul-le-mul_right c.args.step (omega (arith, c.loop-test.true)) in
    let e = add-mul (c.args.left + c.loop.counter) 1 c.args.step in
    omega (arith, i.label, m, e, c.requires.fits)

pub loop-init : goal.loop-init
loop-init c = record {
  within = c.requires.at;
  here = omega arith;
  label = omega arith;
  len = refl;
  spread = spread-none (length c.args.labels.now) (λ k. get_or c.args.labels.now k 0) c.args.at c.args.left c.args.step;
}

pub loop-preserved : goal.loop-preserved
loop-preserved c =
    let i = c.loop.invariant in
    let r = c.requires.ring.links in
    let e = add-mul (c.args.left + c.loop.counter) 1 c.args.step in
    let k : rank (length c.args.labels.now) (λ k. get_or c.args.labels.now k 0) (get_or c.args.next.now c.loop.node 0)
    ≡ rank (length c.args.labels.now) (λ k. get_or c.args.labels.now k 0) c.args.at + c.loop.counter + 1 =
    (let s = rank-step (length c.args.labels.now) (λ k. get_or c.args.labels.now k 0) (λ k. get_or c.args.next.now k 0) (λ k. get_or c.args.prev.now k 0) r
    c.loop.node i.within (omega (arith, i.here, c.loop-test.true, c.requires.count)) in omega (arith, s, i.here)) in
    let w = (r.next_in c.loop.node (i.within, λ z. omega (arith, z, i.within))).0 in
    record {
      within = w;
      here = omega (arith, k);
      label = omega (arith, i.label, e);
      len = length-set c.loop.labels (get_or c.args.next.now c.loop.node 0) (c.loop.label + c.args.step) ∙ i.len;
      spread = spread-more (length c.args.labels.now) (λ k. get_or c.args.labels.now k 0) (λ k. get_or c.args.next.now k 0) (λ k. get_or c.args.prev.now k 0) r
          c.args.at c.args.left c.loop.counter c.args.step (get_or c.args.next.now c.loop.node 0) (c.loop.label + c.args.step) c.loop.labels i.len w k
          (omega (arith, i.label, e)) i.spread;
    }

pub returns-clause-spread : goal.returns-clause-spread
returns-clause-spread c =
    let e : c.loop.counter ≡ c.args.count = omega (arith, c.loop-test.false, c.loop.auto.counter-end) in
    subst (λ m. IsSpread (length c.args.labels.now) (λ k. get_or c.args.labels.now k 0) (λ k. get_or c.loop.labels k 0) c.args.at c.args.left m c.args.step) e c.loop.invariant.spread

pub returns-clause-order : goal.returns-clause-order
returns-clause-order c =
    let e : c.loop.counter ≡ c.args.count = omega (arith, c.loop-test.false, c.loop.auto.counter-end) in
    let s = subst (λ m. IsSpread (length c.args.labels.now) (λ k. get_or c.args.labels.now k 0) (λ k. get_or c.loop.labels k 0) c.args.at c.args.left m c.args.step) e c.loop.invariant.spread in
    rising_same (length c.args.labels.now) (λ k. get_or c.args.labels.now k 0) (λ k. get_or c.args.next.now k 0) (λ k. get_or c.args.prev.now k 0) (λ k. get_or c.loop.labels k 0) c.requires.ring.links
    (spread_rises (length c.args.labels.now) (λ k. get_or c.args.labels.now k 0) (λ k. get_or c.args.next.now k 0) (λ k. get_or c.args.prev.now k 0) (λ k. get_or c.loop.labels k 0) c.requires.ring.links
    c.args.at c.args.left c.args.count c.args.step c.requires.at s c.requires.step c.requires.stretch)

pub returns-clause-ring : goal.returns-clause-ring
returns-clause-ring c =
    let i = c.loop.invariant in
    let r = c.requires.ring in
    let e : c.loop.counter ≡ c.args.count = omega (arith, c.loop-test.false, c.loop.auto.counter-end) in
    let s = subst (λ m. IsSpread (length c.args.labels.now) (λ k. get_or c.args.labels.now k 0) (λ k. get_or c.loop.labels k 0) c.args.at c.args.left m c.args.step) e i.spread in
    record {
      next_len = r.next_len ∙ sym i.len;
      prev_len = r.prev_len ∙ sym i.len;
      links = subst (λ m. AreLinked m (λ k. get_or c.loop.labels k 0) (λ k. get_or c.args.next.now k 0) (λ k. get_or c.args.prev.now k 0) m) (sym i.len)
          (relabelled (length c.args.labels.now) (λ k. get_or c.args.labels.now k 0) (λ k. get_or c.args.next.now k 0) (λ k. get_or c.args.prev.now k 0) (λ k. get_or c.loop.labels k 0) r.links
          (rising_same (length c.args.labels.now) (λ k. get_or c.args.labels.now k 0) (λ k. get_or c.args.next.now k 0) (λ k. get_or c.args.prev.now k 0) (λ k. get_or c.loop.labels k 0) r.links
          (spread_rises (length c.args.labels.now) (λ k. get_or c.args.labels.now k 0) (λ k. get_or c.args.next.now k 0) (λ k. get_or c.args.prev.now k 0) (λ k. get_or c.loop.labels k 0) r.links
          c.args.at c.args.left c.args.count c.args.step c.requires.at s c.requires.step c.requires.stretch))
          (s.below 0 r.links.some (let z = rank-head (length c.args.labels.now) (λ k. get_or c.args.labels.now k 0) (λ k. get_or c.args.next.now k 0) (λ k. get_or c.args.prev.now k 0) r.links in omega (arith, z)) ∙ r.links.head));
    }
