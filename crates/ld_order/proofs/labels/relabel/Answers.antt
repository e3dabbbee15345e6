use Rattle.std.proofs.Common.{◌≡◌, ◌+◌, ◌*◌, ◌<◌, ◌∙◌, ℕ, arith, get_or, length, refl, sym, subst, ap}
use Rattle.std.proofs.lemmas.List.{length-set}
use Rattle.std.proofs.Math.Nat.{add-mul}
use Rattle.ld_order.specs.Inner.Rings.{AreLinked, rank}
use Rattle.ld_order.proofs.RankLemmas.{rank-below, rank-head, rank-step, relabelled, stepped}
use Rattle.ld_order.proofs.WalkLemmas.{walk-more}
use Rattle.ld_order.proofs.labels.relabel.Goals as goal
use Rattle.ld_order.proofs.labels.relabel.Goals.{then-place-labels, else-place-labels, After-loop-place}

pub loop-place-init : goal.loop-place-init
loop-place-init c = record {
  within = c.requires.ring.links.some;
  here = λ l. rank-head (length c.args.labels.now) (λ k. get_or c.args.labels.now k 0) (λ k. get_or c.args.next.now k 0) (λ k. get_or c.args.prev.now k 0) c.requires.ring.links;
  label = λ l. omega arith;
  len = refl;
  done = λ d h l. absurd (omega (arith, l));
}

pub loop-place-preserved : goal.loop-place-preserved
loop-place-preserved c =
    let i = c.loop-place.invariant in
    let t : c.loop-place.place < length c.args.labels.now = omega (arith, c.loop-place-test.true, i.len) in
    let r = c.requires.ring.links in
    record {
      within = (r.next_in c.loop-place.node (i.within, λ e. omega (arith, e, i.within))).0;
      here = λ l. let h = i.here t in
          let s = rank-step (length c.args.labels.now) (λ k. get_or c.args.labels.now k 0) (λ k. get_or c.args.next.now k 0) (λ k. get_or c.args.prev.now k 0) r
          c.loop-place.node i.within (omega (arith, h, l)) in omega (arith, s, h);
      label = λ l. elim c.if-place-labels.branch as (λ _. c.if-place-labels.label ≡ (c.loop-place.place + 1) * c.args.step) [
        | then-place-labels w ↦ (let k = i.label t in let e = add-mul c.loop-place.place 1 c.args.step in omega (arith, k, e, w.label-is))
        | else-place-labels w ↦ absurd (let n = length-set c.loop-place.labels c.loop-place.node c.loop-place.label in omega (arith, w.if-place-labels.false, l, i.len, n))
      ];
      len = length-set c.loop-place.labels c.loop-place.node c.loop-place.label ∙ i.len;
      done = walk-more (length c.args.labels.now) (λ k. get_or c.args.labels.now k 0) (λ k. get_or c.args.next.now k 0) (λ k. get_or c.args.prev.now k 0) r
          c.loop-place.labels c.loop-place.place c.loop-place.node c.loop-place.label (λ k. k * c.args.step) i.len i.within (i.here t) (i.label t) i.done;
    }

pub returns-clause-labels : goal.returns-clause-labels
returns-clause-labels c = λ d h.
    let i = c.loop-place.invariant in
    let b = rank-below (length c.args.labels.now) (λ k. get_or c.args.labels.now k 0) d h in
    i.done d h (omega (arith, b, c.loop-place-test.false, c.loop-place.auto.place-end))

pub returns-clause-order : goal.returns-clause-order
returns-clause-order c =
    let i = c.loop-place.invariant in
    stepped (length c.args.labels.now) (λ k. get_or c.args.labels.now k 0) (λ k. get_or c.loop-place.labels k 0) c.args.step
    c.requires.step (λ d h.
    let b = rank-below (length c.args.labels.now) (λ k. get_or c.args.labels.now k 0) d h in
    i.done d h (omega (arith, b, c.loop-place-test.false, c.loop-place.auto.place-end)))

pub returns-clause-ring : goal.returns-clause-ring
returns-clause-ring c =
    let i = c.loop-place.invariant in
    let r = c.requires.ring in
    let all : (d : ℕ) → d < length c.args.labels.now → get_or c.loop-place.labels d 0 ≡ rank (length c.args.labels.now) (λ k. get_or c.args.labels.now k 0) d * c.args.step = λ d h.
    let b = rank-below (length c.args.labels.now) (λ k. get_or c.args.labels.now k 0) d h in
    i.done d h (omega (arith, b, c.loop-place-test.false, c.loop-place.auto.place-end)) in
    let z = rank-head (length c.args.labels.now) (λ k. get_or c.args.labels.now k 0) (λ k. get_or c.args.next.now k 0) (λ k. get_or c.args.prev.now k 0) r.links in
    record {
      next_len = r.next_len ∙ sym i.len;
      prev_len = r.prev_len ∙ sym i.len;
      links = subst (λ m. AreLinked m (λ k. get_or c.loop-place.labels k 0) (λ k. get_or c.args.next.now k 0) (λ k. get_or c.args.prev.now k 0) m) (sym i.len)
          (relabelled (length c.args.labels.now) (λ k. get_or c.args.labels.now k 0) (λ k. get_or c.args.next.now k 0) (λ k. get_or c.args.prev.now k 0) (λ k. get_or c.loop-place.labels k 0) r.links
          (stepped (length c.args.labels.now) (λ k. get_or c.args.labels.now k 0) (λ k. get_or c.loop-place.labels k 0) c.args.step c.requires.step all)
          (all 0 r.links.some ∙ ap (λ k. k * c.args.step) z ∙ (let e : 0 * c.args.step ≡ 0 = omega arith in e)));
    }
