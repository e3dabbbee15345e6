use Rattle.std.proofs.Common.{◌≡◌, ◌≢◌, ◌⊎◌, inl, inr, ◌+◌, ◌-◌, ◌∙◌, arith, get_or, length, sym, subst, ap}
use Rattle.std.proofs.lemmas.Bool.{cases_eq}
use Rattle.ld_order.specs.Inner.Rings.{IsBehind, IsSameOrder, IsOneOf, IsShifted}
use Rattle.ld_order.proofs.ShiftLemmas.{shifted-more}
use Rattle.ld_order.proofs.moves.shift.Goals as goal

pub place-requires-clause-other : goal.place-requires-clause-other
place-requires-clause-other c = λ e. by e (cases_eq c.loop-node.node-index 0)
  where
    by : c.loop-node.behind ≡ get_or c.args.found.now c.loop-node.node-index 0
        → (c.loop-node.node-index ≡ 0) ⊎ (c.loop-node.node-index ≢ 0) → ⊥
    by e (inl z) = c.requires.free c.loop-node.node-index c.loop-node-test.true (sym e ∙ c.loop-node.invariant.begin z)
    by e (inr z) =
        let l = c.loop-node.invariant.last (omega (arith, z)) in
        let a = c.requires.rising (c.loop-node.node-index - 1) c.loop-node.node-index (omega (arith, z)) c.loop-node-test.true in
        let b = ap (λ k. get_or c.args.labels.now k 0) (sym l ∙ e) in omega (arith, a, b)

pub loop-node-preserved : goal.loop-node-preserved
loop-node-preserved c =
    let i = c.loop-node.invariant in
    let t = c.loop-node-test.true in
    record {
      ring = c.place.ensures.ring;
      left = omega (arith, i.left, t);
      len = c.place.ensures.len ∙ c.fit-label.ensures.len ∙ i.len;
      next_len = let n = c.place.ensures.ring.next_len in let m = c.place.ensures.len in let f = c.fit-label.ensures.len in let o = c.requires.ring.next_len in
          omega (arith, n, m, f, o, i.len);
      prev_len = let n = c.place.ensures.ring.prev_len in let m = c.place.ensures.len in let f = c.fit-label.ensures.len in let o = c.requires.ring.prev_len in
          omega (arith, n, m, f, o, i.len);
      begin = λ e. absurd (omega (arith, e));
      last = λ _. let e : c.loop-node.node-index ≡ c.loop-node.node-index + 1 - 1 = omega arith in
          ap (λ k. get_or c.args.found.now k 0) e;
      next = c.place.ensures.next ∙ i.next;
      shifted = shifted-more (length c.args.labels.now) (λ k. get_or c.args.labels.now k 0) (λ k. get_or c.loop-node.labels k 0)
          (λ k. get_or c.fit-label.new.labels k 0) (λ k. get_or c.place.new.labels k 0) c.args.found.now c.loop-node.node-index
          c.args.at c.loop-node.behind i.shifted
          (subst (λ m. IsSameOrder m (λ k. get_or c.loop-node.labels k 0) (λ k. get_or c.fit-label.new.labels k 0)) i.len c.fit-label.ensures.order)
          (subst (λ m. IsBehind m (λ k. get_or c.fit-label.new.labels k 0) (λ k. get_or c.place.new.labels k 0) (get_or c.args.found.now c.loop-node.node-index 0) c.loop-node.behind) (c.fit-label.ensures.len ∙ i.len) c.place.ensures.behind)
          (λ j k a b. c.requires.rising j k a (omega (arith, b, t)))
          (λ k b. c.requires.nodes k (omega (arith, b, t)))
          i.begin i.last c.requires.at (λ k b. c.requires.free k (omega (arith, b, t)));
    }

pub returns-clause-shifted : goal.returns-clause-shifted
returns-clause-shifted c =
    let e : c.loop-node.node-index ≡ length c.args.found.now = omega (arith, c.loop-node-test.false, c.loop-node.auto.node-index-end) in
    subst (λ m. IsShifted (length c.args.labels.now) (λ k. get_or c.args.labels.now k 0) (λ k. get_or c.loop-node.labels k 0)
    (IsOneOf c.args.found.now m) c.args.at) e c.loop-node.invariant.shifted
