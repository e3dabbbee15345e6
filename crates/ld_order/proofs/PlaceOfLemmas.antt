-- The node before another one, and the last one.
use Rattle.std.proofs.Common.{◌≡◌, ◌↔◌, ℕ, ◌<◌, ◌≤◌, arith, sym, ap, ◌∙◌}
use Rattle.ld_order.specs.Inner.Rings.{AreLinked, IsNode}

module _ (n : ℕ) (label next prev : ℕ → ℕ) (r : AreLinked n label next prev n) where
  node : (c : ℕ) → c < n → IsNode n n c
  node c h = (h, λ e. omega (arith, h, e))

  pub before_in : (b : ℕ) → b < n → prev b < n
  before_in b l = (r.prev_in b (node b l)).0

  module _ (b : ℕ) (l : b < n) (s : 0 < b) where
    pub before_less : label (prev b) < label b
    before_less =
        let f = r.forth b (node b l) in
        let u = r.up (prev b) (r.prev_in b (node b l)) (λ z. let q : b ≡ 0 = sym f ∙ z in omega (arith, q, s)) in
        let v = ap label f in omega (arith, u, v)

    -- behind the one before b is b, and what is behind b
    pub behind_before : (x : ℕ) → x < n → (label (prev b) < label x) ↔ (label b ≤ label x)
    behind_before x h = (
      λ a. let m = r.none (prev b) x (r.prev_in b (node b l)) (node x h) a in
          let v = ap label (r.forth b (node b l)) in let w = m.1 in omega (arith, v, w),
      λ a. let u = before_less in omega (arith, u, a),
    )

  -- nothing is behind the one before the head
  pub last_most : (x : ℕ) → x < n → label x ≤ label (prev 0)
  last_most x h =
      let none : ¬ (label (prev 0) < label x) =
      λ a. (r.none (prev 0) x (r.prev_in 0 (node 0 r.some)) (node x h) a).0 (r.forth 0 (node 0 r.some)) in omega (arith, none)
