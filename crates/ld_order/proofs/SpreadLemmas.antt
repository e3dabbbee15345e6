-- The labels of a stretch of nodes are dealt out anew, evenly.
use Rattle.std.proofs.Common.{◌≡◌, ◌≢◌, ◌⊎◌, inl, inr, ℕ, ◌+◌, ◌-◌, ◌*◌, ◌<◌, ◌≤◌, List, get_or, set, length, arith, refl, sym, ap, ◌∙◌, get_or-set_other, get_or-set_same}
use Rattle.std.proofs.lemmas.Bool.{cases_eq, cases_lt}
use Rattle.std.proofs.Math.Nat.{mul-le-mul_right, add-mul}
use Rattle.ld_order.specs.Inner.Rings.{AreLinked, IsSameOrder, IsSpread, rank}
use Rattle.ld_order.proofs.RankLemmas.{rank-less, rank-once}

-- labels that rise with the old ones are in their order
pub rising_same : (n : ℕ) (label next prev label_new : ℕ → ℕ) → AreLinked n label next prev n
    → ((c d : ℕ) → c < n → d < n → label c < label d → label_new c < label_new d) → IsSameOrder n label label_new
rising_same n label next prev label_new r up c d h k = (λ a. grind (arith, same, up d c k h, a), up c d h k)
  where
    same : label c ≡ label d → label_new c ≡ label_new d
    same e = ap label_new (r.once c d (h, λ w. omega (arith, h, w)) (k, λ w. omega (arith, k, w)) e)

module _ (n : ℕ) (label next prev label_new : ℕ → ℕ) (r : AreLinked n label next prev n) (at left count step : ℕ) (h : at < n)
    (s : IsSpread n label label_new at left count step) (some : 0 < step)
    (stretch : (c : ℕ) → c < n → rank n label at + count < rank n label c → label at + (left + count) * step < label c) where
  pub spread_rises : (c d : ℕ) → c < n → d < n → label c < label d → label_new c < label_new d
  spread_rises c d k l a = by (cases_lt (rank n label at) (rank n label c)) (cases_lt (rank n label at + count) (rank n label c))
      (cases_lt (rank n label at) (rank n label d)) (cases_lt (rank n label at + count) (rank n label d))
    where
      less : rank n label c < rank n label d
      less = rank-less n label c d k a

      mid_most : (e : ℕ) → e < n → rank n label at < rank n label e → rank n label e ≤ rank n label at + count
          → label_new e ≤ label at + (left + count) * step
      mid_most e q x y =
          let v = s.inside e q x y in
          let m : (left + (rank n label e - rank n label at)) * step ≤ (left + count) * step = mul-le-mul_right step (omega (arith, x, y)) in
          omega (arith, v, m)

      mid_more : (e : ℕ) → e < n → rank n label at < rank n label e → rank n label e ≤ rank n label at + count
          → label at < label_new e
      mid_more e q x y =
          let v = s.inside e q x y in
          let m : 1 * step ≤ (left + (rank n label e - rank n label at)) * step = mul-le-mul_right step (omega (arith, x, y)) in
          omega (arith, v, m, some)

      by : (rank n label at < rank n label c) ⊎ (rank n label c ≤ rank n label at)
          → (rank n label at + count < rank n label c) ⊎ (rank n label c ≤ rank n label at + count)
          → (rank n label at < rank n label d) ⊎ (rank n label d ≤ rank n label at)
          → (rank n label at + count < rank n label d) ⊎ (rank n label d ≤ rank n label at + count)
          → label_new c < label_new d
      by (inl x) (inl y) _ (inl z) = let u = s.above c k y in let v = s.above d l z in omega (arith, u, v, a)
      by _ (inl y) _ (inr z) = absurd (omega (arith, less, y, z))
      by (inr x) (inl y) _ _ = absurd (omega (arith, x, y))
      by (inl x) (inr y) _ (inl z) =
          let u = mid_most c k x y in let v = s.above d l z in let w = stretch d l z in omega (arith, u, v, w)
      by (inl x) (inr y) (inl t) (inr z) =
          let u = s.inside c k x y in let v = s.inside d l t z in
          let m : (left + (rank n label c - rank n label at) + 1) * step ≤ (left + (rank n label d - rank n label at)) * step = mul-le-mul_right step (omega (arith, less, x)) in
          let e = add-mul (left + (rank n label c - rank n label at)) 1 step in
          omega (arith, u, v, m, e, some)
      by (inl x) (inr y) (inr t) (inr z) = absurd (omega (arith, less, x, t))
      by (inr x) (inr y) (inl t) (inl z) =
          let u = s.below c k x in let v = s.above d l z in omega (arith, u, v, a)
      by (inr x) (inr y) (inl t) (inr z) =
          let u = s.below c k x in let v = mid_more d l t z in grind (arith, u, v, x, rank-less n label at c h)
      by (inr x) (inr y) (inr t) _ =
          let u = s.below c k x in let v = s.below d l t in omega (arith, u, v, a)

-- one node more
module _ (n : ℕ) (label next prev : ℕ → ℕ) (r : AreLinked n label next prev n) (at left count step node value : ℕ)
    (written : List ℕ) (len : length written ≡ n) (l : node < n) (here : rank n label node ≡ rank n label at + count + 1)
    (is : value ≡ label at + (left + (count + 1)) * step) (s : IsSpread n label (λ k. get_or written k 0) at left count step) where
  pub spread-more : IsSpread n label (λ k. get_or (set written node value) k 0) at left (count + 1) step
  spread-more = record {
    below = λ c h k. get_or-set_other written node c value 0 (ne c (λ e. omega (arith, e, here, k))) ∙ s.below c h k;
    inside = λ c h k m. inside c h k m (cases_eq c node);
    above = λ c h k. get_or-set_other written node c value 0 (ne c (λ e. omega (arith, e, here, k))) ∙ s.above c h (omega (arith, k));
  }
    where
      ne : (c : ℕ) → (rank n label c ≢ rank n label node) → c ≢ node
      ne c f e = f (ap (rank n label) e)

      inside : (c : ℕ) → c < n → rank n label at < rank n label c → rank n label c ≤ rank n label at + (count + 1)
          → (c ≡ node) ⊎ (c ≢ node) → get_or (set written node value) c 0 ≡ label at + (left + (rank n label c - rank n label at)) * step
      inside c h k m (inl e) =
          let q : rank n label c - rank n label at ≡ count + 1 = (let a = ap (rank n label) e in omega (arith, a, here)) in
          ap (λ k. get_or (set written node value) k 0) e
          ∙ get_or-set_same written node value 0 (omega (arith, l, len)) ∙ is ∙ ap (λ k. label at + (left + k) * step) (sym q)
      inside c h k m (inr e) =
          let f : rank n label c ≢ rank n label node = λ w. e (rank-once n label next prev r c node h l w) in
          get_or-set_other written node c value 0 e ∙ s.inside c h k (omega (arith, m, f, here))

pub spread-none : (n : ℕ) (label : ℕ → ℕ) (at left step : ℕ) → IsSpread n label label at left 0 step
spread-none n label at left step = record {
  below = λ c h k. refl;
  inside = λ c h k m. absurd (omega (arith, k, m));
  above = λ c h k. refl;
}
