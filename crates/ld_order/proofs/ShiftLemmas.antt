-- Nodes that go, one by one, to directly behind another one.
use Rattle.std.proofs.Common.{◌≡◌, ◌≢◌, ◌⊎◌, ◌↔◌, inl, inr, ℕ, zero, suc, ◌+◌, ◌-◌, ◌<◌, ◌≤◌, List, get_or, arith, refl, sym, ap, subst, ◌∙◌}
use Rattle.std.proofs.lemmas.Bool.{cases_eq, cases_lt}
use Rattle.ld_order.specs.Inner.Rings.{IsBehind, IsOneOf, IsSameOrder, IsShifted, rank}
use Rattle.ld_order.proofs.RankLemmas.{rank-same}

-- whether a node is one of these
pub one_of : (found : List ℕ) (i c : ℕ) → IsOneOf found i c ⊎ (¬ IsOneOf found i c)
one_of found zero c = inr (λ h. let a = h.1.0 in omega (arith, a))
one_of found (suc i) c = by (one_of found i c) (cases_eq (get_or found i 0) c)
  where
    by : IsOneOf found i c ⊎ (¬ IsOneOf found i c) → (get_or found i 0 ≡ c) ⊎ (get_or found i 0 ≢ c)
        → IsOneOf found (suc i) c ⊎ (¬ IsOneOf found (suc i) c)
    by (inl h) _ = inl (h.0, (let a = h.1.0 in omega (arith, a), h.1.1))
    by (inr n) (inl e) = inl (i, (omega arith, e))
    by (inr n) (inr e) = inr (λ h. elim (cases_eq h.0 i) [
      | inl z ↦ e (sym (ap (λ k. get_or found k 0) z) ∙ h.1.1)
      | inr z ↦ n (h.0, (let a = h.1.0 in omega (arith, a, z), h.1.1))
    ])

module _ (n : ℕ) (old l0 l1 l2 : ℕ → ℕ) (found : List ℕ) (i at0 at : ℕ)
    (s : IsShifted n old l0 (IsOneOf found i) at0) (o : IsSameOrder n l0 l1)
    (m : IsBehind n l1 l2 (get_or found i 0) at)
    (rising : (j k : ℕ) → j < k → k < i + 1 → old (get_or found j 0) < old (get_or found k 0))
    (below : (k : ℕ) → k < i + 1 → get_or found k 0 < n)
    (begin : i ≡ 0 → at ≡ at0) (last : 0 < i → at ≡ get_or found (i - 1) 0)
    (at_below : at0 < n) (at_free : (k : ℕ) → k < i + 1 → get_or found k 0 ≢ at0) where
  inside : (c : ℕ) → IsOneOf found i c → c < n
  inside c h = subst (λ y. y < n) h.1.1 (below h.0 (let a = h.1.0 in omega (arith, a)))

  lesser : (c : ℕ) → IsOneOf found i c → old c < old (get_or found i 0)
  lesser c h = subst (λ y. old y < old (get_or found i 0)) h.1.1 (rising h.0 i h.1.0 (omega arith))

  other : (c : ℕ) → IsOneOf found i c → c ≢ get_or found i 0
  other c h e = let a = lesser c h in let b = ap old e in omega (arith, a, b)

  wider : (c : ℕ) → IsOneOf found i c → IsOneOf found (i + 1) c
  wider c h = (h.0, (let a = h.1.0 in omega (arith, a), h.1.1))

  newest : IsOneOf found (i + 1) (get_or found i 0)
  newest = (i, (omega arith, refl))

  which : (c : ℕ) → IsOneOf found (i + 1) c → (IsOneOf found i c) ⊎ (c ≡ get_or found i 0)
  which c h = elim (cases_eq h.0 i) [
    | inl e ↦ inr (sym h.1.1 ∙ ap (λ k. get_or found k 0) e)
    | inr e ↦ inl (h.0, (let a = h.1.0 in omega (arith, a, e), h.1.1))
  ]

  -- the node behind which the next one goes is the last of those that went
  at_last : 0 < i → IsOneOf found i at
  at_last z = (i - 1, (omega (arith, z), sym (last z)))

  at_in : at < n
  at_in = elim (cases_eq i 0) [
    | inl e ↦ let a = begin e in omega (arith, a, at_below)
    | inr e ↦ inside at (at_last (omega (arith, e)))
  ]

  most : (c : ℕ) → IsOneOf found i c → l1 c ≤ l1 at
  most c h = by (cases_eq h.0 (i - 1))
    where
      z : 0 < i
      z = let a = h.1.0 in omega (arith, a)

      by : (h.0 ≡ i - 1) ⊎ (h.0 ≢ i - 1) → l1 c ≤ l1 at
      by (inl e) =
          let q : c ≡ at = sym h.1.1 ∙ ap (λ k. get_or found k 0) e ∙ sym (last z) in
          let a = ap l1 q in omega (arith, a)
      by (inr e) =
          let a : old (get_or found h.0 0) < old (get_or found (i - 1) 0) = rising h.0 (i - 1) (let b = h.1.0 in omega (arith, b, e)) (omega arith) in
          let b = ap old h.1.1 in let d = ap old (last z) in
          let f = (s.among c at h (at_last z)).1 (omega (arith, a, b, d)) in
          let g = (o c at (inside c h) at_in).1 f in omega (arith, g)

  tells : (d : ℕ) → d < n → (¬ IsOneOf found (i + 1) d) → (l1 at < l1 d) ↔ (old at0 < old d)
  tells d k w = elim (cases_eq i 0) [
    | inl e ↦
        let empty : (c : ℕ) → ¬ IsOneOf found i c = λ c h. let a = h.1.0 in omega (arith, a, e) in
        let q = begin e in
        let t = s.stay at d at_in k (empty at) (empty d) in
        let u = o at d at_in k in
        let v = ap old q in
        (λ a. let b = t.0 (u.0 a) in omega (arith, b, v), λ a. u.1 (t.1 (omega (arith, a, v))))
    | inr e ↦
        let t = s.above at d (at_last (omega (arith, e))) k (λ h. w (wider d h)) in
        let u = o at d at_in k in
        (λ a. t.0 (u.0 a), λ a. u.1 (t.1 a))
  ]

  pub shifted-more : IsShifted n old l2 (IsOneOf found (i + 1)) at0
  shifted-more = record {
    stay = λ c d h k u v.
        let p = m.others c d h k (λ e. u (subst (IsOneOf found (i + 1)) (sym e) newest)) (λ e. v (subst (IsOneOf found (i + 1)) (sym e) newest)) in
        let q = o c d h k in
        let t = s.stay c d h k (λ a. u (wider c a)) (λ a. v (wider d a)) in
        (λ a. t.0 (q.0 (p.0 a)), λ a. p.1 (q.1 (t.1 a)));
    among = λ c d h k. among c d (which c h) (which d k);
    below = λ c d h k w. lower c d (which c h) k w (cases_lt (l1 at) (l1 d));
    above = λ c d h k w. upper c d (which c h) k w (cases_lt (l1 at) (l1 d));
  }
    where
      among : (c d : ℕ) → (IsOneOf found i c) ⊎ (c ≡ get_or found i 0) → (IsOneOf found i d) ⊎ (d ≡ get_or found i 0)
          → (l2 c < l2 d) ↔ (old c < old d)
      among c d (inl a) (inl b) =
          let p = m.others c d (inside c a) (inside d b) (other c a) (other d b) in
          let q = o c d (inside c a) (inside d b) in let t = s.among c d a b in
          (λ z. t.0 (q.0 (p.0 z)), λ z. p.1 (q.1 (t.1 z)))
      among c d (inl a) (inr b) =
          let p = m.below c (inside c a) (other c a) (most c a) in
          let e = ap old b in let f = ap l2 b in let g = lesser c a in
          (λ z. omega (arith, e, g), λ z. omega (arith, p, f))
      among c d (inr a) (inl b) =
          let p = m.below d (inside d b) (other d b) (most d b) in
          let e = ap old a in let f = ap l2 a in let g = lesser d b in
          (λ z. absurd (omega (arith, p, f, z)), λ z. absurd (omega (arith, e, g, z)))
      among c d (inr a) (inr b) =
          let e = ap old (a ∙ sym b) in let f = ap l2 (a ∙ sym b) in
          (λ z. absurd (omega (arith, f, z)), λ z. absurd (omega (arith, e, z)))

      lower : (c d : ℕ) → (IsOneOf found i c) ⊎ (c ≡ get_or found i 0) → d < n → (¬ IsOneOf found (i + 1) d)
          → (l1 at < l1 d) ⊎ (l1 d ≤ l1 at) → (l2 d < l2 c) ↔ (old d ≤ old at0)
      lower c d (inl a) k w _ =
          let p = m.others d c k (inside c a) (λ e. w (subst (IsOneOf found (i + 1)) (sym e) newest)) (other c a) in
          let q = o d c k (inside c a) in let t = s.below c d a k (λ h. w (wider d h)) in
          (λ z. t.0 (q.0 (p.0 z)), λ z. p.1 (q.1 (t.1 z)))
      lower c d (inr a) k w (inl g) =
          let p = m.above d k (λ e. w (subst (IsOneOf found (i + 1)) (sym e) newest)) g in
          let f = ap l2 a in let t = (tells d k w).0 g in
          (λ z. absurd (omega (arith, p, f, z)), λ z. absurd (omega (arith, t, z)))
      lower c d (inr a) k w (inr g) =
          let p = m.below d k (λ e. w (subst (IsOneOf found (i + 1)) (sym e) newest)) g in
          let f = ap l2 a in
          (λ z. grind (arith, (tells d k w).1, g), λ z. omega (arith, p, f))

      upper : (c d : ℕ) → (IsOneOf found i c) ⊎ (c ≡ get_or found i 0) → d < n → (¬ IsOneOf found (i + 1) d)
          → (l1 at < l1 d) ⊎ (l1 d ≤ l1 at) → (l2 c < l2 d) ↔ (old at0 < old d)
      upper c d (inl a) k w _ =
          let p = m.others c d (inside c a) k (other c a) (λ e. w (subst (IsOneOf found (i + 1)) (sym e) newest)) in
          let q = o c d (inside c a) k in let t = s.above c d a k (λ h. w (wider d h)) in
          (λ z. t.0 (q.0 (p.0 z)), λ z. p.1 (q.1 (t.1 z)))
      upper c d (inr a) k w (inl g) =
          let p = m.above d k (λ e. w (subst (IsOneOf found (i + 1)) (sym e) newest)) g in
          let f = ap l2 a in
          (λ z. (tells d k w).0 g, λ z. omega (arith, p, f))
      upper c d (inr a) k w (inr g) =
          let p = m.below d k (λ e. w (subst (IsOneOf found (i + 1)) (sym e) newest)) g in
          let f = ap l2 a in
          (λ z. absurd (omega (arith, p, f, z)), λ z. let t = (tells d k w).1 z in absurd (omega (arith, t, g)))

module _ (n : ℕ) (old new : ℕ → ℕ) (moved : ℕ → Type 0) (at : ℕ) (s : IsShifted n old new moved at)
    (can : (c : ℕ) → moved c ⊎ (¬ moved c)) where
  -- a node to which all that moved stand as the place to which they went keeps its rank
  pub outside : (c : ℕ) → c < n → (¬ moved c) → ((k : ℕ) → moved k → (old k < old c) ↔ (old at < old c))
      → rank n new c ≡ rank n old c
  outside c h w f = rank-same n old new c (λ k l. by k l (can k))
    where
      by : (k : ℕ) → k < n → moved k ⊎ (¬ moved k) → (new k < new c) ↔ (old k < old c)
      by k l (inl a) = let t = s.above k c a h w in let u = f k a in (λ z. u.1 (t.0 z), λ z. t.1 (u.0 z))
      by k l (inr a) = s.stay k c l h a w
