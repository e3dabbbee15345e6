-- No class is found by both searches, so no more lists are read than there are ranks in the range.
use Rattle.std.proofs.Common.{◌≡◌, ◌⊎◌, inl, inr, ℕ, zero, suc, ◌+◌, ◌-◌, ◌<◌, ◌≤◌, false, true≢false}
use Rattle.std.proofs.Common.{List, ◌++◌, length, get_or, map, nat_eq, Contains, arith, refl, sym, subst, ◌∙◌}
use Rattle.std.specs.List.{IsDistinct}
use Rattle.std.proofs.lemmas.Bool.{cases_lt, eq-eqb, eqb-true, ne_eqb}
use Rattle.std.proofs.lemmas.List.{get_or_default, get_or_append_left, get_or-append_right, get_or-map, length-append, length-map}
use Rattle.std.proofs.lemmas.List.Elements.{Contains-append_cases, Contains-get_or}
use Rattle.std.proofs.lemmas.Map.Keys.{IsDistinct-from_apart, apart_from_distinct}
use Rattle.std.proofs.lemmas.Map.Steps.{length-le_from_distinct_below}
use Rattle.std.proofs.lemmas.Map.Views.{Contains-from_any}
use Rattle.ld_graph.specs.Inner.Affected.{IsFound, IsIn}
use Rattle.ld_graph.specs.Inner.Repairs.{IsOrReaches}
use Rattle.ld_graph.proofs.WalkLemmas.{Far, Far-turned, HasWalk-Far, IsWalk-Far, IsWalk-same}

module _ (step : ℕ → ℕ → Type 0) (rank : ℕ → ℕ) (rises : (x y : ℕ) → step x y → rank x < rank y) where
  -- a walk leads to a class of a greater rank
  pub Far-rises : (n a b : ℕ) → Far step n a b → rank a < rank b
  Far-rises zero a b s = rises a b s
  Far-rises (suc n) a b s =
      let h = Far-rises n s.0 b s.1.1 in let u = rises a s.0 s.1.0 in omega (arith, h, u)

  -- what is closed backward from the rank low on has all that leads to it
  Far-backward : (F : ℕ → Type 0) (low : ℕ) → ((x y : ℕ) → step x y → F y → low ≤ rank x → F x)
      → (n a b : ℕ) → Far step n a b → low ≤ rank a → F b → F a
  Far-backward F low closed zero a b s l f = closed a b s f l
  Far-backward F low closed (suc n) a b s l f =
      let u = rises a s.0 s.1.0 in
      closed a s.0 s.1.0 (Far-backward F low closed n s.0 b s.1.1 (omega (arith, u, l)) f) l

  -- what is closed forward up to the rank high has all that it leads to
  Far-forward : (F : ℕ → Type 0) (high : ℕ) → ((x y : ℕ) → step x y → F x → rank y ≤ high → F y)
      → (n a b : ℕ) → Far step n a b → rank b ≤ high → F a → F b
  Far-forward F high closed zero a b s l f = closed a b s f l
  Far-forward F high closed (suc n) a b s l f =
      let u = Far-rises n s.0 b s.1.1 in
      Far-forward F high closed n s.0 b s.1.1 l (closed a s.0 s.1.0 f (omega (arith, u, l)))

-- what was found backward reaches the class where the search began
pub met_backward : (after before : ℕ → ℕ → Type 0) → ((x y : ℕ) → before x y → after y x) → (a b : ℕ)
    → IsOrReaches before a b → IsOrReaches after b a
met_backward after before turned a b (inl e) = inl (sym e)
met_backward after before turned a b (inr w) =
    let f = IsWalk-Far (λ p q. after q p) a b w.0 (IsWalk-same before (λ p q. after q p) turned a b w.0 w.1) in
    inr (HasWalk-Far after f.0 b a (Far-turned after f.0 b a f.1.1))

module _ (step near : ℕ → ℕ → Type 0) (rank : ℕ → ℕ) (rises : (x y : ℕ) → step x y → rank x < rank y)
    (n low high : ℕ) (found : List ℕ) (h : IsFound near rank n low high found (length found)) where
  -- where a search has ended, what it has found is closed
  pub closed_backward : ((x y : ℕ) → step x y → near y x)
      → (x y : ℕ) → step x y → Contains found y → low ≤ rank x → Contains found x
  closed_backward turned x y s f l =
      let w = (h.within y f).1.1 in let u = rises x y s in
      let e = get_or_default found f.0 0 y f.1 ∙ f.2 in
      h.closed f.0 x f.1 (subst (λ z. near z x) (sym e) (turned x y s)) (l, omega (arith, u, w))

  pub closed_forward : ((x y : ℕ) → step x y → near x y)
      → (x y : ℕ) → step x y → Contains found x → rank y ≤ high → Contains found y
  closed_forward same x y s f l =
      let w = (h.within x f).1.0 in let u = rises x y s in
      let e = get_or_default found f.0 0 x f.1 ∙ f.2 in
      h.closed f.0 y f.1 (subst (λ z. near z y) (sym e) (same x y s)) (omega (arith, u, w), l)

module _ (after before : ℕ → ℕ → Type 0) (to : (x y : ℕ) → after x y → before y x)
    (from : (x y : ℕ) → before x y → after y x) (rank : ℕ → ℕ)
    (rises : (x y : ℕ) → after x y → rank x < rank y) (n a b : ℕ) (backward forward : List ℕ)
    (begin : get_or backward 0 0 ≡ a) (start : get_or forward 0 0 ≡ b) where
  pub apart_backward : IsFound before rank n (rank b) (rank a) backward (length backward)
      → IsFound after rank n (rank b) (rank a) forward 0 → ¬ Contains backward b
      → (k : ℕ) → Contains backward k → ¬ Contains forward k
  apart_backward h g free k c d = free (by (subst (λ z. IsOrReaches after z k) start (g.reached k d)))
    where
      by : IsOrReaches after b k → Contains backward b
      by (inl e) = subst (Contains backward) (sym e) c
      by (inr w) =
          let f = IsWalk-Far after b k w.0 w.1 in
          Far-backward after rank rises (Contains backward) (rank b)
          (closed_backward after before rank rises n (rank b) (rank a) backward h to) f.0 b k f.1.1 (omega arith) c

  pub apart_forward : IsFound after rank n (rank b) (rank a) forward (length forward)
      → IsFound before rank n (rank b) (rank a) backward 0 → ¬ Contains forward a
      → (k : ℕ) → Contains backward k → ¬ Contains forward k
  apart_forward h g free k c d =
      free (by (met_backward after before from a k (subst (λ z. IsOrReaches before z k) begin (g.reached k c))))
    where
      by : IsOrReaches after k a → Contains forward a
      by (inl e) = subst (Contains forward) e d
      by (inr w) =
          let f = IsWalk-Far after k a w.0 w.1 in
          Far-forward after rank rises (Contains forward) (rank a)
          (closed_forward after after rank rises n (rank b) (rank a) forward h (λ x y s. s)) f.0 k a f.1.1 (omega arith) d

-- two lists without a number in common
distinct_both : (xs ys : List ℕ) → IsDistinct nat_eq xs → IsDistinct nat_eq ys
    → ((k : ℕ) → Contains xs k → ¬ Contains ys k) → IsDistinct nat_eq (xs ++ ys)
distinct_both xs ys d e apart = IsDistinct-from_apart nat_eq (xs ++ ys) (λ i j z l b.
    by i j z l b (cases_lt i (length xs)) (cases_lt j (length xs)))
  where
    left : (i z : ℕ) → i < length xs → get_or (xs ++ ys) i z ≡ get_or xs i z
    left i z l = get_or_append_left xs ys z i l

    right : (i z : ℕ) → length xs ≤ i → get_or (xs ++ ys) i z ≡ get_or ys (i - length xs) z
    right i z l = get_or-append_right xs ys (length xs) i z refl l

    by : (i j z : ℕ) → i < j → j < length (xs ++ ys) → (i < length xs) ⊎ (length xs ≤ i)
        → (j < length xs) ⊎ (length xs ≤ j)
        → nat_eq (get_or (xs ++ ys) i z) (get_or (xs ++ ys) j z) ≡ false
    by i j z l b (inl p) (inl q) = rw (left i z p, left j z q)
        (apart_from_distinct nat_eq xs i j z d l q)
    by i j z l b (inr p) (inl q) = absurd (omega (arith, l, p, q))
    by i j z l b (inl p) (inr q) =
        let n = length-append xs ys in
        let w : j - length xs < length ys = omega (arith, b, n, q) in
        ne_eqb _ _ (λ s. apart (get_or xs i z) (Contains-get_or xs i z p) (subst (Contains ys) (sym
        (right j z q) ∙ sym s ∙ left i z p) (Contains-get_or ys (j - length xs) z w)))
    by i j z l b (inr p) (inr q) =
        let n = length-append xs ys in
        let w : j - length xs < length ys = omega (arith, b, n, q) in
        let v : i - length xs < j - length xs = omega (arith, l, p, q) in
        rw (right i z p, right j z q) (apart_from_distinct nat_eq ys (i - length xs) (j - length xs)
        z e v w)

module _ (rank : ℕ → ℕ) (n low high : ℕ) (order : low ≤ high)
    (once : (c d : ℕ) → c < n → d < n → rank c ≡ rank d → c ≡ d) where
  -- different classes with ranks in a range are no more than the range has
  few_within : (xs : List ℕ) → IsDistinct nat_eq xs → ((k : ℕ) → Contains xs k → (k < n) × IsIn low high (rank k))
      → length xs + low ≤ high + 1
  few_within xs d within =
      let m = length-map xs (λ k. rank k - low) in
      let f = length-le_from_distinct_below (map (λ k. rank k - low) xs) (high + 1 - low) offsets_once
      (λ q t. below q (Contains-from_any {eq = nat_eq} (λ x y s. eqb-true x y s) q (map (λ k. rank k - low) xs) t)) in
      omega (arith, f, m, order)
    where
      read : (i z : ℕ) → i < length xs → get_or (map (λ k. rank k - low) xs) i z ≡ rank (get_or xs i z) - low
      read i z l = get_or-map (λ k. rank k - low) xs i z z l

      offsets_once : IsDistinct nat_eq (map (λ k. rank k - low) xs)
      offsets_once = IsDistinct-from_apart nat_eq (map (λ k. rank k - low) xs) (λ i j z l b.
          let m = length-map xs (λ k. rank k - low) in
          let p : i < length xs = omega (arith, l, b, m) in let q : j < length xs = omega (arith, b, m) in
          let u = within (get_or xs i z) (Contains-get_or xs i z p) in
          let v = within (get_or xs j z) (Contains-get_or xs j z q) in
          let a = apart_from_distinct nat_eq xs i j z d l q in
          rw (read i z p, read j z q) (ne_eqb _ _ (λ e.
          let s = once (get_or xs i z) (get_or xs j z) u.0 v.0 (omega (arith, e, u.1.0, v.1.0)) in
          true≢false (sym (eq-eqb (get_or xs i z) (get_or xs j z) s) ∙ a))))

      below : (q : ℕ) → Contains (map (λ k. rank k - low) xs) q → q < high + 1 - low
      below q c =
          let m = length-map xs (λ k. rank k - low) in let l = c.1 in
          let p : c.0 < length xs = omega (arith, l, m) in
          let u = within (get_or xs c.0 0) (Contains-get_or xs c.0 0 p) in
          let e = sym (get_or_default (map (λ k. rank k - low) xs) c.0 0 q c.1 ∙ c.2) ∙ read c.0 0 p in
          omega (arith, e, u.1.0, u.1.1)

  -- and so are those of two lists without a class in common
  pub few_apart : (xs ys : List ℕ) → IsDistinct nat_eq xs → IsDistinct nat_eq ys
      → ((k : ℕ) → Contains xs k → (k < n) × IsIn low high (rank k))
      → ((k : ℕ) → Contains ys k → (k < n) × IsIn low high (rank k))
      → ((k : ℕ) → Contains xs k → ¬ Contains ys k) → length xs + length ys + low ≤ high + 1
  few_apart xs ys d e p q apart =
      let f = few_within (xs ++ ys) (distinct_both xs ys d e apart) (λ k c. elim (Contains-append_cases xs ys k c) [
        | inl l ↦ p k l
        | inr r ↦ q k r
      ]) in
      let m = length-append xs ys in omega (arith, f, m)
