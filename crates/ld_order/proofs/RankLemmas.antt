-- Ranks are counted.
use Rattle.std.proofs.Common.{◌≡◌, ◌≢◌, ◌⊎◌, ◌↔◌, inl, inr, ℕ, zero, suc, ◌+◌, ◌*◌, ◌<◌, ◌≤◌, Bool, if◌then◌else◌, true, false, true≢false, arith, refl, sym, ap, ◌∙◌, ltb}
use Rattle.std.proofs.lemmas.Bool.{cases_eq, cases_lt, ltb-true, lt-ltb, le-ltb}
use Rattle.std.proofs.Math.Nat.{add-mul, mul-le-mul_right}
use Rattle.ld_order.specs.Inner.Rings.{IsNode, AreLinked, IsSameOrder, count, rank}

-- one more test keeps two counts in their order
count_step : (a b : Bool) (x y : ℕ) → x ≤ y → (a ≡ true → b ≡ true) → x + (if a then 1 else 0) ≤ y + (if b then 1 else 0)
count_step true true x y g i = omega (arith, g)
count_step true false x y g i = absurd (true≢false (sym (i refl)))
count_step false b x y g i = omega (arith, g)

module _ (p q : ℕ → Bool) where
  pub count-most : (n : ℕ) → ((k : ℕ) → k < n → p k ≡ true → q k ≡ true) → count p n ≤ count q n
  count-most zero h = omega arith
  count-most (suc n) h =
      count_step (p n) (q n) (count p n) (count q n) (count-most n (λ k l. h k (omega (arith, l)))) (h n (omega arith))

  pub count-less : (n : ℕ) → ((k : ℕ) → k < n → p k ≡ true → q k ≡ true) → (i : ℕ) → i < n → p i ≡ false
      → q i ≡ true → count p n < count q n
  count-less zero h i l e f = absurd (omega (arith, l))
  count-less (suc n) h i l e f = elim (cases_eq i n) [
    | inl z ↦
        let m = count-most n (λ k b. h k (omega (arith, b))) in rw (ap p (sym z) ∙ e, ap q (sym z) ∙ f) (omega (arith, m))
    | inr z ↦
        let g = count-less n (λ k b. h k (omega (arith, b))) i (omega (arith, l, z)) e f in
        let k = count_step (p n) (q n) (count p n + 1) (count q n) (omega (arith, g)) (h n (omega arith)) in
        omega (arith, k)
  ]

  pub count-same : (n : ℕ) → ((k : ℕ) → k < n → p k ≡ q k) → count p n ≡ count q n
  count-same zero h = refl
  count-same (suc n) h = rw (h n (omega arith), count-same n (λ k l. h k (omega (arith, l)))) refl

  pub count-one : (n : ℕ) → (i : ℕ) → i < n → p i ≡ false → q i ≡ true
      → ((k : ℕ) → k < n → k ≢ i → p k ≡ q k) → count q n ≡ count p n + 1
  count-one zero i l e f h = absurd (omega (arith, l))
  count-one (suc n) i l e f h = elim (cases_eq i n) [
    | inl z ↦
        let m = count-same n (λ k b. h k (omega (arith, b)) (λ w. omega (arith, b, z, w))) in
        rw (ap p (sym z) ∙ e, ap q (sym z) ∙ f) (omega (arith, m))
    | inr z ↦
        let k = count-one n i (omega (arith, l, z)) e f (λ k b. h k (omega (arith, b))) in
        rw (h n (omega arith) (λ w. z (sym w))) (omega (arith, k))
  ]

pub count-all : (n : ℕ) → count (λ _. true) n ≡ n
count-all zero = refl
count-all (suc n) = let h = count-all n in omega (arith, h)

module _ (n : ℕ) (label : ℕ → ℕ) where
  pub rank-most : (c d : ℕ) → label c ≤ label d → rank n label c ≤ rank n label d
  rank-most c d l = count-most (λ k. ltb (label k) (label c)) (λ k. ltb (label k) (label d)) n
      (λ k _ e. let a = ltb-true (label k) (label c) e in lt-ltb (label k) (label d) (omega (arith, a, l)))

  pub rank-less : (c d : ℕ) → c < n → label c < label d → rank n label c < rank n label d
  rank-less c d h l = count-less (λ k. ltb (label k) (label c)) (λ k. ltb (label k) (label d)) n
      (λ k _ e. let a = ltb-true (label k) (label c) e in lt-ltb (label k) (label d) (omega (arith, a, l)))
      c h (le-ltb (label c) (label c) (omega arith)) (lt-ltb (label c) (label d) l)

  pub rank-tells : (c d : ℕ) → rank n label c < rank n label d → label c < label d
  rank-tells c d l = grind (arith, rank-most d c)

  pub rank-below : (c : ℕ) → c < n → rank n label c < n
  rank-below c h =
      let k = count-less (λ k. ltb (label k) (label c)) (λ _. true) n (λ k _ e. refl) c h
      (le-ltb (label c) (label c) (omega arith)) refl in
      let a = count-all n in omega (arith, k, a)

  module _ (next prev : ℕ → ℕ) (r : AreLinked n label next prev n) where
    in_ring : (c : ℕ) → c < n → IsNode n n c
    in_ring c h = (h, λ e. omega (arith, h, e))

    pub rank-once : (c d : ℕ) → c < n → d < n → rank n label c ≡ rank n label d → c ≡ d
    rank-once c d h k e = r.once c d (in_ring c h) (in_ring d k) (grind (arith, rank-less c d h, rank-less d c k))

    pub rank-next : (c : ℕ) → c < n → next c ≢ 0 → rank n label (next c) ≡ rank n label c + 1
    rank-next c h z =
        let u = r.up c (in_ring c h) z in
        count-one (λ k. ltb (label k) (label c)) (λ k. ltb (label k) (label (next c))) n c h
        (le-ltb (label c) (label c) (omega arith)) (lt-ltb (label c) (label (next c)) u)
        (λ k l e. by k l e (cases_lt (label k) (label c)))
      where
        by : (k : ℕ) → k < n → k ≢ c → (label k < label c) ⊎ (label c ≤ label k)
            → ltb (label k) (label c) ≡ ltb (label k) (label (next c))
        by k l e (inl a) =
            let u = r.up c (in_ring c h) z in
            lt-ltb (label k) (label c) a ∙ sym (lt-ltb (label k) (label (next c)) (omega (arith, a, u)))
        by k l e (inr a) =
            let ne : label k ≢ label c = λ w. e (r.once k c (in_ring k l) (in_ring c h) w) in
            let m = r.none c k (in_ring c h) (in_ring k l) (omega (arith, a, ne)) in
            le-ltb (label k) (label c) a ∙ sym (le-ltb (label k) (label (next c)) m.1)

    pub rank-last : (c : ℕ) → c < n → next c ≡ 0 → rank n label c + 1 ≡ n
    rank-last c h z =
        let m = count-one (λ k. ltb (label k) (label c)) (λ _. true) n c h
        (le-ltb (label c) (label c) (omega arith)) refl (λ k l e. by k l e (cases_lt (label k) (label c))) in
        let a = count-all n in omega (arith, m, a)
      where
        by : (k : ℕ) → k < n → k ≢ c → (label k < label c) ⊎ (label c ≤ label k) → ltb (label k) (label c) ≡ true
        by k l e (inl a) = lt-ltb (label k) (label c) a
        by k l e (inr a) =
            let ne : label k ≢ label c = λ w. e (r.once k c (in_ring k l) (in_ring c h) w) in
            let m = r.none c k (in_ring c h) (in_ring k l) (omega (arith, a, ne)) in absurd (m.0 z)

    pub rank-step : (c : ℕ) → c < n → rank n label c + 1 < n → rank n label (next c) ≡ rank n label c + 1
    rank-step c h l = rank-next c h (λ z. let a = rank-last c h z in omega (arith, a, l))

    pub rank-head : rank n label 0 ≡ 0
    rank-head = count-same (λ k. ltb (label k) (label 0)) (λ _. false) n
        (λ k l. le-ltb (label k) (label 0) (let a = r.head in omega (arith, a))) ∙ none n
      where
        none : (m : ℕ) → count (λ _. false) m ≡ 0
        none zero = refl
        none (suc m) = let h = none m in omega (arith, h)

-- a node that stands to all others as before keeps its rank
pub rank-same : (n : ℕ) (old new : ℕ → ℕ) (c : ℕ) → ((k : ℕ) → k < n → (new k < new c) ↔ (old k < old c))
    → rank n new c ≡ rank n old c
rank-same n old new c h = count-same (λ k. ltb (new k) (new c)) (λ k. ltb (old k) (old c)) n
    (λ k l. by k l (cases_lt (old k) (old c)))
  where
    by : (k : ℕ) → k < n → (old k < old c) ⊎ (old c ≤ old k) → ltb (new k) (new c) ≡ ltb (old k) (old c)
    by k l (inl a) = lt-ltb (new k) (new c) ((h k l).1 a) ∙ sym (lt-ltb (old k) (old c) a)
    by k l (inr a) =
        le-ltb (new k) (new c) (grind (arith, (h k l).0, a)) ∙ sym (le-ltb (old k) (old c) a)

-- other labels in the same order
pub relabelled : (n : ℕ) (label next prev label_new : ℕ → ℕ) → AreLinked n label next prev n
    → IsSameOrder n label label_new → label_new 0 ≡ 0 → AreLinked n label_new next prev n
relabelled n label next prev label_new r o z = record {
  some = r.some;
  head = z;
  kept = r.kept;
  once = λ c d h k e. r.once c d h k (grind (arith, (o c d h.0 k.0).1, (o d c k.0 h.0).1, e));
  next_in = r.next_in;
  prev_in = r.prev_in;
  up = λ c h w. (o c (next c) h.0 (r.next_in c h).0).1 (r.up c h w);
  none = λ c d h k l.
      let a = r.none c d h k ((o c d h.0 k.0).0 l) in
      (a.0, grind (arith, (o d (next c) k.0 (r.next_in c h).0).0, a.1));
  back = r.back;
  forth = r.forth;
}

-- labels that are the ranks times a step
pub stepped : (n : ℕ) (label label_new : ℕ → ℕ) (step : ℕ) → 0 < step
    → ((c : ℕ) → c < n → label_new c ≡ rank n label c * step) → IsSameOrder n label label_new
stepped n label label_new step s h c d k l = (
  λ a. let e = h c k in let f = h d l in
      let m : rank n label d ≤ rank n label c → rank n label d * step ≤ rank n label c * step = mul-le-mul_right step in
      rank-tells n label c d (grind (arith, e, f, m, a)),
  λ a. let b = rank-less n label c d k a in
      let e = h c k in let f = h d l in
      let m : (rank n label c + 1) * step ≤ rank n label d * step = mul-le-mul_right step (omega (arith, b)) in
      let t = add-mul (rank n label c) 1 step in
      omega (arith, e, f, m, t, s),
)
