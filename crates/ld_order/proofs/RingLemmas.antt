-- A node is taken out of the ring, and put in again.
use Rattle.std.proofs.Common.{◌≡◌, ◌≢◌, ◌⊎◌, inl, inr, ℕ, ◌<◌, ◌≤◌, arith, sym, ap, subst, ◌∙◌}
use Rattle.std.proofs.lemmas.Bool.{cases_eq, cases_lt}
use Rattle.ld_order.specs.Inner.Rings.{IsNode, AreLinked}

module _ (n : ℕ) (label next prev : ℕ → ℕ) (r : AreLinked n label next prev n) (x : ℕ) (l : x < n) (s : 0 < x)
    (next_new prev_new : ℕ → ℕ)
    (n1 : next_new (prev x) ≡ next x) (n2 : (c : ℕ) → c ≢ prev x → next_new c ≡ next c)
    (p1 : prev_new (next x) ≡ prev x) (p2 : (c : ℕ) → c ≢ next x → prev_new c ≡ prev c) where
  node : (c : ℕ) → c < n → IsNode n n c
  node c h = (h, λ e. omega (arith, h, e))

  next_other : next x ≢ x
  next_other e =
      let u = r.up x (node x l) (λ z. omega (arith, z, e, s)) in
      let k = ap label e in omega (arith, u, k)

  prev_other : prev x ≢ x
  prev_other e = next_other (sym (ap next e) ∙ r.forth x (node x l))

  -- what leads to x is the one before it
  is_prev : (c : ℕ) → c < n → next c ≡ x → c ≡ prev x
  is_prev c h e = sym (r.back c (node c h)) ∙ ap prev e

  is_next : (c : ℕ) → c < n → prev c ≡ x → c ≡ next x
  is_next c h e = sym (r.forth c (node c h)) ∙ ap next e

  pub unlinked : AreLinked n label next_new prev_new x
  unlinked = record {
    some = r.some;
    head = r.head;
    kept = λ e. omega (arith, e, s);
    once = λ c d h k e. r.once c d (node c h.0) (node d k.0) e;
    next_in = λ c h. elim (cases_eq c (prev x)) [
      | inl e ↦
          let v : next_new c ≡ next x = ap next_new e ∙ n1 in
          subst (IsNode n x) (sym v) ((r.next_in x (node x l)).0, next_other)
      | inr e ↦
          subst (IsNode n x) (sym (n2 c e)) ((r.next_in c (node c h.0)).0, λ a. e (is_prev c h.0 a))
    ];
    prev_in = λ c h. elim (cases_eq c (next x)) [
      | inl e ↦
          let v : prev_new c ≡ prev x = ap prev_new e ∙ p1 in
          subst (IsNode n x) (sym v) ((r.prev_in x (node x l)).0, prev_other)
      | inr e ↦
          subst (IsNode n x) (sym (p2 c e)) ((r.prev_in c (node c h.0)).0, λ a. e (is_next c h.0 a))
    ];
    up = λ c h z. elim (cases_eq c (prev x)) [
      | inl e ↦
          let v : next_new c ≡ next x = ap next_new e ∙ n1 in
          let a = r.up x (node x l) (λ w. z (v ∙ w)) in
          let f = r.forth x (node x l) in
          let b = r.up (prev x) (r.prev_in x (node x l)) (λ w. omega (arith, s, w, f)) in
          let k = ap label f in let lv = ap label v in let lc = ap label e in
          omega (arith, a, b, k, lv, lc)
      | inr e ↦
          let v = n2 c e in
          let a = r.up c (node c h.0) (λ w. z (v ∙ w)) in
          let lv = ap label v in omega (arith, a, lv)
    ];
    none = λ c d h k m. elim (cases_eq c (prev x)) [
      | inl e ↦
          let v : next_new c ≡ next x = ap next_new e ∙ n1 in
          let lc = ap label e in
          let f = r.forth x (node x l) in
          let a = r.none (prev x) d (r.prev_in x (node x l)) (node d k.0) (omega (arith, lc, m)) in
          let lf = ap label f in
          let ne : label x ≢ label d = λ w. k.1 (sym (r.once x d (node x l) (node d k.0) w)) in
          let b = r.none x d (node x l) (node d k.0) (omega (arith, a, lf, ne)) in
          subst (λ y. (y ≢ 0) × (label y ≤ label d)) (sym v) b
      | inr e ↦
          subst (λ y. (y ≢ 0) × (label y ≤ label d)) (sym (n2 c e)) (r.none c d (node c h.0) (node d k.0) m)
    ];
    back = λ c h. elim (cases_eq c (prev x)) [
      | inl e ↦
          let v : next_new c ≡ next x = ap next_new e ∙ n1 in ap prev_new v ∙ p1 ∙ sym e
      | inr e ↦
          let ne : next c ≢ next x = λ w. h.1 (sym (r.back c (node c h.0)) ∙ ap prev w ∙ r.back x (node x l)) in
          ap prev_new (n2 c e) ∙ p2 (next c) ne ∙ r.back c (node c h.0)
    ];
    forth = λ c h. elim (cases_eq c (next x)) [
      | inl e ↦
          let v : prev_new c ≡ prev x = ap prev_new e ∙ p1 in ap next_new v ∙ n1 ∙ sym e
      | inr e ↦
          let ne : prev c ≢ prev x = λ w. h.1 (sym (r.forth c (node c h.0)) ∙ ap next w ∙ r.forth x (node x l)) in
          ap next_new (p2 c e) ∙ n2 (prev c) ne ∙ r.forth c (node c h.0)
    ];
  }

module _ (n : ℕ) (label next prev : ℕ → ℕ) (x : ℕ) (r : AreLinked n label next prev x) (l : x < n)
    (at : ℕ) (here : IsNode n x at) (label_new next_new prev_new : ℕ → ℕ)
    (n1 : next_new at ≡ x) (n2 : next_new x ≡ next at) (n3 : (c : ℕ) → c ≢ at → c ≢ x → next_new c ≡ next c)
    (p1 : prev_new x ≡ at) (p2 : prev_new (next at) ≡ x)
    (p3 : (c : ℕ) → c ≢ next at → c ≢ x → prev_new c ≡ prev c)
    (others : (c : ℕ) → c ≢ x → label_new c ≡ label c)
    (low : label at < label_new x) (high : next at ≢ 0 → label_new x < label (next at)) where
  low_all : (c : ℕ) → IsNode n x c → label c ≤ label at → label_new c < label_new x
  low_all c h a = let o = others c h.1 in omega (arith, o, a, low)

  high_all : (c : ℕ) → IsNode n x c → label at < label c → label_new x < label_new c
  high_all c h a =
      let o = others c h.1 in let k = r.none at c here h a in let m = high k.0 in omega (arith, o, k.1, m)

  apart : (c : ℕ) → IsNode n x c → label_new c ≢ label_new x
  apart c h e = grind (arith, high_all c h, low_all c h)

  pub linked : AreLinked n label_new next_new prev_new n
  linked = record {
    some = r.some;
    head = others 0 (λ e. r.kept (sym e)) ∙ r.head;
    kept = λ e. omega (arith, e, l);
    once = λ c d h k. once c d h.0 k.0 (cases_eq c x) (cases_eq d x);
    next_in = λ c h. next_in c h.0 (cases_eq c at) (cases_eq c x);
    prev_in = λ c h. prev_in c h.0 (cases_eq c (next at)) (cases_eq c x);
    up = λ c h. up c h.0 (cases_eq c at) (cases_eq c x);
    none = λ c d h k. none c d h.0 k.0 (cases_eq c at) (cases_eq c x) (cases_eq d x);
    back = λ c h. back c h.0 (cases_eq c at) (cases_eq c x);
    forth = λ c h. forth c h.0 (cases_eq c (next at)) (cases_eq c x);
  }
    where
      whole : (c : ℕ) → c < n → IsNode n n c
      whole c h = (h, λ e. omega (arith, h, e))

      once : (c d : ℕ) → c < n → d < n → (c ≡ x) ⊎ (c ≢ x) → (d ≡ x) ⊎ (d ≢ x) → label_new c ≡ label_new d
          → c ≡ d
      once c d h k (inl e) (inl f) m = e ∙ sym f
      once c d h k (inl e) (inr f) m = absurd (apart d (k, f) (sym m ∙ ap label_new e))
      once c d h k (inr e) (inl f) m = absurd (apart c (h, e) (m ∙ ap label_new f))
      once c d h k (inr e) (inr f) m = r.once c d (h, e) (k, f) (sym (others c e) ∙ m ∙ others d f)

      next_in : (c : ℕ) → c < n → (c ≡ at) ⊎ (c ≢ at) → (c ≡ x) ⊎ (c ≢ x) → IsNode n n (next_new c)
      next_in c h (inl e) _ = whole _ (subst (λ y. y < n) (sym (ap next_new e ∙ n1)) l)
      next_in c h (inr e) (inl f) =
          whole _ (subst (λ y. y < n) (sym (ap next_new f ∙ n2)) (r.next_in at here).0)
      next_in c h (inr e) (inr f) = whole _ (subst (λ y. y < n) (sym (n3 c e f)) (r.next_in c (h, f)).0)

      prev_in : (c : ℕ) → c < n → (c ≡ next at) ⊎ (c ≢ next at) → (c ≡ x) ⊎ (c ≢ x) → IsNode n n (prev_new c)
      prev_in c h (inl e) _ = whole _ (subst (λ y. y < n) (sym (ap prev_new e ∙ p2)) l)
      prev_in c h (inr e) (inl f) = whole _ (subst (λ y. y < n) (sym (ap prev_new f ∙ p1)) here.0)
      prev_in c h (inr e) (inr f) = whole _ (subst (λ y. y < n) (sym (p3 c e f)) (r.prev_in c (h, f)).0)

      up : (c : ℕ) → c < n → (c ≡ at) ⊎ (c ≢ at) → (c ≡ x) ⊎ (c ≢ x) → next_new c ≢ 0
          → label_new c < label_new (next_new c)
      up c h (inl e) _ z =
          let v = ap label_new (ap next_new e ∙ n1) in let lc = ap label_new e in let o = others at here.1 in
          omega (arith, v, lc, o, low)
      up c h (inr e) (inl f) z =
          let v : next_new c ≡ next at = ap next_new f ∙ n2 in let lv = ap label_new v in
          let lc = ap label_new f in let o = others (next at) (r.next_in at here).1 in
          let k = high (λ w. z (v ∙ w)) in omega (arith, lv, lc, o, k)
      up c h (inr e) (inr f) z =
          let v = n3 c e f in let lv = ap label_new v in let o = others c f in
          let o2 = others (next c) (r.next_in c (h, f)).1 in
          let k = r.up c (h, f) (λ w. z (v ∙ w)) in omega (arith, lv, o, o2, k)

      none : (c d : ℕ) → c < n → d < n → (c ≡ at) ⊎ (c ≢ at) → (c ≡ x) ⊎ (c ≢ x) → (d ≡ x) ⊎ (d ≢ x)
          → label_new c < label_new d → (next_new c ≢ 0) × (label_new (next_new c) ≤ label_new d)
      none c d h k (inl e) _ (inl g) m =
          let v : next_new c ≡ x = ap next_new e ∙ n1 in
          subst (λ y. (y ≢ 0) × (label_new y ≤ label_new d)) (sym v)
          (r.kept, (let q = ap label_new g in omega (arith, q)))
      none c d h k (inl e) _ (inr g) m =
          let v : next_new c ≡ x = ap next_new e ∙ n1 in let lc = ap label_new e in let o = others at here.1 in
          let od = others d g in
          let q = high_all d (k, g) (omega (arith, m, lc, o, od)) in
          subst (λ y. (y ≢ 0) × (label_new y ≤ label_new d)) (sym v) (r.kept, omega (arith, q))
      none c d h k (inr e) (inl f) (inl g) m =
          let a = ap label_new f in let b = ap label_new g in absurd (omega (arith, a, b, m))
      none c d h k (inr e) (inl f) (inr g) m =
          let v : next_new c ≡ next at = ap next_new f ∙ n2 in let lc = ap label_new f in let od = others d g in
          let q = r.none at d here (k, g) (omega (arith, m, lc, od, low)) in
          let o = others (next at) (r.next_in at here).1 in
          subst (λ y. (y ≢ 0) × (label_new y ≤ label_new d)) (sym v) (q.0, omega (arith, q.1, o, od))
      none c d h k (inr e) (inr f) (inl g) m = less (cases_lt (label c) (label at))
        where
          less : (label c < label at) ⊎ (label at ≤ label c) → (next_new c ≢ 0) × (label_new (next_new c) ≤ label_new d)
          less (inl a) =
              let v = n3 c e f in let q = r.none c at (h, f) here a in
              let o = others (next c) (r.next_in c (h, f)).1 in let ld = ap label_new g in
              subst (λ y. (y ≢ 0) × (label_new y ≤ label_new d)) (sym v) (q.0, omega (arith, q.1, o, ld, low))
          less (inr a) =
              let ne : label c ≢ label at = λ w. e (r.once c at (h, f) here w) in
              let q = high_all c (h, f) (omega (arith, a, ne)) in let ld = ap label_new g in
              absurd (omega (arith, q, ld, m))
      none c d h k (inr e) (inr f) (inr g) m =
          let v = n3 c e f in let oc = others c f in let od = others d g in
          let q = r.none c d (h, f) (k, g) (omega (arith, oc, od, m)) in
          let o = others (next c) (r.next_in c (h, f)).1 in
          subst (λ y. (y ≢ 0) × (label_new y ≤ label_new d)) (sym v) (q.0, omega (arith, q.1, o, od))

      back : (c : ℕ) → c < n → (c ≡ at) ⊎ (c ≢ at) → (c ≡ x) ⊎ (c ≢ x) → prev_new (next_new c) ≡ c
      back c h (inl e) _ = ap prev_new (ap next_new e ∙ n1) ∙ p1 ∙ sym e
      back c h (inr e) (inl f) = ap prev_new (ap next_new f ∙ n2) ∙ p2 ∙ sym f
      back c h (inr e) (inr f) =
          let ne : next c ≢ next at = λ w. e (sym (r.back c (h, f)) ∙ ap prev w ∙ r.back at here) in
          ap prev_new (n3 c e f) ∙ p3 (next c) ne (r.next_in c (h, f)).1 ∙ r.back c (h, f)

      forth : (c : ℕ) → c < n → (c ≡ next at) ⊎ (c ≢ next at) → (c ≡ x) ⊎ (c ≢ x) → next_new (prev_new c) ≡ c
      forth c h (inl e) _ = ap next_new (ap prev_new e ∙ p2) ∙ n2 ∙ sym e
      forth c h (inr e) (inl f) = ap next_new (ap prev_new f ∙ p1) ∙ n1 ∙ sym f
      forth c h (inr e) (inr f) =
          let ne : prev c ≢ at = λ w. e (sym (r.forth c (h, f)) ∙ ap next w) in
          ap next_new (p3 c e f) ∙ n3 (prev c) ne (r.prev_in c (h, f)).1 ∙ r.forth c (h, f)
