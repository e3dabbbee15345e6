-- A node is appended.
use Rattle.std.proofs.Common.{◌≡◌, ◌≢◌, ℕ, zero, suc, ◌+◌, ◌<◌, List, [], ◌∷◌, ◌++◌, get_or, set, length, arith, refl, sym, ap, subst, ◌∙◌, get_or-set_other, get_or-set_same}
use Rattle.std.proofs.lemmas.List.{get_or_append_left, get_or_push, length_push, length-set}
use Rattle.ld_order.specs.Inner.Rings.{IsRing, IsNode, AreLinked}
use Rattle.ld_order.proofs.RingLemmas.{linked}

module _ (n : ℕ) (label next prev l1 n1 p1 : ℕ → ℕ) (r : AreLinked n label next prev n)
    (e : (c : ℕ) → c < n → l1 c ≡ label c) (f : (c : ℕ) → c < n → n1 c ≡ next c) (g : (c : ℕ) → c < n → p1 c ≡ prev c)
  where
    below : (c : ℕ) → IsNode (n + 1) n c → c < n
    below c h = let a = h.0 in let b = h.1 in omega (arith, a, b)

    node : (c : ℕ) → IsNode (n + 1) n c → IsNode n n c
    node c h = (below c h, h.1)

    wider : (c : ℕ) → IsNode n n c → IsNode (n + 1) n c
    wider c h = (let a = h.0 in omega (arith, a), h.1)

    next_is : (c : ℕ) → IsNode (n + 1) n c → l1 (n1 c) ≡ label (next c)
    next_is c h = ap l1 (f c (below c h)) ∙ e (next c) (r.next_in c (node c h)).0

    pub extended : AreLinked (n + 1) l1 n1 p1 n
    extended = record {
      some = omega arith;
      head = e 0 r.some ∙ r.head;
      kept = λ z. let a = r.some in omega (arith, a, z);
      once = λ c d h k q. r.once c d (node c h) (node d k) (sym (e c (below c h)) ∙ q ∙ e d (below d k));
      next_in = λ c h. subst (IsNode (n + 1) n) (sym (f c (below c h))) (wider (next c) (r.next_in c (node c h)));
      prev_in = λ c h. subst (IsNode (n + 1) n) (sym (g c (below c h))) (wider (prev c) (r.prev_in c (node c h)));
      up = λ c h z. let u = r.up c (node c h) (λ w. z (f c (below c h) ∙ w)) in let a = e c (below c h) in let b = next_is c h in omega (arith, u, a, b);
      none = λ c d h k l.
          let a = e c (below c h) in let b = e d (below d k) in
          let m = r.none c d (node c h) (node d k) (omega (arith, a, b, l)) in
          let q = next_is c h in let w = m.1 in
          (λ z. m.0 (sym (f c (below c h)) ∙ z), omega (arith, b, q, w));
      back = λ c h. ap p1 (f c (below c h)) ∙ g (next c) (r.next_in c (node c h)).0 ∙ r.back c (node c h);
      forth = λ c h. ap n1 (g c (below c h)) ∙ f (prev c) (r.prev_in c (node c h)).0 ∙ r.forth c (node c h);
    }

module _ (labels next prev : List ℕ) (r : IsRing labels next prev) (label : ℕ)
    (high : get_or labels (get_or prev 0 0) 0 < label) (labels1 next1 prev1 : List ℕ)
    (a : labels1 ≡ labels ++ label ∷ []) (b : next1 ≡ next ++ 0 ∷ []) (c : prev1 ≡ prev ++ get_or prev 0 0 ∷ []) where
  head : IsNode (length labels) (length labels) 0
  head = (r.links.some, λ z. let q = r.links.some in omega (arith, z, q))

  last_in : get_or prev 0 0 < length labels
  last_in = (r.links.prev_in 0 head).0

  l_is : (k : ℕ) → k < length labels → get_or labels1 k 0 ≡ get_or labels k 0
  l_is k h = rw a (get_or_append_left labels (label ∷ []) 0 k h)

  n_is : (k : ℕ) → k < length labels → get_or next1 k 0 ≡ get_or next k 0
  n_is k h = rw b (get_or_append_left next (0 ∷ []) 0 k (let q = r.next_len in omega (arith, h, q)))

  p_is : (k : ℕ) → k < length labels → get_or prev1 k 0 ≡ get_or prev k 0
  p_is k h = rw c (get_or_append_left prev (get_or prev 0 0 ∷ []) 0 k (let q = r.prev_len in omega (arith, h, q)))

  l_len : length labels1 ≡ length labels + 1
  l_len = ap length a ∙ length_push labels label

  n_len : length next1 ≡ length labels + 1
  n_len = let q = length_push next 0 in let s = ap length b in let t = r.next_len in omega (arith, q, s, t)

  p_len : length prev1 ≡ length labels + 1
  p_len = let q = length_push prev (get_or prev 0 0) in let s = ap length c in let t = r.prev_len in omega (arith, q, s, t)

  last_next : get_or next1 (get_or prev 0 0) 0 ≡ 0
  last_next = n_is (get_or prev 0 0) last_in ∙ r.links.forth 0 head

  new_label : get_or labels1 (length labels) 0 ≡ label
  new_label = rw a (get_or_push labels label 0 (length labels) refl)

  ne : get_or prev 0 0 ≢ length labels
  ne z = let q = last_in in omega (arith, q, z)

  ring : AreLinked (length labels + 1) (λ k. get_or labels1 k 0) (λ k. get_or (set next1 (get_or prev 0 0) (length labels)) k 0)
      (λ k. get_or (set prev1 0 (length labels)) k 0) (length labels + 1)
  ring = linked (length labels + 1) (λ k. get_or labels1 k 0) (λ k. get_or next1 k 0) (λ k. get_or prev1 k 0) (length labels)
      (extended (length labels) (λ k. get_or labels k 0) (λ k. get_or next k 0) (λ k. get_or prev k 0) (λ k. get_or labels1 k 0) (λ k. get_or next1 k 0) (λ k. get_or prev1 k 0) r.links l_is n_is p_is)
      (omega arith) (get_or prev 0 0) ((let q = last_in in omega (arith, q)), ne)
      (λ k. get_or labels1 k 0) (λ k. get_or (set next1 (get_or prev 0 0) (length labels)) k 0) (λ k. get_or (set prev1 0 (length labels)) k 0)
      (get_or-set_same next1 (get_or prev 0 0) (length labels) 0 (let q = last_in in omega (arith, q, n_len)))
      (get_or-set_other next1 (get_or prev 0 0) (length labels) (length labels) 0 (λ z. ne (sym z))
      ∙ (rw b (get_or_push next 0 0 (length labels) r.next_len)) ∙ sym last_next)
      (λ k u v. get_or-set_other next1 (get_or prev 0 0) k (length labels) 0 u)
      (get_or-set_other prev1 0 (length labels) (length labels) 0 (λ z. let q = r.links.some in omega (arith, z, q))
      ∙ (rw c (get_or_push prev (get_or prev 0 0) 0 (length labels) r.prev_len)))
      (ap (λ k. get_or (set prev1 0 (length labels)) k 0) last_next ∙ get_or-set_same prev1 0 (length labels) 0 (omega (arith, p_len)))
      (λ k u v. get_or-set_other prev1 0 k (length labels) 0 (λ z. u (z ∙ sym last_next)))
      (λ k u. refl)
      (let q = l_is (get_or prev 0 0) last_in in omega (arith, q, new_label, high))
      (λ z. absurd (z last_next))

  pub pushed : IsRing labels1 (set next1 (get_or prev 0 0) (length labels)) (set prev1 0 (length labels))
  pushed = record {
    next_len = length-set next1 (get_or prev 0 0) (length labels) ∙ n_len ∙ sym l_len;
    prev_len = length-set prev1 0 (length labels) ∙ p_len ∙ sym l_len;
    links = subst (λ m. AreLinked m (λ k. get_or labels1 k 0) (λ k. get_or (set next1 (get_or prev 0 0) (length labels)) k 0) (λ k. get_or (set prev1 0 (length labels)) k 0) m) (sym l_len) ring;
  }

-- the head alone
pub ring_of_head : (labels next prev : List ℕ) → labels ≡ 0 ∷ [] → next ≡ 0 ∷ [] → prev ≡ 0 ∷ [] → IsRing labels next prev
ring_of_head labels next prev l m p = rw (l, m, p) (record {
  next_len = refl;
  prev_len = refl;
  links = record {
    some = omega arith;
    head = refl;
    kept = λ e. omega (arith, e);
    once = λ c d h k _. let a = h.0 in let b = k.0 in omega (arith, a, b);
    next_in = λ c h. let e = none c in (omega (arith, e), λ z. omega (arith, e, z));
    prev_in = λ c h. let e = none c in (omega (arith, e), λ z. omega (arith, e, z));
    up = λ c h z. absurd (z (none c));
    none = λ c d h k l. let a = none c in let b = none d in absurd (omega (arith, a, b, l));
    back = λ c h. let a = none (get_or head c 0) in let b = h.0 in omega (arith, a, b);
    forth = λ c h. let a = none (get_or head c 0) in let b = h.0 in omega (arith, a, b);
  };
})
  where
    head : List ℕ
    head = 0 ∷ []

    none : (c : ℕ) → get_or head c 0 ≡ 0
    none zero = refl
    none (suc c) = refl
