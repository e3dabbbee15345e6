-- Ranks of classes: class c is node c + 1.
use Rattle.std.proofs.Common.{◌≡◌, ◌≢◌, ◌⊎◌, ◌↔◌, inl, inr, ℕ, zero, suc, ◌+◌, ◌-◌, ◌<◌, ◌≤◌, List, [], ◌∷◌, ◌++◌, get_or, get_or-set_other, get_or-set_same, set, length, ltb, map, drop, true, false, Contains, arith, refl, sym, ap, subst, ◌∙◌}
use Rattle.std.specs.List.Sorted.{IsPermutation}
use Rattle.std.proofs.lemmas.Bool.{cases_eq, cases_lt, le-ltb, lt-ltb}
use Rattle.std.proofs.lemmas.Grind.{get_or_after_one, same_number_lists}
use Rattle.std.proofs.lemmas.List.{get_or_append_left, get_or_default, get_or-map, get_or_push, length-map, length_push}
use Rattle.std.proofs.lemmas.List.Elements.{Contains-get_or}
use Rattle.std.proofs.lemmas.List.FromFn.{get_or-map-range_with_len, length-map-range_with_len}
use Rattle.std.proofs.lemmas.List.Sorted.{Contains-permutation, IsPermutation-sym}
use Rattle.ld_order.specs.Orders.{AreInOrder, AreRanks, HaveMoved}
use Rattle.std.proofs.Common.{nat_eq}
use Rattle.std.specs.List.{IsDistinct}
use Rattle.std.proofs.lemmas.Bool.{eqb-true}
use Rattle.std.proofs.lemmas.Map.Steps.{length-le_from_distinct_below}
use Rattle.std.proofs.lemmas.Map.Views.{Contains-from_any}
use Rattle.ld_order.proofs.PlaceOfLemmas.{before_less, behind_before}
use Rattle.ld_order.specs.declared.order.Order.TheInside.{Inside}
use Rattle.ld_order.specs.Inner.Kept.{IsKept, ranks_of}
use Rattle.ld_order.specs.Inner.Labels.{node_of}
use Rattle.ld_order.specs.Inner.Rings.{IsOneOf, IsRing, IsSameOrder, IsShifted, count, rank}
use Rattle.ld_order.proofs.RankLemmas.{count-all, count-same, rank-below, rank-head, rank-less, rank-once, rank-same, rank-step, rank-tells}
use Rattle.ld_order.proofs.ShiftLemmas.{one_of, outside}

abbrev pub label_at : List ℕ → ℕ → ℕ
label_at labels k = get_or labels k 0

pub ranks_len : (labels : List ℕ) → length (ranks_of labels) ≡ length labels - 1
ranks_len labels = length-map-range_with_len (λ c. rank (length labels) (label_at labels) (c + 1) - 1) 0 (length labels - 1)

pub ranks_at : (labels : List ℕ) (c : ℕ) → c + 1 < length labels
    → get_or (ranks_of labels) c 0 ≡ rank (length labels) (label_at labels) (c + 1) - 1
ranks_at labels c h = get_or-map-range_with_len (λ k. rank (length labels) (label_at labels) (k + 1) - 1) 0
    (length labels - 1) c c 0 (omega (arith, h)) (omega arith)

module _ (labels next prev : List ℕ) (r : IsRing labels next prev) where
  -- the head alone has no node before it
  pub rank-some : (c : ℕ) → c < length labels → c ≢ 0 → 0 < rank (length labels) (label_at labels) c
  rank-some c h z =
      let l = r.links in
      let ne : label_at labels c ≢ 0 = λ e. z (l.once c 0 (h, λ w. omega (arith, h, w)) (l.some, λ w. (let s = l.some in omega (arith, s, w))) (e ∙ sym l.head)) in
      let e = l.head in
      let m = rank-less (length labels) (label_at labels) 0 c l.some (omega (arith, ne, e)) in omega (arith, m)

  pub rank_is : (c : ℕ) → c + 1 < length labels
      → get_or (ranks_of labels) c 0 + 1 ≡ rank (length labels) (label_at labels) (c + 1)
  rank_is c h =
      let e = ranks_at labels c h in let s = rank-some (c + 1) h (omega arith) in omega (arith, e, s)

  pub ranks_tell : (c d : ℕ) → c + 1 < length labels → d + 1 < length labels
      → (get_or (ranks_of labels) c 0 < get_or (ranks_of labels) d 0)
      ↔ (label_at labels (c + 1) < label_at labels (d + 1))
  ranks_tell c d h k =
      let e = rank_is c h in let f = rank_is d k in (
        λ a. rank-tells (length labels) (label_at labels) (c + 1) (d + 1) (omega (arith, a, e, f)),
        λ a. let m = rank-less (length labels) (label_at labels) (c + 1) (d + 1) h a in omega (arith, m, e, f),
      )

  -- a node with one before it isn't the head
  pub past_head : (c place : ℕ) → rank (length labels) (label_at labels) c ≡ place + 1 → 1 ≤ c
  past_head zero place h =
      let q = rank-head (length labels) (label_at labels) (label_at next) (label_at prev) r.links in absurd (omega (arith, h, q))
  past_head (suc c) place h = omega arith

  -- one more rank is written
  pub filled : (ranks : List ℕ) (node place : ℕ) → node < length labels → 1 ≤ node
      → rank (length labels) (label_at labels) node ≡ place + 1 → node - 1 < length ranks → (c : ℕ) → c + 1 < length labels
      → rank (length labels) (label_at labels) (c + 1) < place + 1 + 1
      → (rank (length labels) (label_at labels) (c + 1) < place + 1
      → get_or ranks c 0 + 1 ≡ rank (length labels) (label_at labels) (c + 1))
      → get_or (set ranks (node - 1) place) c 0 + 1 ≡ rank (length labels) (label_at labels) (c + 1)
  filled ranks node place l some here in_ranks c h k done = elim (cases_eq c (node - 1)) [
    | inl e ↦
        let is : c + 1 ≡ node = omega (arith, e, some) in
        let v = ap (rank (length labels) (label_at labels)) is in
        let w = ap (λ z. get_or (set ranks (node - 1) place) z 0) e in
        let u = get_or-set_same ranks (node - 1) place 0 in_ranks in
        omega (arith, v, w, u, here)
    | inr e ↦
        let ne : rank (length labels) (label_at labels) (c + 1) ≢ place + 1 =
        λ w. (let q = rank-once (length labels) (label_at labels) (label_at next) (label_at prev) r.links (c + 1) node h l (w ∙ sym here) in
        omega (arith, q, e)) in
        let u = get_or-set_other ranks (node - 1) c place 0 e in
        let d = done (omega (arith, k, ne)) in omega (arith, u, d)
  ]

  -- the node of each rank
  node_at : (r : ℕ) → r < length labels → (c : ℕ) × ((c < length labels) × (rank (length labels) (label_at labels) c ≡ r))
  node_at zero h = (0, (r.links.some, rank-head (length labels) (label_at labels) (label_at next) (label_at prev) r.links))
  node_at (suc k) h =
      let p = node_at k (omega (arith, h)) in let b = p.1.0 in let e = p.1.1 in
      let s = rank-step (length labels) (label_at labels) (label_at next) (label_at prev) r.links p.0 b (omega (arith, e, h)) in
      (get_or next p.0 0, ((r.links.next_in p.0 (b, λ z. omega (arith, z, b))).0, omega (arith, s, e)))

  pub are_ranks : AreRanks (ranks_of labels)
  are_ranks = record {
    below = λ c h.
        let n = ranks_len labels in let e = rank_is c (omega (arith, h, n)) in
        let m = rank-below (length labels) (label_at labels) (c + 1) (omega (arith, h, n)) in
        omega (arith, n, e, m);
    once = λ c d h k q.
        let n = ranks_len labels in
        let e = rank_is c (omega (arith, h, n)) in let f = rank_is d (omega (arith, k, n)) in
        let m = rank-once (length labels) (label_at labels) (label_at next) (label_at prev) r.links (c + 1) (d + 1)
        (omega (arith, h, n)) (omega (arith, k, n)) (omega (arith, e, f, q)) in
        omega (arith, m);
    each = λ k h. each k h (node_at (k + 1) (let n = ranks_len labels in omega (arith, h, n)));
  }
    where
      each : (k : ℕ) → k < length (ranks_of labels)
          → (c : ℕ) × ((c < length labels) × (rank (length labels) (label_at labels) c ≡ k + 1)) → Contains (ranks_of labels) k
      each k h p =
          let b = p.1.0 in let e = p.1.1 in let n = ranks_len labels in
          let z : p.0 ≢ 0 = λ w.
          (let v = ap (rank (length labels) (label_at labels)) w in
          let u = rank-head (length labels) (label_at labels) (label_at next) (label_at prev) r.links in omega (arith, e, v, u)) in
          let is : p.0 - 1 + 1 ≡ p.0 = omega (arith, z) in
          let q = rank_is (p.0 - 1) (omega (arith, b, z)) in
          let v = ap (rank (length labels) (label_at labels)) is in
          subst (Contains (ranks_of labels)) (omega (arith, q, v, e)) (Contains-get_or (ranks_of labels) (p.0 - 1) 0 (omega (arith, b, z, n)))

  -- labels of classes are in the order of the ranks
  pub labels_in_order : AreInOrder (ranks_of labels) (drop 1 labels)
  labels_in_order c d h k =
      let n = ranks_len labels in
      let t = ranks_tell c d (omega (arith, h, n)) (omega (arith, k, n)) in
      let e : get_or (drop 1 labels) c 0 ≡ label_at labels (c + 1) = get_or_after_one labels c 0 ∙ ap (label_at labels) (omega arith) in
      let f : get_or (drop 1 labels) d 0 ≡ label_at labels (d + 1) = get_or_after_one labels d 0 ∙ ap (label_at labels) (omega arith) in (
        λ a. t.1 (omega (arith, a, e, f)),
        λ a. let m = t.0 a in omega (arith, m, e, f),
      )

-- other labels in the same order give the same ranks
pub ranks_same : (labels labels1 : List ℕ) → length labels1 ≡ length labels
    → IsSameOrder (length labels) (label_at labels) (label_at labels1) → ranks_of labels1 ≡ ranks_of labels
ranks_same labels labels1 len o =
    let m = ranks_len labels in let n = ranks_len labels1 in
    same_number_lists (ranks_of labels1) (ranks_of labels) (omega (arith, m, n, len)) (λ k l.
    let h : k + 1 < length labels = omega (arith, l, n, len) in
    let a = ranks_at labels1 k (omega (arith, h, len)) in let b = ranks_at labels k h in
    let c = ap (λ z. rank z (label_at labels1) (k + 1)) len in
    let d = rank-same (length labels) (label_at labels) (label_at labels1) (k + 1) (λ i q. o i (k + 1) q h) in
    omega (arith, a, b, c, d))

-- a node that is appended has the last rank
pub ranks_appended : (labels : List ℕ) (x : ℕ) → 0 < length labels
    → ((c : ℕ) → c < length labels → label_at labels c < x)
    → ranks_of (labels ++ x ∷ []) ≡ ranks_of labels ++ length (ranks_of labels) ∷ []
ranks_appended labels x some top =
    let m = ranks_len labels in let n = ranks_len (labels ++ x ∷ []) in let p = length_push labels x in
    let q = length_push (ranks_of labels) (length (ranks_of labels)) in
    same_number_lists (ranks_of (labels ++ x ∷ [])) (ranks_of labels ++ length (ranks_of labels) ∷ [])
    (omega (arith, m, n, p, q, some)) (λ k l. by k (omega (arith, l, n, p)) (cases_lt k (length (ranks_of labels))))
  where
    old : (c : ℕ) → c < length labels → label_at (labels ++ x ∷ []) c ≡ label_at labels c
    old c h = get_or_append_left labels (x ∷ []) 0 c h

    new : label_at (labels ++ x ∷ []) (length labels) ≡ x
    new = get_or_push labels x 0 (length labels) refl

    wider : (c : ℕ) → rank (length (labels ++ x ∷ [])) (label_at (labels ++ x ∷ [])) c ≡ rank (suc (length labels)) (label_at (labels ++ x ∷ [])) c
    wider c =
        let p = length_push labels x in
        let e : length (labels ++ x ∷ []) ≡ suc (length labels) = omega (arith, p) in
        ap (λ z. rank z (label_at (labels ++ x ∷ [])) c) e

    same : (c : ℕ) → c < length labels
        → count (λ d. ltb (label_at (labels ++ x ∷ []) d) (label_at (labels ++ x ∷ []) c)) (length labels) ≡ rank (length labels) (label_at labels) c
    same c h = rank-same (length labels) (label_at labels) (label_at (labels ++ x ∷ [])) c (λ k l.
        let a = old k l in let b = old c h in (λ z. omega (arith, z, a, b), λ z. omega (arith, z, a, b)))

    all : count (λ d. ltb (label_at (labels ++ x ∷ []) d) (label_at (labels ++ x ∷ []) (length labels))) (length labels) ≡ length labels
    all = count-same (λ d. ltb (label_at (labels ++ x ∷ []) d) (label_at (labels ++ x ∷ []) (length labels))) (λ _. true) (length labels)
        (λ k l. let a = old k l in let b = new in let t = top k l in
        lt-ltb (label_at (labels ++ x ∷ []) k) (label_at (labels ++ x ∷ []) (length labels)) (omega (arith, a, b, t)))
        ∙ count-all (length labels)

    by : (k : ℕ) → k < length labels → (k < length (ranks_of labels)) ⊎ (length (ranks_of labels) ≤ k)
        → get_or (ranks_of (labels ++ x ∷ [])) k 0 ≡ get_or (ranks_of labels ++ length (ranks_of labels) ∷ []) k 0
    by k l (inl g) =
        let m = ranks_len labels in let p = length_push labels x in
        let h : k + 1 < length labels = omega (arith, g, m) in
        let a = ranks_at (labels ++ x ∷ []) k (omega (arith, l, p)) in
        let b = ranks_at labels k h in
        let c = get_or_append_left (ranks_of labels) (length (ranks_of labels) ∷ []) 0 k g in
        let w = wider (k + 1) in let s = same (k + 1) h in
        let f : ltb (label_at (labels ++ x ∷ []) (length labels)) (label_at (labels ++ x ∷ []) (k + 1)) ≡ false =
        le-ltb (label_at (labels ++ x ∷ []) (length labels)) (label_at (labels ++ x ∷ []) (k + 1))
        (let t = top (k + 1) h in let u = old (k + 1) h in let v = new in omega (arith, t, u, v)) in
        let e : rank (suc (length labels)) (label_at (labels ++ x ∷ [])) (k + 1)
        ≡ count (λ d. ltb (label_at (labels ++ x ∷ []) d) (label_at (labels ++ x ∷ []) (k + 1))) (length labels) =
        rw f (let z : count (λ d. ltb (label_at (labels ++ x ∷ []) d) (label_at (labels ++ x ∷ []) (k + 1))) (length labels) + 0
        ≡ count (λ d. ltb (label_at (labels ++ x ∷ []) d) (label_at (labels ++ x ∷ []) (k + 1))) (length labels) = omega arith in z) in
        omega (arith, a, b, c, w, s, e)
    by k l (inr g) =
        let m = ranks_len labels in let p = length_push labels x in
        let is : k ≡ length (ranks_of labels) = omega (arith, l, g, m, some) in
        let at : k + 1 ≡ length labels = omega (arith, is, m, some) in
        let a = ranks_at (labels ++ x ∷ []) k (omega (arith, l, p)) in
        let c = get_or_push (ranks_of labels) (length (ranks_of labels)) 0 k (sym is) in
        let w = wider (length labels) in
        let v = ap (λ z. rank (length (labels ++ x ∷ [])) (label_at (labels ++ x ∷ [])) z) at in
        let f : ltb (label_at (labels ++ x ∷ []) (length labels)) (label_at (labels ++ x ∷ []) (length labels)) ≡ false =
        le-ltb (label_at (labels ++ x ∷ []) (length labels)) (label_at (labels ++ x ∷ []) (length labels)) (omega arith) in
        let e : rank (suc (length labels)) (label_at (labels ++ x ∷ [])) (length labels) ≡ length labels =
        rw f (let z = all in omega (arith, z)) in
        omega (arith, a, c, w, v, e, m, some)

-- what was found, and the list that has its nodes in order
module _ (classes nodes : List ℕ) (p : IsPermutation (map node_of classes) nodes) where
  node_in : (c : ℕ) → Contains classes c → Contains (map node_of classes) (c + 1)
  node_in c h =
      let l = h.1 in let n = length-map classes node_of in
      let e : get_or (map node_of classes) h.0 0 ≡ c + 1 =
      get_or-map node_of classes h.0 0 0 (omega (arith, l)) ∙ ap node_of (get_or_default classes h.0 0 c h.1 ∙ h.2) in
      subst (Contains (map node_of classes)) e (Contains-get_or (map node_of classes) h.0 0 (omega (arith, l, n)))

  pub to_node : (c : ℕ) → Contains classes c → IsOneOf nodes (length nodes) (c + 1)
  to_node c h =
      let d = Contains-permutation (map node_of classes) nodes (c + 1) p (node_in c h) in
      (d.0, (d.1, get_or_default nodes d.0 0 (c + 1) d.1 ∙ d.2))

  pub from_node : (x : ℕ) → IsOneOf nodes (length nodes) x → (c : ℕ) × (Contains classes c × (x ≡ c + 1))
  from_node x h =
      let q = Contains-permutation nodes (map node_of classes) x (IsPermutation-sym (map node_of classes) nodes p)
      (subst (Contains nodes) h.1.1 (Contains-get_or nodes h.0 0 h.1.0)) in
      let l = q.1 in let n = length-map classes node_of in
      let b : q.0 < length classes = omega (arith, l, n) in
      (get_or classes q.0 0, (Contains-get_or classes q.0 0 b, sym (get_or_default (map node_of classes) q.0 0 x q.1 ∙ q.2) ∙ get_or-map node_of classes q.0 0 0 b))

  pub node_found : (k : ℕ) → k < length nodes → (c : ℕ) × (Contains classes c × (get_or nodes k 0 ≡ c + 1))
  node_found k h = from_node (get_or nodes k 0) (k, (h, refl))

  from_class : (c : ℕ) → IsOneOf nodes (length nodes) (c + 1) → Contains classes c
  from_class c h = let q = from_node (c + 1) h in let e = q.1.1 in
      let is : q.0 ≡ c = omega (arith, e) in subst (Contains classes) is q.1.0

  module _ (labels next prev : List ℕ) (r : IsRing labels next prev)
      (labels2 next2 prev2 : List ℕ) (r2 : IsRing labels2 next2 prev2) (len : length labels2 ≡ length labels)
      (within : (c : ℕ) → Contains classes c → c < length (ranks_of labels))
      (at limit : ℕ)
      (s : IsShifted (length labels) (label_at labels) (label_at labels2) (IsOneOf nodes (length nodes)) at)
      (place : (c : ℕ) → c + 1 < length labels → (label_at labels at < label_at labels (c + 1))
      ↔ (limit ≤ get_or (ranks_of labels) c 0)) where
    pub have_moved : HaveMoved (Contains classes) limit (ranks_of labels) (ranks_of labels2)
    have_moved = record {
      len = let a = ranks_len labels in let b = ranks_len labels2 in omega (arith, a, b, len);
      among = λ c d h k.
          let t = s.among (c + 1) (d + 1) (to_node c h) (to_node d k) in
          let u = old c d (in_labels c (within c h)) (in_labels d (within d k)) in
          let v = new c d (in_labels c (within c h)) (in_labels d (within d k)) in
          (λ a. u.1 (t.0 (v.0 a)), λ a. v.1 (t.1 (u.0 a)));
      stay = λ c d h k x y.
          let t = s.stay (c + 1) (d + 1) (in_labels c h) (in_labels d k) (λ a. x (from_class c a)) (λ a. y (from_class d a)) in
          let u = old c d (in_labels c h) (in_labels d k) in
          let v = new c d (in_labels c h) (in_labels d k) in
          (λ a. u.1 (t.0 (v.0 a)), λ a. v.1 (t.1 (u.0 a)));
      below = λ c d h k y.
          let t = s.below (c + 1) (d + 1) (to_node c h) (in_labels d k) (λ a. y (from_class d a)) in
          let v = new d c (in_labels d k) (in_labels c (within c h)) in
          let w = place d (in_labels d k) in
          (λ a. let m = t.0 (v.0 a) in grind (arith, w.1, m), λ a. v.1 (t.1 (grind (arith, w.0, a))));
      above = λ c d h k y.
          let t = s.above (c + 1) (d + 1) (to_node c h) (in_labels d k) (λ a. y (from_class d a)) in
          let v = new c d (in_labels c (within c h)) (in_labels d k) in
          let w = place d (in_labels d k) in
          (λ a. w.0 (t.0 (v.0 a)), λ a. v.1 (t.1 (w.1 a)));
      keeps = λ d k y f.
          let e = outside (length labels) (label_at labels) (label_at labels2) (IsOneOf nodes (length nodes)) at s
          (one_of nodes (length nodes)) (d + 1) (in_labels d k) (λ a. y (from_class d a)) (λ x m. stands d k f x (from_node x m)) in
          let g = rank_is labels next prev r d (in_labels d k) in
          let i = rank_is labels2 next2 prev2 r2 d (let b = in_labels d k in omega (arith, b, len)) in
          let q = ap (λ m. rank m (label_at labels2) (d + 1)) len in
          omega (arith, e, g, i, q);
    }
      where
        in_labels : (c : ℕ) → c < length (ranks_of labels) → c + 1 < length labels
        in_labels c h = let n = ranks_len labels in omega (arith, h, n)

        old : (c d : ℕ) → c + 1 < length labels → d + 1 < length labels
            → (get_or (ranks_of labels) c 0 < get_or (ranks_of labels) d 0)
            ↔ (label_at labels (c + 1) < label_at labels (d + 1))
        old c d h k = ranks_tell labels next prev r c d h k

        new : (c d : ℕ) → c + 1 < length labels → d + 1 < length labels
            → (get_or (ranks_of labels2) c 0 < get_or (ranks_of labels2) d 0)
            ↔ (label_at labels2 (c + 1) < label_at labels2 (d + 1))
        new c d h k = ranks_tell labels2 next2 prev2 r2 c d (omega (arith, h, len)) (omega (arith, k, len))

        stands : (d : ℕ) → d < length (ranks_of labels)
            → ((c : ℕ) → Contains classes c → (get_or (ranks_of labels) c 0 < get_or (ranks_of labels) d 0)
            ↔ (limit ≤ get_or (ranks_of labels) d 0))
            → (x : ℕ) → (c : ℕ) × (Contains classes c × (x ≡ c + 1))
            → (label_at labels x < label_at labels (d + 1)) ↔ (label_at labels at < label_at labels (d + 1))
        stands d k f x q =
            let t = f q.0 q.1.0 in
            let u = old q.0 d (in_labels q.0 (within q.0 q.1.0)) (in_labels d k) in
            let w = place d (in_labels d k) in
            let e = ap (label_at labels) q.1.1 in (
              λ a. w.1 (t.0 (u.1 (omega (arith, a, e)))),
              λ a. let m = u.0 (t.1 (w.0 a)) in omega (arith, m, e),
            )

-- no more classes are told than there are
pub classes_few : (labels classes : List ℕ) → 0 < length labels → IsDistinct nat_eq classes
    → ((x : ℕ) → Contains classes x → x + 1 < length labels) → length classes + 1 ≤ length labels
classes_few labels classes some once within =
    let f = length-le_from_distinct_below classes (length labels - 1) once (λ q e.
    let w = within q (Contains-from_any {eq = nat_eq} (λ x y t. eqb-true x y t) q classes e) in omega (arith, w)) in
    omega (arith, f, some)

-- the place directly before a class
module _ (labels next prev : List ℕ) (r : IsRing labels next prev) (b : ℕ) (l : b + 1 < length labels) (at : ℕ)
    (is : at ≡ get_or prev (b + 1) 0) where
  less : label_at labels at < label_at labels (b + 1)
  less = let m = before_less (length labels) (label_at labels) (label_at next) (label_at prev) r.links (b + 1) l (omega arith) in
      let e = ap (label_at labels) is in omega (arith, m, e)

  pub before_in : at < length labels
  before_in = let m = (r.links.prev_in (b + 1) (l, λ z. omega (arith, z, l))).0 in omega (arith, m, is)

  pub free_before : (x : ℕ) → x + 1 < length labels → get_or (ranks_of labels) b 0 < get_or (ranks_of labels) x 0 → x + 1 ≢ at
  free_before x h u e =
      let t = (ranks_tell labels next prev r b x l h).0 u in
      let m = less in let f = ap (label_at labels) e in omega (arith, t, m, f)

  pub apart_before : (x : ℕ) → x + 1 < length labels → get_or (ranks_of labels) b 0 < get_or (ranks_of labels) x 0
      → get_or next at 0 ≢ x + 1
  apart_before x h u e =
      let f = r.links.forth (b + 1) (l, λ z. omega (arith, z, l)) in
      let g = ap (label_at next) is in
      let q : b ≡ x = omega (arith, e, f, g) in
      let v = ap (λ z. get_or (ranks_of labels) z 0) q in omega (arith, u, v)

  pub place_before : (c : ℕ) → c + 1 < length labels
      → (label_at labels at < label_at labels (c + 1)) ↔ (get_or (ranks_of labels) b 0 ≤ get_or (ranks_of labels) c 0)
  place_before c h =
      let t = ranks_tell labels next prev r c b h l in
      let p = behind_before (length labels) (label_at labels) (label_at next) (label_at prev) r.links (b + 1) l (omega arith) (c + 1) h in
      let e = ap (label_at labels) is in (
        λ u. let m = p.0 (omega (arith, u, e)) in grind (arith, t.0, m),
        λ u. let m = p.1 (grind (arith, t.1, u)) in omega (arith, m, e),
      )

-- the place directly behind a class
module _ (labels next prev : List ℕ) (r : IsRing labels next prev) (a : ℕ) (l : a + 1 < length labels) where
  pub free_behind : (x : ℕ) → get_or (ranks_of labels) x 0 < get_or (ranks_of labels) a 0 → x + 1 ≢ a + 1
  free_behind x u e =
      let q : x ≡ a = omega (arith, e) in let v = ap (λ z. get_or (ranks_of labels) z 0) q in omega (arith, u, v)

  pub apart_behind : (x : ℕ) → x + 1 < length labels → get_or (ranks_of labels) x 0 < get_or (ranks_of labels) a 0
      → get_or next (a + 1) 0 ≢ x + 1
  apart_behind x h u e =
      let m = r.links.up (a + 1) (l, λ z. omega (arith, z, l)) (λ z. omega (arith, z, e)) in
      let t = (ranks_tell labels next prev r x a h l).0 u in
      let f = ap (label_at labels) e in omega (arith, m, t, f)

  pub place_behind : (c : ℕ) → c + 1 < length labels
      → (label_at labels (a + 1) < label_at labels (c + 1)) ↔ (get_or (ranks_of labels) a 0 + 1 ≤ get_or (ranks_of labels) c 0)
  place_behind c h =
      let t = ranks_tell labels next prev r a c l h in
      (λ u. let m = t.1 u in omega (arith, m), λ u. t.0 (omega (arith, u)))

-- what an order's invariant says where it has this class
pub class_below : (o : Inside) (c : ℕ) → c < length (ranks_of o.labels.items) → c + 1 < length o.labels.items
class_below o c h = let n = ranks_len o.labels.items in omega (arith, h, n)

pub ring_some : (o : Inside) → IsKept o → length o.labels.items ≢ 0 → IsRing o.labels.items o.next.items o.prev.items
ring_some o k h = k.ring (grind (arith, k.none, h))

pub ring_of : (o : Inside) → IsKept o → (c : ℕ) → c < length (ranks_of o.labels.items)
    → IsRing o.labels.items o.next.items o.prev.items
ring_of o k c h = ring_some o k (λ e. let n = ranks_len o.labels.items in omega (arith, h, n, e))

-- the lists of a ring, as terms of a proof have them
pub same_ring : {labels next prev labels' next' prev' : List ℕ} → labels' ≡ labels → next' ≡ next → prev' ≡ prev
    → IsRing labels next prev → IsRing labels' next' prev'
same_ring {labels} {next} {prev} {labels'} {next'} {prev'} l n p r =
    subst (λ z. IsRing z next' prev') (sym l) (subst (λ z. IsRing labels z prev') (sym n) (subst (IsRing labels next) (sym p) r))
