-- Nodes of classes in the order of their labels.
use Rattle.std.proofs.Common.{◌≡◌, ◌≢◌, ℕ, ◌+◌, ◌<◌, ◌≤◌, List, [], ◌∷◌, All, true≢false, get_or, length, map, nat_eq, Contains, arith, refl, sym, ap, subst, ◌∙◌}
use Rattle.std.specs.List.{IsDistinct}
use Rattle.std.specs.List.Sorted.{IsNonDecreasingBy, IsPermutation}
use Rattle.std.proofs.lemmas.Bool.{eq-eqb, eqb-false, ne_eqb}
use Rattle.std.proofs.lemmas.Cmp.{nat_eq_equiv}
use Rattle.std.proofs.lemmas.List.{get_or-map, get_or_default, length-map}
use Rattle.std.proofs.lemmas.List.Elements.{Contains-get_or}
use Rattle.std.proofs.lemmas.List.Sorted.{All-permutation, Contains-permutation, IsPermutation-map, IsPermutation-sym}
use Rattle.std.proofs.lemmas.Map.Keys.{IsDistinct-IsPermutation, IsDistinct-from_apart, apart_from_distinct}
use Rattle.ld_order.specs.declared.sorted.Labelled.{Labelled}
use Rattle.ld_order.specs.Inner.Labels.{labelled, node_of}

nodes_of : (labels found : List ℕ) → map (λ (e : Labelled). e.node) (map (labelled labels) found) ≡ map node_of found
nodes_of labels [] = refl
nodes_of labels (x ∷ xs) = ap (λ l. node_of x ∷ l) (nodes_of labels xs)

right : (labels found : List ℕ) → All (λ (e : Labelled). e.label ≡ get_or labels e.node 0) (map (labelled labels) found)
right labels found = λ k d l.
    let n = length-map found (labelled labels) in
    subst (λ (e : Labelled). e.label ≡ get_or labels e.node 0)
    (sym (get_or-map (labelled labels) found k 0 d (omega (arith, l, n)))) refl

-- the nodes of classes that differ do
nodes_once : (found : List ℕ) → IsDistinct nat_eq found → IsDistinct nat_eq (map node_of found)
nodes_once found once = IsDistinct-from_apart nat_eq (map node_of found) (λ i j z l b.
    let n = length-map found node_of in
    let e = get_or-map node_of found i 0 z (omega (arith, l, b, n)) in
    let f = get_or-map node_of found j 0 z (omega (arith, b, n)) in
    rw (e, f) (ne_eqb _ _ (λ q. eqb-false _ _ (apart_from_distinct nat_eq found i j 0 once l (omega (arith, b, n))) (omega (arith, q)))))

module _ (labels found : List ℕ) (pool : List Labelled) (perm : IsPermutation (map (labelled labels) found) pool) where
  pub arranged_same : IsPermutation (map node_of found) (map (λ (e : Labelled). e.node) pool)
  arranged_same = subst (λ l. IsPermutation l (map (λ (e : Labelled). e.node) pool)) (nodes_of labels found)
      (IsPermutation-map (λ (e : Labelled). e.node) (map (labelled labels) found) pool perm)

  pub arranged_rising : IsNonDecreasingBy (λ (e : Labelled). e.label) pool
      → ((x : ℕ) → Contains found x → x + 1 < length labels) → IsDistinct nat_eq found
      → ((x y : ℕ) → x < length labels → y < length labels → get_or labels x 0 ≡ get_or labels y 0 → x ≡ y)
      → (j k : ℕ) → j < k → k < length (map (λ (e : Labelled). e.node) pool)
      → get_or labels (get_or (map (λ (e : Labelled). e.node) pool) j 0) 0
      < get_or labels (get_or (map (λ (e : Labelled). e.node) pool) k 0) 0
  arranged_rising order classes once apart j k a b = omega (arith, most, differ)
    where
      n : length (map (λ (e : Labelled). e.node) pool) ≡ length pool
      n = length-map pool (λ (e : Labelled). e.node)

      none : Labelled
      none = record { label = 0; node = 0 }

      at : (i : ℕ) → i < length pool → get_or labels (get_or (map (λ (e : Labelled). e.node) pool) i 0) 0 ≡ (get_or pool i none).label
      at i l =
          ap (λ z. get_or labels z 0) (get_or-map (λ (e : Labelled). e.node) pool i none 0 l)
          ∙ sym (All-permutation (λ (e : Labelled). e.label ≡ get_or labels e.node 0) (map (labelled labels) found) pool perm (right labels found) i none l)

      most : get_or labels (get_or (map (λ (e : Labelled). e.node) pool) j 0) 0
          ≤ get_or labels (get_or (map (λ (e : Labelled). e.node) pool) k 0) 0
      most =
          let o = order j k none (omega (arith, a)) (omega (arith, b, n)) in
          let p = at j (omega (arith, a, b, n)) in let q = at k (omega (arith, b, n)) in omega (arith, o, p, q)

      in_labels : (i : ℕ) → i < length (map (λ (e : Labelled). e.node) pool) → get_or (map (λ (e : Labelled). e.node) pool) i 0 < length labels
      in_labels i l =
          let h = Contains-permutation (map (λ (e : Labelled). e.node) pool) (map node_of found) (get_or (map (λ (e : Labelled). e.node) pool) i 0)
          (IsPermutation-sym (map node_of found) (map (λ (e : Labelled). e.node) pool) arranged_same) (Contains-get_or (map (λ (e : Labelled). e.node) pool) i 0 l) in
          let q = h.1 in let m = length-map found node_of in
          let e = sym (get_or-map node_of found h.0 0 0 (omega (arith, q, m))) ∙ get_or_default (map node_of found) h.0 0 _ h.1 ∙ h.2 in
          let c = classes (get_or found h.0 0) (Contains-get_or found h.0 0 (omega (arith, q, m))) in
          omega (arith, e, c)

      differ : get_or labels (get_or (map (λ (e : Labelled). e.node) pool) j 0) 0
          ≢ get_or labels (get_or (map (λ (e : Labelled). e.node) pool) k 0) 0
      differ e =
          let q = apart _ _ (in_labels j (omega (arith, a, b))) (in_labels k b) e in
          let d = apart_from_distinct nat_eq (map (λ (e : Labelled). e.node) pool) j k 0
          (IsDistinct-IsPermutation nat_eq (nat_eq_equiv.symm) (map node_of found) (map (λ (e : Labelled). e.node) pool) arranged_same (nodes_once found once)) a b in
          true≢false (sym (eq-eqb _ _ q) ∙ d)
