-- Rows that are put in order by their keys.
use Rattle.std.proofs.Common.{◌≡◌, ◌≢◌, inl, inr, ◌<◌, List, true, false, [], ◌∷◌, AllPairs, Any, Decides, IsPermutation, IsSortedByKey, Less}
use Rattle.std.proofs.Common.{Equal, Greater, Ordering, is_eq, is_lt, length, map, get_or, refl, sym, ap, subst, ◌∙◌, arith}
use Rattle.std.proofs.lemmas.Bool.{true≢false}
use Rattle.std.proofs.lemmas.Cmp.{on_total, then_total, tied_itself}
use Rattle.std.proofs.lemmas.List.{get_or-map, length-map}
use Rattle.std.proofs.lemmas.List.Sorted.{Contains-permutation, IsPermutation-map, ranks_by, sorted_far}
use Rattle.std.proofs.lemmas.Map.Keys.{IsDistinct-IsPermutation}
use Rattle.std.proofs.lemmas.Map.Made.{AllPairs-from_IsDistinct, IsDistinct-from_AllPairs}
use Rattle.std.specs.Cmp.{IsTotalOrder}
use Rattle.std.specs.Ordering.{eq_by_cmp, ordering_reverse, ordering_then}
use Rattle.ld_class.specs.Names.{PlainClass}
use Rattle.ld_union.specs.Findings.{IsPairBefore}
use Rattle.ld_union.proofs.NameOrderLemmas.{before_from_less, class_cmp, class_cmp_total, same_from_equal}

AllPairs-map : {X Y : Type 0} (R : Y → Y → Type 0) (f : X → Y) (xs : List X) → AllPairs (λ x y. R (f x) (f y)) xs → AllPairs R (map f xs)
AllPairs-map R f [] all i j d before within = absurd (omega (arith, within))
AllPairs-map R f (x ∷ xs) all i j d before within =
    let at_j : j < length (x ∷ xs) = subst (λ n. j < n) (length-map (x ∷ xs) f) within in
    let at_i : i < length (x ∷ xs) = omega (arith, before, at_j) in
    subst (λ a. R a (get_or (map f (x ∷ xs)) j d)) (sym (get_or-map f (x ∷ xs) i x d at_i))
    (subst (λ b. R (f (get_or (x ∷ xs) i x)) b) (sym (get_or-map f (x ∷ xs) j x d at_j)) (all i j x before at_j))

AllPairs-from_map : {X Y : Type 0} (R : Y → Y → Type 0) (f : X → Y) (xs : List X) → AllPairs R (map f xs) → AllPairs (λ x y. R (f x) (f y)) xs
AllPairs-from_map R f xs all i j d before within =
    let at_i : i < length xs = omega (arith, before, within) in
    subst (λ a. R a (f (get_or xs j d))) (get_or-map f xs i d (f d) at_i)
    (subst (λ b. R (get_or (map f xs) i (f d)) b) (get_or-map f xs j d (f d) within) (all i j (f d) before (subst (λ n. j < n) (sym (length-map xs f)) within)))

pub Any-permutation : {X : Type 0} (P : X → Type 0) (xs ys : List X) → IsPermutation xs ys → Any P xs → Any P ys
Any-permutation P xs ys moved h =
    let there = Contains-permutation xs ys h.1 moved (h.0, h.2, h.3) in
    (there.0, h.1, there.1, there.2, h.4)

module _ {Key : Type 0} (cmp : Key → Key → Ordering) (total : IsTotalOrder cmp) (exact : (k l : Key) → Decides (is_eq (cmp k l)) (k ≡ l)) where
  -- keys that differ still do so after a sort, so each comes before those after it
  module _ {X : Type 0} (key : X → Key) (xs ys : List X) (moved : IsPermutation xs ys) (apart : AllPairs (λ x y. key x ≢ key y) xs) where
    still_apart : AllPairs (λ x y. key x ≢ key y) ys
    still_apart =
        AllPairs-from_map (λ k l. k ≢ l) key ys (AllPairs-from_IsDistinct exact (map key ys)
        (IsDistinct-IsPermutation (eq_by_cmp cmp) flips (map key xs) (map key ys) (IsPermutation-map key xs ys moved)
        (IsDistinct-from_AllPairs exact (map key xs) (AllPairs-map (λ k l. k ≢ l) key xs apart))))
      where
        turned : (r : Ordering) → is_eq r ≡ is_eq (ordering_reverse r)
        turned Less = refl
        turned Equal = refl
        turned Greater = refl

        flips : (k l : Key) → is_eq (cmp k l) ≡ is_eq (cmp l k)
        flips k l = ap is_eq (total.antisymm k l) ∙ sym (turned (cmp l k))

    pub rising : IsSortedByKey key cmp ys → AllPairs (λ x y. cmp (key x) (key y) ≡ Less) ys
    rising sorted i j d before within = by (cmp (key (get_or ys i d)) (key (get_or ys j d))) refl
      where
        not_after : is_lt (cmp (key (get_or ys j d)) (key (get_or ys i d))) ≡ false
        not_after = sorted_far (λ x y. is_lt (cmp (key x) (key y))) (ranks_by total key) ys sorted i j d (omega (arith, before)) within

        by : (r : Ordering) → cmp (key (get_or ys i d)) (key (get_or ys j d)) ≡ r → cmp (key (get_or ys i d)) (key (get_or ys j d)) ≡ Less
        by Less is = is
        by Equal is = absurd (still_apart i j d before within ((exact (key (get_or ys i d)) (key (get_or ys j d))).0 (ap is_eq is)))
        by Greater is = absurd (true≢false (sym (ap is_lt (total.antisymm (key (get_or ys j d)) (key (get_or ys i d)) ∙ ap ordering_reverse is)) ∙ not_after))

-- what a sort by two names compares
abbrev pub pair_cmp : PlainClass × PlainClass → PlainClass × PlainClass → Ordering
pair_cmp p q = ordering_then (class_cmp p.0 q.0) (class_cmp p.1 q.1)

pub pair_cmp_total : IsTotalOrder pair_cmp
pair_cmp_total = then_total (on_total (λ p. p.0) class_cmp_total) (on_total (λ p. p.1) class_cmp_total)

same_pair : (p q : PlainClass × PlainClass) → is_eq (pair_cmp p q) ≡ true → p ≡ q
same_pair p q is = by (class_cmp p.0 q.0) (class_cmp p.1 q.1) refl refl is
  where
    by : (r s : Ordering) → class_cmp p.0 q.0 ≡ r → class_cmp p.1 q.1 ≡ s → is_eq (ordering_then r s) ≡ true → p ≡ q
    by Less s first second h = absurd (true≢false (sym h))
    by Greater s first second h = absurd (true≢false (sym h))
    by Equal Less first second h = absurd (true≢false (sym h))
    by Equal Greater first second h = absurd (true≢false (sym h))
    by Equal Equal first second h = λ i. (same_from_equal p.0 q.0 first i, same_from_equal p.1 q.1 second i)

pub pair_cmp-Decides : (p q : PlainClass × PlainClass) → Decides (is_eq (pair_cmp p q)) (p ≡ q)
pair_cmp-Decides p q = (same_pair p q, λ same. subst (λ r. is_eq (pair_cmp p r) ≡ true) same (ap is_eq (tied_itself pair_cmp_total p)))

pub pair_before_from_less : (p q : PlainClass × PlainClass) → pair_cmp p q ≡ Less → IsPairBefore p q
pair_before_from_less p q is = by (class_cmp p.0 q.0) refl is
  where
    by : (r : Ordering) → class_cmp p.0 q.0 ≡ r → ordering_then r (class_cmp p.1 q.1) ≡ Less → IsPairBefore p q
    by Less first h = inl (before_from_less p.0 q.0 first)
    by Equal first h = inr (same_from_equal p.0 q.0 first, before_from_less p.1 q.1 h)
    by Greater first h = absurd (true≢false (sym (ap is_lt h)))
