-- Those of some classes that are of some kind, by their places in an order.
use Rattle.std.proofs.Common.{◌≡◌, ◌≢◌, ◌⊎◌, inl, inr, ◌+◌, ◌<◌, ◌≤◌, ◌∙◌, ◌++◌, ◌∷◌, [], List, ℕ, Contains, IsPermutation, IsSortedByKey, false}
use Rattle.std.proofs.Common.{map, arith, ap, length, nat_cmp, nat_eq, subst, sym}
use Rattle.std.specs.List.{IsDistinct}
use Rattle.std.proofs.lemmas.Bool.{cases_eq, cases_lt, eq-eqb, true≢false}
use Rattle.std.proofs.lemmas.List.{get_or-map, length-map}
use Rattle.std.proofs.lemmas.List.Elements.{Contains-append_left, Contains-get_or, Contains-push, Contains-push_cases}
use Rattle.std.proofs.lemmas.List.Sorted.{IsNonDecreasingBy-from_sort}
use Rattle.std.proofs.lemmas.Map.Keys.{IsDistinct-IsPermutation, apart_from_distinct}
use Rattle.ld_class.specs.Names.{PlainClass}
use Rattle.ld_graph.proofs.OnceLemmas.{IsDistinct-none, IsDistinct-one_more}
use Rattle.ld_union.specs.Findings.{IsBefore}
use Rattle.ld_union.specs.Inner.ByName.{AreRising, class_at, class_name, name_at, place_of_class}

-- the places of those of the first so many classes that are of this kind
pub record AreStaying (near places : List ℕ) (kind : ℕ → Type 0) (count : ℕ) (found : List ℕ) : Type 0 where
  pub once : IsDistinct nat_eq found
  pub each : (p : ℕ) → Contains found p → (k : ℕ) × ((k < count) × (kind (class_at near k) × (place_of_class places (class_at near k) ≡ p)))
  pub all : (k : ℕ) → k < count → kind (class_at near k) → Contains found (place_of_class places (class_at near k))

module _ (near places : List ℕ) (kind : ℕ → Type 0) where
  pub AreStaying-none : AreStaying near places kind 0 []
  AreStaying-none = record {
    once = IsDistinct-none;
    each = λ p h. let l = h.1 in absurd (omega (arith, l));
    all = λ k l. absurd (omega (arith, l));
  }

  module _ (count : ℕ) (found : List ℕ) (are : AreStaying near places kind count found) where
    pub AreStaying-other : ¬ kind (class_at near count) → AreStaying near places kind (count + 1) found
    AreStaying-other other = record {
      once = are.once;
      each = λ p h. let e = are.each p h in let l = e.1.0 in (e.0, (omega (arith, l), e.1.1));
      all = λ k l is. by k (cases_lt k count) l is;
    }
      where
        by : (k : ℕ) → (k < count) ⊎ (count ≤ k) → k < count + 1 → kind (class_at near k) → Contains found (place_of_class places (class_at near k))
        by k (inl less) l is = are.all k less is
        by k (inr past) l is = let same : k ≡ count = omega (arith, past, l) in absurd (other (subst (λ z. kind (class_at near z)) same is))

    pub AreStaying-one_more : IsDistinct nat_eq near → count < length near
        → ((j k : ℕ) → j < length near → k < length near → place_of_class places (class_at near j) ≡ place_of_class places (class_at near k) → class_at near j ≡ class_at near k)
        → kind (class_at near count) → AreStaying near places kind (count + 1) (found ++ place_of_class places (class_at near count) ∷ [])
    AreStaying-one_more once within apart is = record {
      once = IsDistinct-one_more found (place_of_class places (class_at near count)) are.once (λ h. fresh (are.each (place_of_class places (class_at near count)) h));
      each = λ p h. one p (Contains-push_cases found (place_of_class places (class_at near count)) p h);
      all = λ k l of. by k (cases_lt k count) l of;
    }
      where
        fresh : ((k : ℕ) × ((k < count) × (kind (class_at near k) × (place_of_class places (class_at near k) ≡ place_of_class places (class_at near count))))) → ⊥
        fresh e =
            let l = e.1.0 in
            let same = apart e.0 count (omega (arith, l, within)) within e.1.1.1 in
            true≢false (sym (eq-eqb (class_at near e.0) (class_at near count) same) ∙ apart_from_distinct nat_eq near e.0 count 0 once l within)

        one : (p : ℕ) → Contains found p ⊎ (place_of_class places (class_at near count) ≡ p)
            → (k : ℕ) × ((k < count + 1) × (kind (class_at near k) × (place_of_class places (class_at near k) ≡ p)))
        one p (inl h) = let e = are.each p h in let l = e.1.0 in (e.0, (omega (arith, l), e.1.1))
        one p (inr e) = (count, (omega arith, (is, e)))

        by : (k : ℕ) → (k < count) ⊎ (count ≤ k) → k < count + 1 → kind (class_at near k)
            → Contains (found ++ place_of_class places (class_at near count) ∷ []) (place_of_class places (class_at near k))
        by k (inl less) l of = Contains-append_left found (place_of_class places (class_at near count) ∷ []) (place_of_class places (class_at near k)) (are.all k less of)
        by k (inr past) l of =
            let same : k ≡ count = omega (arith, past, l) in
            subst (λ z. Contains (found ++ place_of_class places (class_at near count) ∷ []) (place_of_class places (class_at near z))) (sym same) (Contains-push found (place_of_class places (class_at near count)))

-- distinct numbers that are sorted
pub increasing_from_sort : (xs ys : List ℕ) → IsDistinct nat_eq xs → IsPermutation xs ys → IsSortedByKey (λ x. x) nat_cmp ys
    → (i j : ℕ) → i < j → j < length ys → class_at ys i < class_at ys j
increasing_from_sort xs ys once moved sorted i j less within =
    let up = IsNonDecreasingBy-from_sort (λ x. x) ys sorted i j 0 (omega (arith, less)) within in
    let apart = apart_from_distinct nat_eq ys i j 0 (IsDistinct-IsPermutation nat_eq nat_eq_flips xs ys moved once) less within in
    strict (class_at ys i) (class_at ys j) up apart (cases_eq (class_at ys i) (class_at ys j))
  where
    nat_eq_flips : (a b : ℕ) → nat_eq a b ≡ nat_eq b a
    nat_eq_flips a b = grind arith

    strict : (a b : ℕ) → a ≤ b → nat_eq a b ≡ false → (a ≡ b) ⊎ (a ≢ b) → a < b
    strict a b up apart (inl same) = absurd (true≢false (sym (eq-eqb a b same) ∙ apart))
    strict a b up apart (inr other) = omega (arith, up, other)

-- the classes at places that rise have names that do
pub AreRising-placed : (classes : List PlainClass) (numbers places : List ℕ) → AreRising (name_at classes numbers) (length numbers)
    → ((i j : ℕ) → i < j → j < length places → class_at places i < class_at places j) → ((i : ℕ) → i < length places → class_at places i < length numbers)
    → AreRising (name_at classes (map (class_at numbers) places)) (length (map (class_at numbers) places))
AreRising-placed classes numbers places names rising within i j less below =
    let low : j < length places = subst (λ n. j < n) (length-map places (class_at numbers)) below in
    let low_i : i < length places = omega (arith, less, low) in
    subst (λ c. IsBefore (class_name classes c) (name_at classes (map (class_at numbers) places) j)) (sym (get_or-map (class_at numbers) places i 0 0 low_i))
    (subst (λ c. IsBefore (name_at classes numbers (class_at places i)) (class_name classes c)) (sym (get_or-map (class_at numbers) places j 0 0 low))
    (names (class_at places i) (class_at places j) (rising i j less low) (within j low)))

-- a class is at one of these places, and where it is not
pub Contains-from_placed : (numbers places : List ℕ) (c : ℕ) → Contains (map (class_at numbers) places) c → (p : ℕ) × (Contains places p × (class_at numbers p ≡ c))
Contains-from_placed numbers places c h =
    let l = h.1 in
    let low : h.0 < length places = subst (λ n. h.0 < n) (length-map places (class_at numbers)) l in
    (class_at places h.0, (Contains-get_or places h.0 0 low, sym (get_or-map (class_at numbers) places h.0 0 c low) ∙ h.2))

pub Contains-placed : (numbers places : List ℕ) (p : ℕ) → Contains places p → Contains (map (class_at numbers) places) (class_at numbers p)
Contains-placed numbers places p h =
    let l = h.1 in
    (h.0, subst (λ n. h.0 < n) (sym (length-map places (class_at numbers))) l, get_or-map (class_at numbers) places h.0 p (class_at numbers p) l ∙ ap (class_at numbers) h.2)
