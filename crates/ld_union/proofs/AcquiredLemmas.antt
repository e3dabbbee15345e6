-- The classes of some kind, which are collected in the order of their names.
use Rattle.std.proofs.Common.{◌≡◌, ◌⊎◌, inl, inr, ◌+◌, ◌<◌, ◌≤◌, ◌∙◌, ◌++◌, ◌∷◌, [], List, ℕ, Contains}
use Rattle.std.proofs.Common.{arith, length, subst, sym}
use Rattle.std.proofs.lemmas.Bool.{cases_lt}
use Rattle.std.proofs.lemmas.List.{get_or_append_left, get_or_default, get_or_push, length_push}
use Rattle.std.proofs.lemmas.List.Elements.{Contains-append_left, Contains-push}
use Rattle.ld_class.specs.Names.{PlainClass}
use Rattle.ld_union.specs.Findings.{IsBefore}
use Rattle.ld_union.specs.Inner.ByName.{AreByName, AreRising, class_at, class_name, name_at, place_of_class}

-- of the first so many classes by name those of a kind
pub record AreOfKind (classes : List PlainClass) (numbers : List ℕ) (kind : ℕ → Type 0) (count : ℕ) (found : List ℕ) : Type 0 where
  pub each : (j : ℕ) → j < length found → (k : ℕ) × ((k < count) × ((class_at numbers k ≡ class_at found j) × kind (class_at found j)))
  pub all : (k : ℕ) → k < count → kind (class_at numbers k) → Contains found (class_at numbers k)
  pub rising : AreRising (name_at classes found) (length found)

module _ (classes : List PlainClass) (numbers : List ℕ) (kind : ℕ → Type 0) where
  module _ (count : ℕ) (found : List ℕ) (are : AreOfKind classes numbers kind count found) where
    pub AreOfKind-other : ¬ kind (class_at numbers count) → AreOfKind classes numbers kind (count + 1) found
    AreOfKind-other other = record {
      each = λ j l. let e = are.each j l in let b = e.1.0 in (e.0, (omega (arith, b), e.1.1));
      all = λ k l is. by k (cases_lt k count) l is;
      rising = are.rising;
    }
      where
        by : (k : ℕ) → (k < count) ⊎ (count ≤ k) → k < count + 1 → kind (class_at numbers k) → Contains found (class_at numbers k)
        by k (inl less) l is = are.all k less is
        by k (inr past) l is = let same : k ≡ count = omega (arith, past, l) in absurd (other (subst (λ z. kind (class_at numbers z)) same is))

    pub AreOfKind-one_more : AreRising (name_at classes numbers) (length numbers) → count < length numbers → kind (class_at numbers count)
        → AreOfKind classes numbers kind (count + 1) (found ++ class_at numbers count ∷ [])
    AreOfKind-one_more names within is = record {
      each = λ j l. one j (cases_lt j (length found)) l;
      all = λ k l of. by k (cases_lt k count) l of;
      rising = λ i j less l. up i j (cases_lt j (length found)) less l;
    }
      where
        more : List ℕ
        more = found ++ class_at numbers count ∷ []

        left : (j : ℕ) → j < length found → class_at more j ≡ class_at found j
        left j l = get_or_append_left found (class_at numbers count ∷ []) 0 j l

        last : (j : ℕ) → length found ≤ j → j < length more → class_at more j ≡ class_at numbers count
        last j past l = get_or_push found (class_at numbers count) 0 j (omega (arith, past, l, length_push found (class_at numbers count)))

        one : (j : ℕ) → (j < length found) ⊎ (length found ≤ j) → j < length more
            → (k : ℕ) × ((k < count + 1) × ((class_at numbers k ≡ class_at more j) × kind (class_at more j)))
        one j (inl less) l =
            let e = are.each j less in let b = e.1.0 in
            (e.0, (omega (arith, b), (e.1.1.0 ∙ sym (left j less), subst kind (sym (left j less)) e.1.1.1)))
        one j (inr past) l = (count, (omega arith, (sym (last j past l), subst kind (sym (last j past l)) is)))

        by : (k : ℕ) → (k < count) ⊎ (count ≤ k) → k < count + 1 → kind (class_at numbers k) → Contains more (class_at numbers k)
        by k (inl less) l of = Contains-append_left found (class_at numbers count ∷ []) (class_at numbers k) (are.all k less of)
        by k (inr past) l of =
            let same : k ≡ count = omega (arith, past, l) in
            subst (λ z. Contains more (class_at numbers z)) (sym same) (Contains-push found (class_at numbers count))

        up : (i j : ℕ) → (j < length found) ⊎ (length found ≤ j) → i < j → j < length more → IsBefore (name_at classes more i) (name_at classes more j)
        up i j (inl low) less l =
            let low_i : i < length found = omega (arith, less, low) in
            subst (λ c. IsBefore (class_name classes c) (name_at classes more j)) (sym (left i low_i))
            (subst (λ c. IsBefore (name_at classes found i) (class_name classes c)) (sym (left j low)) (are.rising i j less low))
        up i j (inr past) less l =
            let low_i : i < length found = omega (arith, less, past, l, length_push found (class_at numbers count)) in
            let e = are.each i low_i in
            subst (λ c. IsBefore (class_name classes c) (name_at classes more j)) (e.1.1.0 ∙ sym (left i low_i))
            (subst (λ c. IsBefore (name_at classes numbers e.0) (class_name classes c)) (sym (last j past l)) (names e.0 count e.1.0 within))

    -- all of the kind, once all classes were gone over
    pub AreOfKind-all : (places : List ℕ) → AreByName classes numbers places → length numbers ≤ count → count ≤ length numbers → (c : ℕ)
        → (Contains found c → (c < length classes) × kind c) × ((c < length classes) × kind c → Contains found c)
    AreOfKind-all places order past upto c = (λ h. forth h, λ h. back h)
      where
        forth : Contains found c → (c < length classes) × kind c
        forth h =
            let l = h.1 in
            let e = are.each h.0 l in
            let b = e.1.0 in
            let at : class_at found h.0 ≡ c = get_or_default found h.0 0 c l ∙ h.2 in
            (subst (λ z. z < length classes) (e.1.1.0 ∙ at) (order.within e.0 0 (omega (arith, b, upto))), subst kind at e.1.1.1)

        back : (c < length classes) × kind c → Contains found c
        back h =
            let there = order.every c h.0 in
            let l = there.0 in
            subst (Contains found) there.1 (are.all (place_of_class places c) (omega (arith, l, past)) (subst kind (sym there.1) h.1))
