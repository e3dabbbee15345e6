-- What follows for a list of names of any type from the definitions of specs/Names.antt, for this crate
-- and for those above it.
use Rattle.std.proofs.Common.{◌≡◌, ◌≢◌, ◌<◌, ◌≤◌, ◌↔◌, ◌⊎◌, ◌++◌, ◌∙◌, Bool, true, false, ℕ}
use Rattle.std.proofs.Common.{List, [], ◌∷◌, Option, Some, None, inl, inr, if◌then◌else◌}
use Rattle.std.proofs.Common.{cond, ltb, not, length, length-append, slice_index_or, is_some}
use Rattle.std.proofs.Common.{refl, ap, sym, subst, arith}
use Rattle.std.proofs.Math.Seq.{get_or-append_seam}
use Rattle.std.proofs.lemmas.Bool.{true≢false, ltb-false, false_from_ne_true, cases_order, cases_lt}
use Rattle.std.proofs.lemmas.List.{get_or_append_left}
use Rattle.std.proofs.lemmas.List.Quantifiers.{position-Some}
use Rattle.std.proofs.lemmas.List.Recursion.{or_at, or_from_places}
use Rattle.std.proofs.lemmas.List.Sums.{fails_before_first, prefix_len-le-length}
use Rattle.std.proofs.lemmas.Map.Made.{AllPairs-from_IsDistinct}
use Rattle.indexmap.specs.IndexSet.{insert_key}
use Rattle.std.specs.Bool.{Decides}
use Rattle.std.specs.List.{AllPairs, IsDistinct, list_any, position_or_len}
use Rattle.ld_class.specs.Names.{AreApart, IsAt, first_place, with_one}

module _ {A : Type 0} (same : A → A → Bool) (none : A)
    (decides : (a b : A) → Decides (same a b) (a ≡ b)) where
  -- names of which no two are the same, by the test, are distinct
  pub apart-from_IsDistinct : (names : List A) → IsDistinct same names → AreApart none names
  apart-from_IsDistinct names h i j name at_i at_j = by (cases_order i j)
    where
      apart : AllPairs (λ a b. a ≢ b) names
      apart = AllPairs-from_IsDistinct decides names h

      by : (i ≡ j) ⊎ ((i < j) ⊎ (j < i)) → i ≡ j
      by (inl equal) = equal
      by (inr (inl before)) = absurd (apart i j none before at_j.0 (at_i.1 ∙ sym at_j.1))
      by (inr (inr after)) = absurd (apart j i none after at_i.0 (at_j.1 ∙ sym at_i.1))

  module _ (names : List A) (name : A) where
    -- where a search for the name ends
    abbrev pub search_end : ℕ
    search_end = position_or_len (same name) names

    -- whether it ends within the names decides what the place is
    within : ltb search_end (length names) ≡ true → first_place same names name ≡ Some search_end
    within e = ap (λ c. cond c (Some search_end) None) e

    past : ltb search_end (length names) ≡ false → first_place same names name ≡ None
    past e = ap (λ c. cond c (Some search_end) None) e

    -- the place that is found has the name
    pub first_place-Some : (id : ℕ) → first_place same names name ≡ Some id → IsAt none names id name
    first_place-Some id h =
        let at = position-Some (same name) names id none h in
        (at.0, sym ((decides name (slice_index_or names id none)).0 at.1))

    -- where none is found, no place has the name
    pub first_place-None : (id : ℕ) → first_place same names name ≡ None → ¬ IsAt none names id name
    first_place-None id h at = by (ltb search_end (length names)) refl
      where
        by : (b : Bool) → ltb search_end (length names) ≡ b → ⊥
        by true e =
            let found : Some search_end ≡ None = sym (within e) ∙ h in
            cc
        by false e =
            let end : length names ≤ search_end = ltb-false search_end (length names) e in
            let other = fails_before_first (same name) names id none (omega (arith, at.0)) in
            let equal = (decides name (slice_index_or names id none)).1 (sym at.1) in
            true≢false (sym equal ∙ other)

    -- in distinct names the place that has the name is found
    pub first_place-at : (id : ℕ) → AreApart none names → IsAt none names id name
        → first_place same names name ≡ Some id
    first_place-at id distinct at = by (first_place same names name) refl
      where
        by : (r : Option ℕ) → first_place same names name ≡ r → first_place same names name ≡ Some id
        by None h = absurd (first_place-None id h at)
        by (Some j) h = h ∙ ap Some (distinct j id name (first_place-Some j h) at)

    -- so an answer that is the place says exactly where the name stands
    pub first_place-exact : (r : Option ℕ) → AreApart none names → r ≡ first_place same names name
        → (id : ℕ) → (r ≡ Some id) ↔ IsAt none names id name
    first_place-exact r distinct is id =
        (λ h. first_place-Some id (sym is ∙ h), λ at. is ∙ first_place-at id distinct at)

    -- a name that is there leaves the list as it is
    pub with_one-known : (id : ℕ) → first_place same names name ≡ Some id
        → with_one same names name ≡ names
    with_one-known id h = ap (λ r. if is_some r then names else names ++ name ∷ []) h

    -- one that is not there stands at the end
    pub with_one-new : first_place same names name ≡ None
        → with_one same names name ≡ names ++ name ∷ []
    with_one-new h = ap (λ r. if is_some r then names else names ++ name ∷ []) h

    -- the search ends at the place, and past the names where there is none
    pub search_end-known : (id : ℕ) → first_place same names name ≡ Some id → search_end ≡ id
    search_end-known id h = by (ltb search_end (length names)) refl
      where
        by : (b : Bool) → ltb search_end (length names) ≡ b → search_end ≡ id
        by true e =
            let found : Some search_end ≡ Some id = sym (within e) ∙ h in
            cc
        by false e =
            let nowhere : None ≡ Some id = sym (past e) ∙ h in
            cc

    pub search_end-new : first_place same names name ≡ None → search_end ≡ length names
    search_end-new h = by (ltb search_end (length names)) refl
      where
        by : (b : Bool) → ltb search_end (length names) ≡ b → search_end ≡ length names
        by true e =
            let found : Some search_end ≡ None = sym (within e) ∙ h in
            cc
        by false e =
            let end : length names ≤ search_end = ltb-false search_end (length names) e in
            omega (arith, prefix_len-le-length (λ x. not (same name x)) names)

    -- the test whether the name is there
    pub list_any-known : (id : ℕ) → first_place same names name ≡ Some id
        → list_any (same name) names ≡ true
    list_any-known id h =
        let at = position-Some (same name) names id none h in
        or_at (list_any (same name)) (same name) refl (λ _ _. refl) names id none at.0 at.1

    pub list_any-new : first_place same names name ≡ None → list_any (same name) names ≡ false
    list_any-new h =
        or_from_places (list_any (same name)) (same name) refl (λ _ _. refl) names none differs
      where
        differs : (id : ℕ) → id < length names → same name (slice_index_or names id none) ≡ false
        differs id lt =
            let equal = (decides name (slice_index_or names id none)).0 in
            false_from_ne_true _ (λ is. first_place-None id h (lt, sym (equal is)))

    -- a set's keys after an insert are the names with the new one among them
    pub insert_key-with_one : insert_key same names name ≡ with_one same names name
    insert_key-with_one = by (first_place same names name) refl
      where
        chosen : (b : Bool) → list_any (same name) names ≡ b
            → insert_key same names name ≡ (if b then names else names ++ name ∷ [])
        chosen b e = ap (λ c. if c then names else names ++ name ∷ []) e

        by : (r : Option ℕ) → first_place same names name ≡ r
            → insert_key same names name ≡ with_one same names name
        by None h = chosen false (list_any-new h) ∙ sym (with_one-new h)
        by (Some id) h = chosen true (list_any-known id h) ∙ sym (with_one-known id h)

    -- where the search ended, the name stands once it is among the names
    pub with_one-at : IsAt none (with_one same names name) search_end name
    with_one-at = by (first_place same names name) refl
      where
        by : (r : Option ℕ) → first_place same names name ≡ r
            → IsAt none (with_one same names name) search_end name
        by None h =
            let longer : length names < length (names ++ name ∷ []) =
            omega (arith, length-append names (name ∷ [])) in
            rw (with_one-new h, search_end-new h) (longer, get_or-append_seam names name [] none)
        by (Some id) h =
            rw (with_one-known id h, search_end-known id h) (first_place-Some id h)

    -- distinct names stay distinct with one more
    pub apart-with_one : AreApart none names → AreApart none (with_one same names name)
    apart-with_one distinct = by (first_place same names name) refl
      where
        placed : (i : ℕ) (other : A) → IsAt none (names ++ name ∷ []) i other
            → IsAt none names i other ⊎ ((i ≡ length names) × (other ≡ name))
        placed i other at = split (cases_lt i (length names))
          where
            split : (i < length names) ⊎ (length names ≤ i)
                → IsAt none names i other ⊎ ((i ≡ length names) × (other ≡ name))
            split (inl low) =
                inl (low, sym (get_or_append_left names (name ∷ []) none i low) ∙ at.1)
            split (inr high) =
                let last : i ≡ length names =
                omega (arith, at.0, length-append names (name ∷ [])) in
                inr (
                  last,
                  sym at.1 ∙ ap (λ k. slice_index_or (names ++ name ∷ []) k none) last
                      ∙ get_or-append_seam names name [] none,
                )

        apart : first_place same names name ≡ None → (i j : ℕ) (other : A)
            → IsAt none names i other ⊎ ((i ≡ length names) × (other ≡ name))
            → IsAt none names j other ⊎ ((j ≡ length names) × (other ≡ name)) → i ≡ j
        apart new i j other (inl a) (inl b) = distinct i j other a b
        apart new i j other (inl a) (inr b) = absurd (first_place-None i new (a.0, a.1 ∙ b.1))
        apart new i j other (inr a) (inl b) = absurd (first_place-None j new (b.0, b.1 ∙ a.1))
        apart new i j other (inr a) (inr b) = a.0 ∙ sym b.0

        by : (r : Option ℕ) → first_place same names name ≡ r
            → AreApart none (with_one same names name)
        by None new =
            subst (AreApart none) (sym (with_one-new new)) (λ i j other at_i at_j.
            apart new i j other (placed i other at_i) (placed j other at_j))
        by (Some id) known = subst (AreApart none) (sym (with_one-known id known)) distinct
