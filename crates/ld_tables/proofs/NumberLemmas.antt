-- Numbers at their places.
use Rattle.std.proofs.Common.{◌≡◌, ◌≢◌, ◌<◌, ◌≤◌, ◌∷◌, [], ◌++◌, ◌⊎◌, inl, inr, ℕ, List, Bool, true, false, true≢false, nat_eq, nat_lt, length}
use Rattle.std.proofs.Common.{get_or, set, refl, ap, sym, subst, ◌∙◌, arith}
use Rattle.std.proofs.lemmas.Bool.{eqb-true, eq-eqb, ltb-true, cases_lt}
use Rattle.std.proofs.lemmas.Grind.{get_or_default_zero}
use Rattle.std.proofs.lemmas.List.{get_or_push, get_or_append_left, get_or-set_same, get_or-set_other, length_push, length-set}
use Rattle.std.proofs.lemmas.List.Folds.{Any-from_list_any, list_any_at}
use Rattle.std.proofs.lemmas.List.Sums.{position_or_len_is}
use Rattle.std.specs.List.{list_any, position_or_len}
use Rattle.ld_tables.specs.Inner.Numbers.{AreAtPlaces}

-- a number stands at its place
record IsHere (order place : List ℕ) (number : ℕ) : Type 0 where
  pub within : number < length place
  pub below : get_or place number 0 < length order
  pub here : get_or order (get_or place number 0) 0 ≡ number

module _ (order place : List ℕ) (are : AreAtPlaces order place) where
  at_place : (number i : ℕ) → i < length order → get_or order i 0 ≡ number → IsHere order place number
  at_place number i inside is =
      let placed : get_or place number 0 ≡ i = ap (λ n. get_or place n 0) (sym is) ∙ are.placed i inside in
      record {
        within = subst (λ n. n < length place) is (are.within i inside);
        below = subst (λ n. n < length order) (sym placed) inside;
        here = ap (λ n. get_or order n 0) placed ∙ is;
      }

  found : (number : ℕ) → list_any (nat_eq number) order ≡ true → IsHere order place number
  found number there =
      let at = Any-from_list_any (nat_eq number) order there in
      at_place number at.0 at.2 (sym (get_or_default_zero order at.0 at.1 at.2) ∙ at.3 ∙ sym (eqb-true number at.1 at.4))

  -- a number without a place isn't there
  pub none_past : (number : ℕ) → length place ≤ number → false ≡ list_any (nat_eq number) order
  none_past number past = by (list_any (nat_eq number) order) refl
    where
      by : (b : Bool) → list_any (nat_eq number) order ≡ b → false ≡ b
      by true there = let within = (found number there).within in absurd (omega arith)
      by false none = refl

  module _ (number p : ℕ) (at : p ≡ get_or place number 0) where
    -- nor is one whose place is past the last
    pub none_beyond : length order ≤ p → nat_lt p (length order) ≡ list_any (nat_eq number) order
    none_beyond past = by (list_any (nat_eq number) order) (nat_lt p (length order)) refl refl
      where
        by : (b t : Bool) → list_any (nat_eq number) order ≡ b → nat_lt p (length order) ≡ t → t ≡ b
        by true t there _ = let below = (found number there).below in absurd (omega arith)
        by false true _ test = absurd (omega (arith, ltb-true p (length order) test))
        by false false _ _ = refl

    -- it is there if it stands at its place
    pub is_at : (x : ℕ) → p < length order → x ≡ get_or order p 0 → nat_eq x number ≡ list_any (nat_eq number) order
    is_at x below is = by (list_any (nat_eq number) order) (nat_eq x number) refl refl
      where
        by : (b t : Bool) → list_any (nat_eq number) order ≡ b → nat_eq x number ≡ t → t ≡ b
        by true t there test = sym test ∙ eq-eqb x number (is ∙ ap (λ n. get_or order n 0) at ∙ (found number there).here)
        by false true none test = sym
            (list_any_at (nat_eq number) order p 0 below (eq-eqb number (get_or order p 0) (sym (eqb-true x number test) ∙ is))) ∙ none
        by false false _ _ = refl

  -- more places
  pub reached : (more : List ℕ) → length place ≤ length more → ((k : ℕ) → get_or more k 0 ≡ get_or place k 0) → AreAtPlaces order more
  reached more long kept = record {
    within = λ i inside. let within = are.within i inside in omega arith;
    placed = λ i inside. kept (get_or order i 0) ∙ are.placed i inside;
  }

  -- no number stands at two places
  pub differ : (i j d : ℕ) → i < j → j < length order → get_or order i d ≢ get_or order j d
  differ i j d before inside same =
      let first : get_or place (get_or order i 0) 0 ≡ i = are.placed i (omega arith) in
      let second : get_or place (get_or order j 0) 0 ≡ j = are.placed j inside in
      let equal : get_or order i 0 ≡ get_or order j 0 = sym (get_or_default_zero order i d (omega arith)) ∙ same ∙ get_or_default_zero order j d inside in
      omega (arith, first, second, ap (λ n. get_or place n 0) equal)

  -- one more number
  module _ (number : ℕ) (known : number < length place) (none : list_any (nat_eq number) order ≡ false) where
    pub pushed : AreAtPlaces (order ++ number ∷ []) (set place number (length order))
    pushed = record {
      within = λ i inside. within i (cases_lt i (length order)) inside;
      placed = λ i inside. placed i (cases_lt i (length order)) inside;
    }
      where
        many : length (set place number (length order)) ≡ length place
        many = length-set place number (length order)

        before : (i : ℕ) → i < length order → get_or (order ++ number ∷ []) i 0 ≡ get_or order i 0
        before i inside = get_or_append_left order (number ∷ []) 0 i inside

        last : (i : ℕ) → length order ≤ i → i < length (order ++ number ∷ []) → length order ≡ i
        last i past inside = omega (arith, length_push order number)

        within : (i : ℕ) → (i < length order) ⊎ (length order ≤ i) → i < length (order ++ number ∷ []) → get_or (order ++ number ∷ []) i 0 < length (set place number (length order))
        within i (inl below) _ = let old = are.within i below in omega (arith, before i below, many)
        within i (inr past) inside = omega (arith, get_or_push order number 0 i (last i past inside), many)

        other : (i : ℕ) → i < length order → get_or order i 0 ≢ number
        other i below same = true≢false (sym (list_any_at (nat_eq number) order i 0 below (eq-eqb number (get_or order i 0) (sym same))) ∙ none)

        placed : (i : ℕ) → (i < length order) ⊎ (length order ≤ i) → i < length (order ++ number ∷ []) → get_or (set place number (length order))
            (get_or (order ++ number ∷ []) i 0) 0 ≡ i
        placed i (inl below) _ =
            ap (λ n. get_or (set place number (length order)) n 0) (before i below)
            ∙ get_or-set_other place number (get_or order i 0) (length order) 0 (other i below)
            ∙ are.placed i below
        placed i (inr past) inside =
            ap (λ n. get_or (set place number (length order)) n 0) (get_or_push order number 0 i (last i past inside))
            ∙ get_or-set_same place number (length order) 0 known
            ∙ last i past inside

  -- a number that is there stands first at its place
  pub place_within : (number : ℕ) → list_any (nat_eq number) order ≡ true → number < length place
  place_within number there = (found number there).within

  pub place_below : (number : ℕ) → list_any (nat_eq number) order ≡ true → get_or place number 0 < length order
  place_below number there = (found number there).below

  pub place_is : (number : ℕ) → list_any (nat_eq number) order ≡ true → get_or place number 0 ≡ position_or_len (nat_eq number) order
  place_is number there =
      let at = found number there in
      sym (position_or_len_is (nat_eq number) order (get_or place number 0) 0 (omega (arith, at.below))
      (λ k before. by k before (nat_eq number (get_or order k 0)) refl) (λ _. eq-eqb number (get_or order (get_or place number 0) 0) (sym at.here)))
    where
      by : (k : ℕ) → k < get_or place number 0 → (b : Bool) → nat_eq number (get_or order k 0) ≡ b → b ≡ false
      by k before true same =
          let at = found number there in
          let stands : get_or place (get_or order k 0) 0 ≡ k = are.placed k (omega (arith, before, at.below)) in
          absurd (omega (arith, before, stands, ap (λ n. get_or place n 0) (eqb-true number (get_or order k 0) same)))
      by k before false _ = refl
