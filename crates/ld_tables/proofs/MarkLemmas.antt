-- Numbers and their marks.
use Rattle.std.proofs.Common.{◌≡◌, ◌≢◌, ◌<◌, ◌≤◌, ◌∷◌, [], ◌++◌, ◌+◌, ◌⊎◌, inl, inr, ◌||◌, ℕ, List, Bool, true, false, true≢false, if◌then◌else◌, nat_eq, length}
use Rattle.std.proofs.Common.{get_or, set, take, drop, refl, ap, sym, subst, ◌∙◌, arith}
use Rattle.std.proofs.lemmas.Bool.{cases_eq, cases_lt, eq-eqb, eqb-true, ne_eqb, or_right}
use Rattle.std.proofs.lemmas.List.{get_or_past, get_or-drop, get_or-set_same, get_or-set_other, get_or-take, length-drop, length-take-le, take-append-drop}
use Rattle.std.proofs.lemmas.List.Folds.{Any-from_list_any, list_any-append, list_any_at}
use Rattle.std.proofs.lemmas.List.Quantifiers.{all_pairs_push}
use Rattle.std.specs.List.{list_any}
use Rattle.ld_tables.specs.Inner.Numbers.{AreMarked}

-- more marks, which are off
pub marked_reached : (order : List ℕ) (marks more : List Bool) → AreMarked order marks → ((k : ℕ) → get_or more k false ≡ get_or marks k false) → AreMarked order more
marked_reached order marks more are kept = record {
  noted = λ n. kept n ∙ are.noted n;
  distinct = are.distinct;
}

or_off : (b : Bool) → (b || false) ≡ b
or_off true = refl
or_off false = refl

module _ (order : List ℕ) (marks : List Bool) (number : ℕ) where
  any_push : (n : ℕ) → list_any (nat_eq n) (order ++ number ∷ []) ≡ (list_any (nat_eq n) order || (nat_eq n number || false))
  any_push n = list_any-append (nat_eq n) order (number ∷ [])

  any_last : (n : ℕ) → n ≡ number → list_any (nat_eq n) (order ++ number ∷ []) ≡ true
  any_last n is = any_push n ∙ or_right (list_any (nat_eq n) order) (nat_eq n number || false) (or_off (nat_eq n number) ∙ eq-eqb n number is)

  any_other : (n : ℕ) → (n ≡ number → ⊥) → list_any (nat_eq n) (order ++ number ∷ []) ≡ list_any (nat_eq n) order
  any_other n other = any_push n ∙ ap (λ t. list_any (nat_eq n) order || (t || false)) (ne_eqb n number other) ∙ or_off (list_any (nat_eq n) order)

  -- a number comes that isn't there
  pub marked_push : AreMarked order marks → number < length marks → list_any (nat_eq number) order ≡ false → AreMarked (order ++ number ∷ []) (set marks number true)
  marked_push are within none = record {
    noted = λ n. noted n (cases_eq n number);
    distinct = all_pairs_push (λ a b. a ≢ b) order number are.distinct
        (λ k d inside same. true≢false (sym (list_any_at (nat_eq number) order k d inside (eq-eqb number (get_or order k d) (sym same))) ∙ none));
  }
    where
      noted : (n : ℕ) → (n ≡ number) ⊎ (n ≡ number → ⊥) → get_or (set marks number true) n false ≡ list_any (nat_eq n) (order ++ number ∷ [])
      noted n (inl is) = ap (λ k. get_or (set marks number true) k false) is ∙ get_or-set_same marks number true false within ∙ sym (any_last n is)
      noted n (inr other) = get_or-set_other marks number n true false other ∙ are.noted n ∙ sym (any_other n other)

-- the numbers from a place on go
module _ (order : List ℕ) (marks : List Bool) (are : AreMarked order marks) where
  all_within : (i d : ℕ) → i < length order → get_or order i d < length marks
  all_within i d inside = by (cases_lt (get_or order i d) (length marks))
    where
      by : (get_or order i d < length marks) ⊎ (length marks ≤ get_or order i d) → get_or order i d < length marks
      by (inl below) = below
      by (inr past) = absurd (true≢false
          (sym (list_any_at (nat_eq (get_or order i d)) order i d inside (eq-eqb (get_or order i d) (get_or order i d) refl))
          ∙ sym (are.noted (get_or order i d)) ∙ get_or_past marks (get_or order i d) false past))

  pub drop_within : (count i d : ℕ) → i < length (drop count order) → get_or (drop count order) i d < length marks
  drop_within count i d inside =
      subst (λ n. n < length marks) (sym (get_or-drop count order i d)) (all_within (count + i) d (omega (arith, inside, length-drop count order)))

  module _ (count : ℕ) (short : count ≤ length order) where
    here : (n : ℕ) (gone : Bool) → list_any (nat_eq n) (drop count order) ≡ gone → (if gone then false else get_or marks n false) ≡ list_any (nat_eq n) (take count order)
    here n false none =
        are.noted n
        ∙ ap (list_any (nat_eq n)) (sym (take-append-drop count order)) ∙ list_any-append (nat_eq n) (take count order) (drop count order)
        ∙ ap (λ t. list_any (nat_eq n) (take count order) || t) none ∙ or_off (list_any (nat_eq n) (take count order))
    here n true there = by (list_any (nat_eq n) (take count order)) refl
      where
        by : (b : Bool) → list_any (nat_eq n) (take count order) ≡ b → false ≡ b
        by false _ = refl
        by true kept =
            let k = Any-from_list_any (nat_eq n) (take count order) kept in
            let g = Any-from_list_any (nat_eq n) (drop count order) there in
            let first : k.0 < count = omega (arith, k.2, length-take-le count order short) in
            absurd (are.distinct k.0 (count + g.0) n (omega (arith, first)) (omega (arith, g.2, length-drop count order, short))
            (sym (get_or-take count order k.0 n first)
            ∙ ap (get_or (take count order) k.0) (eqb-true n k.1 k.4) ∙ k.3 ∙ sym (eqb-true n k.1 k.4)
            ∙ eqb-true n g.1 g.4 ∙ sym g.3 ∙ ap (get_or (drop count order) g.0) (sym (eqb-true n g.1 g.4))
            ∙ get_or-drop count order g.0 n))

    pub marked_cut : (new : List Bool) → ((k : ℕ) → get_or new k false ≡ (if list_any (nat_eq k) (drop count order) then false else get_or marks k false)) → AreMarked (take count order) new
    marked_cut new off = record {
      noted = λ n. off n ∙ here n (list_any (nat_eq n) (drop count order)) refl;
      distinct = λ i j d before inside same. are.distinct i j d before (omega (arith, inside, length-take-le count order short))
          (sym (get_or-take count order i d (omega (arith, before, inside, length-take-le count order short))) ∙ same
          ∙ get_or-take count order j d (omega (arith, inside, length-take-le count order short)));
    }
