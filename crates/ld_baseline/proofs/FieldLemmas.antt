-- The fields of a text that is cut at each space.
use Rattle.std.proofs.Common.{◌≡◌, ◌∙◌, ◌+◌, ◌≤◌, ℕ, zero, suc, Bool, true, false, List, [], ◌∷◌, refl, ap, arith, sym, length, ltb, slice_index_or}
use Rattle.std.proofs.Math.Numerals.{add-one}
use Rattle.std.proofs.lemmas.Bool.{ltb-false, ltb-true}
use Rattle.std.proofs.lemmas.List.{drop_all, take_all}
use Rattle.std.proofs.lemmas.List.Splits.{slice_split_first, slice_split_none}
use Rattle.std.proofs.lemmas.List.Sums.{fails_before_first}
use Rattle.std.specs.List.{after_first, before_first, position_or_len, slice_split}
use Rattle.ld_baseline.specs.Said.{field, is_space}

-- where there is no space, the text is the only field
whole : (text : List ℕ) → length text ≤ position_or_len is_space text → slice_split is_space text ≡ text ∷ []
whole text h =
    slice_split_none is_space text (λ k d lt. fails_before_first is_space text k d (omega arith))

-- the first field
pub field-first : (text : List ℕ) → field text 0 ≡ before_first is_space text
field-first text = by (ltb (position_or_len is_space text) (length text)) refl
  where
    by : (b : Bool) → ltb (position_or_len is_space text) (length text) ≡ b → field text 0 ≡ before_first is_space text
    by true e = ap (λ parts. slice_index_or parts 0 []) (slice_split_first is_space text 0 (ltb-true _ _ e))
    by false e =
        ap (λ parts. slice_index_or parts 0 []) (whole text (ltb-false _ _ e))
        ∙ sym (take_all _ text (ltb-false _ _ e))

-- a text without bytes has no fields but empty ones
none : (n : ℕ) → field [] n ≡ []
none zero = refl
none (suc n) = refl

-- each further one is a field of what stands after the first space
pub field-next : (text : List ℕ) (n : ℕ) → field text (n + 1) ≡ field (after_first is_space text) n
field-next text n = by (ltb (position_or_len is_space text) (length text)) refl
  where
    by : (b : Bool) → ltb (position_or_len is_space text) (length text) ≡ b
        → field text (n + 1) ≡ field (after_first is_space text) n
    by true e = rw add-one (ap (λ parts. slice_index_or parts (suc n) []) (slice_split_first is_space text 0 (ltb-true _ _ e)))
    by false e =
        let last : after_first is_space text ≡ [] = drop_all _ text (omega (arith, ltb-false _ _ e)) in
        rw (add-one, last) (ap (λ parts. slice_index_or parts (suc n) []) (whole text (ltb-false _ _ e)) ∙ sym (none n))
