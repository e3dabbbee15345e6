-- Distinct names with one more, or with the first ones alone.
use Rattle.std.proofs.Common.{◌≡◌, ◌+◌, ◌<◌, ◌≤◌, ◌⊎◌, ◌++◌, ◌∷◌, ◌∙◌, [], ℕ, List, None, Option, inl, inr, get_or, length, take, ap, subst, sym, arith}
use Rattle.std.proofs.Math.Seq.{get_or-append_seam}
use Rattle.std.proofs.lemmas.Bool.{cases_lt}
use Rattle.std.proofs.lemmas.List.{get_or_append_left, get_or-take, length_push, length-take}
use Rattle.ld_class.specs.Names.{AreDistinct, IsNameAt, PlainClass, no_class, place_of}
use Rattle.ld_class.proofs.NameLemmas.{place_of-None}

module _ (names : List PlainClass) (name : PlainClass) (apart : AreDistinct names) (new : place_of names name ≡ None) where
  at_left : (k : ℕ) (x : PlainClass) → k < length names → IsNameAt (names ++ name ∷ []) k x → IsNameAt names k x
  at_left k x within at = (within, sym (get_or_append_left names (name ∷ []) no_class k within) ∙ at.1)

  at_end : (k : ℕ) (x : PlainClass) → length names ≤ k → IsNameAt (names ++ name ∷ []) k x → (k ≡ length names) × (name ≡ x)
  at_end k x past at =
      let end : k ≡ length names = omega (arith, at.0, length_push names name) in
      (end, sym (get_or-append_seam names name [] no_class) ∙ ap (λ n. get_or (names ++ name ∷ []) n no_class) (sym end) ∙ at.1)

  not_both : (k l : ℕ) (x : PlainClass) → k < length names → length names ≤ l → IsNameAt (names ++ name ∷ []) k x → IsNameAt (names ++ name ∷ []) l x → ⊥
  not_both k l x within past at_k at_l =
      place_of-None names name k new (subst (λ y. IsNameAt names k y) (sym (at_end l x past at_l).1) (at_left k x within at_k))

  -- one more that isn't there
  pub apart-push : AreDistinct (names ++ name ∷ [])
  apart-push i j x at_i at_j = by (cases_lt i (length names)) (cases_lt j (length names))
    where
      by : (i < length names) ⊎ (length names ≤ i) → (j < length names) ⊎ (length names ≤ j) → i ≡ j
      by (inl i_in) (inl j_in) = apart i j x (at_left i x i_in at_i) (at_left j x j_in at_j)
      by (inl i_in) (inr j_past) = absurd (not_both i j x i_in j_past at_i at_j)
      by (inr i_past) (inl j_in) = absurd (not_both j i x j_in i_past at_j at_i)
      by (inr i_past) (inr j_past) = (at_end i x i_past at_i).0 ∙ sym (at_end j x j_past at_j).0

-- the first ones
pub apart-take : (names : List PlainClass) (n : ℕ) → AreDistinct names → AreDistinct (take n names)
apart-take names n apart i j x at_i at_j = apart i j x (whole i at_i) (whole j at_j)
  where
    whole : (k : ℕ) → IsNameAt (take n names) k x → IsNameAt names k x
    whole k at = (omega (arith, at.0, length-take n names), sym (get_or-take n names k no_class (omega (arith, at.0, length-take n names))) ∙ at.1)
