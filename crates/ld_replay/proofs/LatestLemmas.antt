-- The last element that passes a test, looked for from the end.
use Rattle.std.proofs.Common.{◌≡◌, ◌≤◌, ◌<◌, ◌+◌, ◌-◌, ◌||◌, ◌∷◌, [], List, ℕ, zero, suc, Bool, true, false, length, get_or, drop, remove, refl, ap, sym, ◌∙◌, arith}
use Rattle.std.proofs.lemmas.List.{drop_more}
use Rattle.std.proofs.lemmas.List.Folds.{list_any_at}
use Rattle.std.specs.List.{list_any}
use Rattle.ld_rules.specs.Inner.Scanned.{remove_last}

-- where an element passes and none behind it does, it is the last
last_at : {X : Type 0} (p : X → Bool) (xs : List X) (i : ℕ) (d : X) → i < length xs → p (get_or xs i d) ≡ true → list_any p (drop (suc i) xs) ≡ false → remove xs i ≡ remove_last p xs
last_at p [] i d within passes none = absurd (omega arith)
last_at p (x ∷ xs) zero d within passes none = rw (none, passes) refl
last_at p (x ∷ xs) (suc i) d within passes none =
    let found : list_any p xs ≡ true = list_any_at p xs i d (omega arith) passes in
    rw found (ap (λ ys. x ∷ ys) (last_at p xs i d (omega arith) passes none))

module _ {X : Type 0} (p : X → Bool) (xs : List X) where
  -- the element just before this place passes
  pub last_before : (place : ℕ) (d : X) → 0 < place → place ≤ length xs → p (get_or xs (place - 1) d) ≡ true → list_any p (drop place xs) ≡ false → remove xs (place - 1) ≡ remove_last p xs
  last_before zero d some within passes none = absurd (omega arith)
  last_before (suc i) d some within passes none =
      let less : suc i - 1 ≡ i = omega arith in
      rw less (last_at p xs i d (omega arith) (ap (λ n. p (get_or xs n d)) (sym less) ∙ passes) none)

  -- the element just before this place fails
  pub none_before : (place : ℕ) (d : X) → 0 < place → place ≤ length xs → p (get_or xs (place - 1) d) ≡ false → list_any p (drop place xs) ≡ false → list_any p (drop (place - 1) xs) ≡ false
  none_before zero d some within fails none = absurd (omega arith)
  none_before (suc i) d some within fails none =
      let less : suc i - 1 ≡ i = omega arith in
      let more : i + 1 ≡ suc i = omega arith in
      let differs : p (get_or xs i d) ≡ false = ap (λ n. p (get_or xs n d)) (sym less) ∙ fails in
      ap (λ n. list_any p (drop n xs)) less
      ∙ ap (list_any p) (drop_more xs i d (omega arith))
      ∙ (λ k. differs k || list_any p (drop (more k) xs))
      ∙ none
