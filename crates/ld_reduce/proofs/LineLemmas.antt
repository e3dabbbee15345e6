-- Lines of bytes that stand one behind another, and some of the lines of bytes.
use Rattle.std.proofs.Common.{◌≡◌, ◌∙◌, ◌-◌, ◌<◌, ◌==◌, ◌⊎◌, inl, inr, ℕ, zero, suc, Bool, true, false, List, [], ◌∷◌, ◌++◌, length, take, drop, refl, ap, sym, subst, append_assoc, arith, if◌then◌else◌}
use Rattle.std.proofs.lemmas.Bool.Decides.{Decides-eqb}
use Rattle.std.proofs.lemmas.List.{take-append-drop}
use Rattle.std.proofs.lemmas.Slice.Eq.{slice_eq-Decides}
use Rattle.std.specs.Prelude.{nat_eq}
use Rattle.std.specs.List.{concat, ends_with, onto_first}
use Rattle.ld_trace.specs.Lines.{lines}
use Rattle.ld_reduce.specs.Written.{ended}

some_onto : (b : ℕ) (xs : List (List ℕ)) → 0 < length (onto_first b xs)
some_onto b [] = omega arith
some_onto b (x ∷ xs) = omega arith

-- where there is a byte, there is a line
some_line : (b : ℕ) (bytes : List ℕ) → 0 < length (lines (b ∷ bytes))
some_line b bytes = by (b == 10)
  where
    by : (test : Bool) → 0 < length (if test then (b ∷ []) ∷ lines bytes else onto_first b (lines bytes))
    by true = omega arith
    by false = some_onto b (lines bytes)

some_before : (front : List ℕ) → 0 < length (lines (front ++ 10 ∷ []))
some_before [] = some_line 10 []
some_before (b ∷ front) = some_line b (front ++ 10 ∷ [])

onto-append : (b : ℕ) (xs ys : List (List ℕ)) → 0 < length xs → onto_first b (xs ++ ys) ≡ onto_first b xs ++ ys
onto-append b [] ys some = absurd (omega arith)
onto-append b (x ∷ xs) ys some = refl

-- what stands behind an LF
behind_lf : (front rest : List ℕ) → lines (front ++ 10 ∷ rest) ≡ lines (front ++ 10 ∷ []) ++ lines rest
behind_lf [] rest = refl
behind_lf (b ∷ front) rest = by (b == 10) (behind_lf front rest)
  where
    by : (test : Bool) → lines (front ++ 10 ∷ rest) ≡ lines (front ++ 10 ∷ []) ++ lines rest
        → (if test then (b ∷ []) ∷ lines (front ++ 10 ∷ rest) else onto_first b (lines (front ++ 10 ∷ rest)))
        ≡ (if test then (b ∷ []) ∷ lines (front ++ 10 ∷ []) else onto_first b (lines (front ++ 10 ∷ []))) ++ lines rest
    by true others = ap (λ o. (b ∷ []) ∷ o) others
    by false others = ap (onto_first b) others ∙ onto-append b (lines (front ++ 10 ∷ [])) (lines rest) (some_before front)

-- there is no byte, or the last one is an LF
abbrev pub IsEnded : List ℕ → Type 0
IsEnded bytes = (bytes ≡ []) ⊎ ((front : List ℕ) × (bytes ≡ front ++ 10 ∷ []))

pub ended-IsEnded : (bytes : List ℕ) → IsEnded (ended bytes)
ended-IsEnded [] = inl refl
ended-IsEnded (b ∷ bytes) = by (ends_with nat_eq (b ∷ bytes) (10 ∷ [])) refl
  where
    by : (test : Bool) → ends_with nat_eq (b ∷ bytes) (10 ∷ []) ≡ test → IsEnded (if test then b ∷ bytes else (b ∷ bytes) ++ 10 ∷ [])
    by true is =
        let k = length (b ∷ bytes) - 1 in
        let last : 10 ∷ [] ≡ drop k (b ∷ bytes) = (slice_eq-Decides Decides-eqb (10 ∷ []) (drop k (b ∷ bytes)) true (sym is)).0 refl in
        inr (take k (b ∷ bytes), sym (take-append-drop k (b ∷ bytes)) ∙ ap (λ o. take k (b ∷ bytes) ++ o) (sym last))
    by false is = inr (b ∷ bytes, refl)

-- what stands behind such bytes
pub lines-behind : (bytes rest : List ℕ) → IsEnded bytes → lines (bytes ++ rest) ≡ lines bytes ++ lines rest
lines-behind bytes rest (inl none) = subst (λ o. lines (o ++ rest) ≡ lines o ++ lines rest) (sym none) refl
lines-behind bytes rest (inr p) =
    subst (λ o. lines (o ++ rest) ≡ lines o ++ lines rest) (sym p.1) (ap lines (append_assoc p.0 (10 ∷ []) rest) ∙ behind_lf p.0 rest)

-- the lines together are the bytes
pub concat-lines : (bytes : List ℕ) → concat (lines bytes) ≡ bytes
concat-lines [] = refl
concat-lines (b ∷ bytes) = by (b == 10) (concat-lines bytes)
  where
    onto : (xs : List (List ℕ)) → concat (onto_first b xs) ≡ b ∷ concat xs
    onto [] = refl
    onto (x ∷ xs) = refl

    by : (test : Bool) → concat (lines bytes) ≡ bytes → concat (if test then (b ∷ []) ∷ lines bytes else onto_first b (lines bytes)) ≡ b ∷ bytes
    by true others = ap (λ o. b ∷ o) others
    by false others = onto (lines bytes) ∙ ap (λ o. b ∷ o) others

-- the first of the lines are those of what they are together
pub lines-take : (n : ℕ) (bytes : List ℕ) → lines (concat (take n (lines bytes))) ≡ take n (lines bytes)
lines-take zero bytes = refl
lines-take (suc n) [] = refl
lines-take (suc n) (b ∷ bytes) = by (b == 10) refl (lines-take n bytes) (lines-take (suc n) bytes)
  where
    onto : (b == 10) ≡ false → (xs : List (List ℕ)) → lines (concat (take (suc n) xs)) ≡ take (suc n) xs
        → lines (concat (take (suc n) (onto_first b xs))) ≡ take (suc n) (onto_first b xs)
    onto other [] same = by n
      where
        by : (n : ℕ) → lines (concat (take (suc n) ((b ∷ []) ∷ []))) ≡ take (suc n) ((b ∷ []) ∷ [])
        by zero = rw other refl
        by (suc n) = rw other refl
    onto other (x ∷ xs) same = rw other (ap (onto_first b) same)

    by : (test : Bool) → (b == 10) ≡ test → lines (concat (take n (lines bytes))) ≡ take n (lines bytes) → lines (concat (take (suc n) (lines bytes))) ≡ take (suc n) (lines bytes)
        → lines (concat (take (suc n) (if test then (b ∷ []) ∷ lines bytes else onto_first b (lines bytes)))) ≡ take (suc n) (if test then (b ∷ []) ∷ lines bytes else onto_first b (lines bytes))
    by true is one same = rw is (ap (λ o. (b ∷ []) ∷ o) one)
    by false is one same = onto is (lines bytes) same

-- and so are those behind the first
pub lines-drop : (n : ℕ) (bytes : List ℕ) → lines (concat (drop n (lines bytes))) ≡ drop n (lines bytes)
lines-drop zero bytes = ap lines (concat-lines bytes)
lines-drop (suc n) [] = refl
lines-drop (suc n) (b ∷ bytes) = by (b == 10) (lines-drop n bytes) (lines-drop (suc n) bytes)
  where
    onto : (n : ℕ) (xs : List (List ℕ)) → lines (concat (drop (suc n) xs)) ≡ drop (suc n) xs → lines (concat (drop (suc n) (onto_first b xs))) ≡ drop (suc n) (onto_first b xs)
    onto zero [] same = refl
    onto (suc n) [] same = refl
    onto n (x ∷ xs) same = same

    by : (test : Bool) → lines (concat (drop n (lines bytes))) ≡ drop n (lines bytes) → lines (concat (drop (suc n) (lines bytes))) ≡ drop (suc n) (lines bytes)
        → lines (concat (drop (suc n) (if test then (b ∷ []) ∷ lines bytes else onto_first b (lines bytes)))) ≡ drop (suc n) (if test then (b ∷ []) ∷ lines bytes else onto_first b (lines bytes))
    by true one same = one
    by false one same = onto n (lines bytes) same
