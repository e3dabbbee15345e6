-- Lines that have numbers.
use Rattle.std.proofs.Common.{◌≡◌, ℕ, zero, suc, ◌+◌, ◌<◌, ◌++◌, List, [], ◌∷◌, length, get_or, take, ap, sym, ◌∙◌, append_assoc, add-one, arith}
use Rattle.std.proofs.lemmas.List.{append-nil}
use Rattle.ld_json.specs.Json.{numbered}

-- one more line behind the first ones
numbered-suc : {A : Type 0} → (line : ℕ → A → List ℕ) (number at : ℕ) (xs : List A) (i : ℕ) (x : A) → at ≡ number + i → i < length xs → x ≡ get_or xs i x
    → numbered line number (take i xs) ++ line at x ≡ numbered line number (take (suc i) xs)
numbered-suc line number at [] i x here within is = absurd (omega arith)
numbered-suc line number at (first ∷ others) zero x here within is =
    let same : at ≡ number = omega arith in
    ap (λ n. line n x) same ∙ ap (line number) is ∙ sym (append-nil (line number first))
numbered-suc line number at (first ∷ others) (suc i) x here within is =
    append_assoc (line number first) (numbered line (number + 1) (take i others)) (line at x)
    ∙ ap (λ t. line number first ++ t) (numbered-suc line (number + 1) at others i x (omega arith) (omega arith) is)

-- a text that ends with the first lines, and then with one more
pub numbered_step : {A : Type 0} → (line : ℕ → A → List ℕ) (xs : List A) (i : ℕ) (x : A) (old before after : List ℕ)
    → after ≡ before ++ line i x → before ≡ old ++ numbered line 0 (take i xs) → i < length xs → x ≡ get_or xs i x
    → after ≡ old ++ numbered line 0 (take (i + 1) xs)
numbered_step line xs i x old before after last first within is =
    let more : numbered line 0 (take i xs) ++ line i x ≡ numbered line 0 (take (suc i) xs) = numbered-suc line 0 i xs i x (omega arith) within is in
    last ∙ ap (λ t. t ++ line i x) first ∙ append_assoc old (numbered line 0 (take i xs)) (line i x) ∙ ap (λ t. old ++ t) more
    ∙ ap (λ n. old ++ numbered line 0 (take n xs)) (sym (add-one i))
