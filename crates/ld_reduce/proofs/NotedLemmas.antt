-- One thing more is noted.
use Rattle.std.proofs.Common.{◌≡◌, ◌∙◌, ◌+◌, ◌<◌, ◌||◌, ℕ, Bool, true, false, List, [], ◌∷◌, get_or, length, refl, ap, sym, take}
use Rattle.std.proofs.lemmas.List.{take_more}
use Rattle.std.proofs.lemmas.List.Folds.{list_any-append}
use Rattle.std.specs.List.{list_any}

swap : (a b c : Bool) → (a || (b || c)) ≡ ((b || (a || false)) || c)
swap true true c = refl
swap true false c = refl
swap false true c = refl
swap false false c = refl

pub noted : {X : Type 0} (p : X → Bool) (xs : List X) (i : ℕ) (d : X) → i < length xs → (new old base : Bool) → new ≡ (p (get_or xs i d) || old)
    → old ≡ (list_any p (take i xs) || base) → new ≡ (list_any p (take (i + 1) xs) || base)
noted p xs i d within new old base one before =
    one
    ∙ ap (λ b. p (get_or xs i d) || b) before
    ∙ swap (p (get_or xs i d)) (list_any p (take i xs)) base
    ∙ sym (ap (λ b. b || base) (ap (list_any p) (take_more xs i d within) ∙ list_any-append p (take i xs) (get_or xs i d ∷ [])))
