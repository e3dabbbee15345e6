-- The list with each element once.
use Rattle.std.proofs.Common.{◌≡◌, ◌++◌, ◌∷◌, [], List, Bool, true, false, refl, ap, sym, subst, if◌then◌else◌}
use Rattle.std.proofs.lemmas.List.{append-nil}
use Rattle.std.proofs.lemmas.Bool.Decides.{same_from_decides}
use Rattle.std.proofs.lemmas.Map.Keys.{IsDistinct-push}
use Rattle.std.specs.Bool.{Decides}
use Rattle.std.specs.Cmp.{IsEquivalence}
use Rattle.std.specs.List.{IsDistinct, list_any}
use Rattle.ld_rules.specs.Outcome.{each_once}
use Rattle.ld_rules.proofs.PlaceLemmas.{alike_from_decides, by_pushes, each_once-more}

-- a test that tells equal elements is an equivalence
pub IsEquivalence-from_decides : {X : Type 0} (same : X → X → Bool) → ((a b : X) → Decides (same a b) (a ≡ b)) → IsEquivalence same
IsEquivalence-from_decides same decides = record {
  refl = λ x. (decides x x).1 refl;
  symm = λ x y. same_from_decides (same x y) (same y x) (decides x y) ((λ h. sym ((decides y x).0 h)), (λ e. (decides y x).1 (sym e)));
  congr = λ x y z h. ap (λ w. same w z) ((decides x y).0 h);
}

-- no two of them are the same
pub IsDistinct-each_once : {X : Type 0} (same : X → X → Bool) → ((a b : X) → Decides (same a b) (a ≡ b)) → (xs : List X) → IsDistinct same (each_once same xs)
unfolding IsDistinct
IsDistinct-each_once {X} same decides xs = by_pushes (λ ys. IsDistinct same (each_once same ys)) tt step xs
  where
    added : (ys : List X) (y : X) → IsDistinct same ys → (b : Bool) → list_any (same y) ys ≡ b → IsDistinct same (ys ++ (if b then [] else y ∷ []))
    added ys y h true is = subst (IsDistinct same) (sym (append-nil ys)) h
    added ys y h false is = IsDistinct-push (IsEquivalence-from_decides same decides) ys y h is

    step : (ys : List X) (y : X) → IsDistinct same (each_once same ys) → IsDistinct same (each_once same (ys ++ y ∷ []))
    step ys y h = subst (IsDistinct same) (sym (each_once-more same (alike_from_decides same decides) ys y)) (added (each_once same ys) y h (list_any (same y) (each_once same ys)) refl)
