-- Lists of neighbours keep each class once.
use Rattle.std.proofs.Common.{◌≡◌, inl, inr, ℕ, ◌<◌, List, [], ◌∷◌, ◌++◌, length}
use Rattle.std.proofs.Common.{nat_eq, set, Contains, Bool, true, false, refl, sym}
use Rattle.std.proofs.Common.{ap, subst, ◌∙◌}
use Rattle.std.specs.List.{IsDistinct, list_any}
use Rattle.std.proofs.lemmas.List.{get_or-set_same}
use Rattle.std.proofs.lemmas.List.{get_or-set_other}
use Rattle.std.proofs.lemmas.Map.Keys.{IsDistinct-push}
use Rattle.std.proofs.lemmas.Map.Views.{Contains-from_any}
use Rattle.std.proofs.lemmas.Bool.{cases_eq, eqb-true}
use Rattle.std.proofs.lemmas.Cmp.{nat_eq_equiv}
use Rattle.ld_graph.specs.Lists.{list_at, IsNear}
use Rattle.ld_graph.specs.Inner.Sides.{HasEachOnce}
use Rattle.ld_graph.proofs.NearLemmas.{get_or-push_default}

-- one more number, which is not there yet
pub IsDistinct-one_more : (xs : List ℕ) (y : ℕ) → IsDistinct nat_eq xs → ¬ Contains xs y
    → IsDistinct nat_eq (xs ++ y ∷ [])
IsDistinct-one_more xs y d free = IsDistinct-push nat_eq_equiv xs y d (by (list_any (nat_eq y) xs)
    refl)
  where
    by : (b : Bool) → list_any (nat_eq y) xs ≡ b → list_any (nat_eq y) xs ≡ false
    by false e = e
    by true e = absurd (free (Contains-from_any {eq = nat_eq} (λ p q h. eqb-true p q h) y xs e))

pub IsDistinct-none : IsDistinct nat_eq []
unfolding IsDistinct
IsDistinct-none = tt

-- where no class is, no list has one twice
pub HasEachOnce-none : HasEachOnce []
HasEachOnce-none c = IsDistinct-none

pub HasEachOnce-class : (lists : List (List ℕ)) → HasEachOnce lists
    → HasEachOnce (lists ++ [] ∷ [])
HasEachOnce-class lists h c = subst (IsDistinct nat_eq) (sym (get_or-push_default lists [] c)) (h c)

pub HasEachOnce-push : (lists : List (List ℕ)) (a b : ℕ) → a < length lists → ¬ IsNear lists a b
    → HasEachOnce lists → HasEachOnce (set lists a (list_at lists a ++ b ∷ []))
HasEachOnce-push lists a b l free h c = elim (cases_eq c a) [
  | inl e ↦ subst (IsDistinct nat_eq) (sym (ap (λ z. list_at (set lists a (list_at lists a ++
      b ∷ [])) z) e ∙ get_or-set_same lists a (list_at lists a ++ b ∷ []) [] l))
      (IsDistinct-one_more (list_at lists a) b (h a) free)
  | inr e ↦ subst (IsDistinct nat_eq) (sym (get_or-set_other lists a c (list_at lists a ++ b ∷
      []) [] e)) (h c)
]
