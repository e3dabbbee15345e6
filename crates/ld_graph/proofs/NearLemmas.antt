-- Which neighbours there are, as a class or a neighbour is added.
use Rattle.std.proofs.Common.{◌≡◌, ◌≢◌, ◌⊎◌, inl, inr, ◌++◌, set, ℕ, ◌<◌, List, [], ◌∷◌, get_or, length}
use Rattle.std.proofs.Common.{arith, refl, sym, ap, subst, ◌∙◌, Contains, ◌↔◌}
use Rattle.std.proofs.lemmas.List.{get_or_append_left, get_or_push, get_or_past, get_or-set_same}
use Rattle.std.proofs.lemmas.List.{get_or-set_other, length_push}
use Rattle.std.proofs.lemmas.List.Elements.{Contains-append_left, Contains-push}
use Rattle.std.proofs.lemmas.List.Elements.{Contains-push_cases}
use Rattle.std.proofs.lemmas.Bool.{cases_eq, cases_lt, cases_order}
use Rattle.ld_graph.specs.Lists.{NearLists, ListsGrown, list_at, IsNear}

-- what is read behind the end is the default
pub within_of : {X : Type 0} → (xs : List X) (k : ℕ) (d : X) → get_or xs k d ≢ d → k < length xs
within_of xs k d other = elim (cases_lt k (length xs)) [
  | inl l ↦ l
  | inr past ↦ absurd (other (get_or_past xs k d past))
]

-- a default at the end changes no answer
pub get_or-push_default : {X : Type 0} → (xs : List X) (d : X) (k : ℕ) → get_or (xs ++ d ∷ []) k d ≡ get_or xs k d
get_or-push_default xs d k = by (cases_order k (length xs))
  where
    by : (k ≡ length xs) ⊎ ((k < length xs) ⊎ (length xs < k)) → get_or (xs ++ d ∷ []) k d ≡ get_or xs k d
    by (inl same) = get_or_push xs d d k (sym same) ∙ sym (get_or_past xs k d (omega (arith, same)))
    by (inr (inl within)) = get_or_append_left xs (d ∷ []) d k within
    by (inr (inr past)) = get_or_past (xs ++ d ∷ []) k d (omega (arith, past, length_push xs d)) ∙ sym (get_or_past xs k d (omega (arith, past)))

pub lists_same : (a : NearLists) → ListsGrown a a
lists_same a = record {
  lists = refl;
  items = refl;
  class_room = omega arith;
  item_room = omega arith;
}

-- the neighbours where one list has one more
pub IsNear-push : (lists : List (List ℕ)) (a b x y : ℕ) → a < length lists
    → IsNear (set lists a (list_at lists a ++ b ∷ [])) x y → IsNear lists x y ⊎ ((a ≡ x) × (b ≡ y))
IsNear-push lists a b x y l h = elim (cases_eq x a) [
  | inl q ↦ elim (Contains-push_cases (list_at lists a) b y
      (subst (λ n. Contains n y) (ap (λ z. list_at (set lists a (list_at lists a ++ b ∷ [])) z) q
      ∙ get_or-set_same lists a (list_at lists a ++ b ∷ []) [] l) h)) [
        | inl e ↦ inl (subst (λ z. IsNear lists z y) (sym q) e)
        | inr e ↦ inr (sym q, e)
      ]
  | inr q ↦ inl (subst (λ n. Contains n y) (get_or-set_other lists a x (list_at lists a ++ b ∷
      []) [] q) h)
]

pub IsNear-old : (lists : List (List ℕ)) (a b x y : ℕ) → a < length lists → IsNear lists x y
    → IsNear (set lists a (list_at lists a ++ b ∷ [])) x y
IsNear-old lists a b x y l h = elim (cases_eq x a) [
  | inl q ↦
      subst (λ n. Contains n y) (sym (ap (λ z. list_at (set lists a (list_at lists a ++ b ∷ []))
      z) q ∙ get_or-set_same lists a (list_at lists a ++ b ∷ []) [] l))
      (Contains-append_left (list_at lists a) (b ∷ []) y (subst (λ z. IsNear lists z y) q h))
  | inr q ↦ subst (λ n. Contains n y) (sym (get_or-set_other lists a x (list_at lists a ++ b ∷
      []) [] q)) h
]

pub IsNear-new : (lists : List (List ℕ)) (a b : ℕ) → a < length lists
    → IsNear (set lists a (list_at lists a ++ b ∷ [])) a b
IsNear-new lists a b l =
    subst (λ n. Contains n b) (sym (get_or-set_same lists a (list_at lists a ++ b ∷ []) [] l))
    (Contains-push (list_at lists a) b)

-- a new class has no neighbours
pub IsNear-class : (lists : List (List ℕ)) (x y : ℕ) → IsNear (lists ++ [] ∷ []) x y
    ↔ IsNear lists x y
IsNear-class lists x y =
    let e = get_or-push_default lists [] x in (subst (λ n. Contains n y) e, subst (λ n. Contains n y) (sym e))

-- neighbours that are a relation stay so as a class comes
pub near_class : (R : ℕ → ℕ → Type 0) (lists more : List (List ℕ)) → more ≡ lists ++ [] ∷ []
    → ((x y : ℕ) → IsNear lists x y ↔ R x y)
    → (x y : ℕ) → IsNear more x y ↔ R x y
near_class R lists more e same x y =
    let n = IsNear-class lists x y in let k = same x y in
    subst (λ l. IsNear l x y ↔ R x y) (sym e) (λ h. k.0 (n.0 h), λ h. n.1 (k.1 h))
