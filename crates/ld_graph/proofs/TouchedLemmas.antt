-- What is left of what was touched, when some of it is taken away.
use Rattle.std.proofs.Common.{◌≡◌, ◌≢◌, ◌<◌, ◌≤◌, ◌+◌, inl, inr, ◌∙◌, ◌∷◌, ◌++◌, [], ℕ, Contains, List, Option, Some, None, arith, get_or, length, set, sym, subst, ap, refl}
use Rattle.std.specs.Prelude.{IfSome}
use Rattle.std.specs.Borrow.{Bor}
use Rattle.std.proofs.lemmas.Bool.{cases_eq}
use Rattle.std.proofs.lemmas.List.{get_or-set_same, get_or-set_other, length-set}
use Rattle.std.proofs.lemmas.List.Elements.{Contains-append_left, Contains-push, Contains-push_cases}
use Rattle.ld_graph.specs.Touched.{AreTouched}
use Rattle.ld_graph.specs.Inner.Levels.{level_at}

pub taken : (levels : List (Option ℕ)) (touched : List ℕ) (i : ℕ) → get_or touched i 0 < length levels
    → ((x k : ℕ) → level_at levels x ≡ Some k → (j : ℕ) × ((i ≤ j) × ((j < length touched) × (get_or touched j 0 ≡ x))))
    → (x k : ℕ) → level_at (set levels (get_or touched i 0) None) x ≡ Some k → (j : ℕ) × ((i + 1 ≤ j) × ((j < length touched) × (get_or touched j 0 ≡ x)))
taken levels touched i within h x k e = elim (cases_eq x (get_or touched i 0)) [
  | inl s ↦
      let f : level_at (set levels (get_or touched i 0) None) x ≡ None = ap (λ z. level_at (set levels (get_or touched i 0) None) z) s ∙ get_or-set_same levels (get_or touched i 0) None None within in
      cc
  | inr ne ↦
      let q = h x k (sym (get_or-set_other levels (get_or touched i 0) x None None ne) ∙ e) in
      let a = q.1.0 in
      let other : q.0 ≢ i = λ s. ne (sym q.1.1.1 ∙ ap (λ z. get_or touched z 0) s) in
      (q.0, (omega (arith, a, other), q.1.1))
]

pub none_left : (levels : List (Option ℕ)) (x : ℕ) → ((k : ℕ) → level_at levels x ≡ Some k → ⊥) → level_at levels x ≡ None
none_left levels x h = by (level_at levels x) refl
  where
    by : (o : Option ℕ) → level_at levels x ≡ o → level_at levels x ≡ None
    by None e = e
    by (Some k) e = absurd (h k e)

pub touched_more : (levels : List (Option ℕ)) (touched : List ℕ) (class level : ℕ) → class < length levels
    → AreTouched levels touched → AreTouched (set levels class (Some level)) (touched ++ class ∷ [])
touched_more levels touched class level within h = record {
  within = λ x m. elim (Contains-push_cases touched class x m) [
    | inl n ↦ let l = h.within x n in let s = length-set levels class (Some level) in omega (arith, l, s)
    | inr e ↦ let s = length-set levels class (Some level) in omega (arith, e, s, within)
  ];
  all = λ x k e. elim (cases_eq x class) [
    | inl s ↦ subst (Contains (touched ++ class ∷ [])) (sym s) (Contains-push touched class)
    | inr ne ↦ Contains-append_left touched (class ∷ []) x (h.all x k (sym (get_or-set_other levels class x (Some level) None ne) ∙ e))
  ];
}

-- a class that is below the number of classes has a component, where components are given
pub within_if : (components : Option (Bor (List ℕ))) (n x : ℕ) → IfSome components (λ c. length c.now ≡ n) → x < n
    → IfSome components (λ c. x < length c.now)
within_if None n x e l = tt
within_if (Some c) n x e l = omega (arith, e, l)
