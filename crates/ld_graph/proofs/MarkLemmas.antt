-- Exactly those offsets have a mark that were found.
use Rattle.std.proofs.Common.{◌≡◌, ◌≢◌, ◌⊎◌, inl, inr, ℕ, ◌+◌, ◌-◌, ◌<◌, ◌≤◌, Bool, true}
use Rattle.std.proofs.Common.{false}
use Rattle.std.proofs.Common.{true≢false, List, [], ◌∷◌, ◌++◌, length, get_or, set, replicate}
use Rattle.std.proofs.Common.{nat_eq, Contains, arith, sym, ap, subst, ◌∙◌}
use Rattle.std.specs.List.{list_any}
use Rattle.std.proofs.lemmas.Bool.{cases_Bool, cases_lt, cases_eq, eqb-true}
use Rattle.std.proofs.lemmas.Cmp.{nat_eq_equiv}
use Rattle.std.proofs.lemmas.Map.Views.{Contains-from_any, list_any-from_Contains}
use Rattle.std.proofs.lemmas.Map.Steps.{length-le_from_distinct_below}
use Rattle.std.proofs.lemmas.List.{get_or_past, get_or-set_same, get_or-set_other, length-set}
use Rattle.std.proofs.lemmas.List.{length_push, get_or_append_left, get_or-append-add}
use Rattle.std.proofs.lemmas.List.{get_or-replicate, length-replicate, get_or_default}
use Rattle.std.proofs.lemmas.List.Elements.{Contains-push, Contains-push_cases}
use Rattle.std.proofs.lemmas.List.Elements.{Contains-append_left}
use Rattle.ld_graph.specs.Inner.Marks.{AreMarked}
use Rattle.ld_graph.proofs.NearLemmas.{within_of}
use Rattle.ld_graph.proofs.OnceLemmas.{IsDistinct-none, IsDistinct-one_more}
use Rattle.ld_graph.proofs.ReachLemmas.{is_marked, mark_on, mark_stays, mark_was}

-- whether a number is one of these
pub has_or_not : (found : List ℕ) (k : ℕ) → Contains found k ⊎ (¬ Contains found k)
has_or_not found k = elim (cases_Bool (list_any (nat_eq k) found)) [
  | inl e ↦ inl (Contains-from_any {eq = nat_eq} (λ x y t. eqb-true x y t) k found e)
  | inr e ↦ inr (λ n. true≢false (sym (list_any-from_Contains nat_eq_equiv k found n) ∙ e))
]

pub AreMarked-none : AreMarked [] []
AreMarked-none = record {
  once = IsDistinct-none;
  marked = λ k. (
    λ e. absurd (true≢false (sym e ∙ get_or_past [] k false (omega arith))),
    λ h. let l = h.1 in absurd (omega (arith, l)),
  );
}

module _ (marks : List Bool) (found : List ℕ) (h : AreMarked marks found) where
  pub found_below : (k : ℕ) → Contains found k → k < length marks
  found_below k n = within_of marks k false (λ e. true≢false (sym ((h.marked k).1 n) ∙ e))

  pub found_few : length found ≤ length marks
  found_few = length-le_from_distinct_below found (length marks) h.once
      (λ q e. found_below q (Contains-from_any {eq = nat_eq} (λ x y t. eqb-true x y t) q found e))

  pub unmarked : (k : ℕ) → get_or marks k false ≡ false → ¬ Contains found k
  unmarked k e n = true≢false (sym ((h.marked k).1 n) ∙ e)

  module _ (offset : ℕ) (within : offset < length marks) (free : get_or marks offset false ≡ false) where
    pub AreMarked-add : AreMarked (set marks offset true) (found ++ offset ∷ [])
    AreMarked-add = record {
      once = IsDistinct-one_more found offset h.once (unmarked offset free);
      marked = λ k. (λ e. to k (mark_was marks offset k e), λ n. back k (Contains-push_cases found offset k n));
    }
      where
        to : (k : ℕ) → (k ≡ offset) ⊎ is_marked marks k → Contains (found ++ offset ∷ []) k
        to k (inl e) = subst (Contains (found ++ offset ∷ [])) (sym e) (Contains-push found offset)
        to k (inr m) = Contains-append_left found (offset ∷ []) k ((h.marked k).0 m)

        back : (k : ℕ) → Contains found k ⊎ (offset ≡ k) → is_marked (set marks offset true) k
        back k (inl n) = mark_stays marks offset k ((h.marked k).1 n)
        back k (inr e) = subst (is_marked (set marks offset true)) e (mark_on marks offset within)

  pub AreMarked-more : (n : ℕ) → AreMarked (marks ++ replicate n false) found
  AreMarked-more n = record {
    once = h.once;
    marked = λ k. (λ e. (h.marked k).0 (sym (same k) ∙ e), λ c. same k ∙ (h.marked k).1 c);
  }
    where
      past : (k : ℕ) → length marks ≤ k → get_or (marks ++ replicate n false) k false ≡ false
      past k l = at ∙ elim (cases_lt (k - length marks) n) [
        | inl b ↦ get_or-replicate n (k - length marks) false false b
        | inr b ↦ get_or_past (replicate n false) (k - length marks) false
            (let r = length-replicate {A = Bool} n false in omega (arith, b, r))
      ]
        where
          at : get_or (marks ++ replicate n false) k false
              ≡ get_or (replicate n false) (k - length marks) false
          at = let e : k ≡ length marks + (k - length marks) = omega (arith, l) in
              ap (λ z. get_or (marks ++ replicate n false) z false) e
              ∙ get_or-append-add marks (replicate n false) (k - length marks) false

      same : (k : ℕ) → get_or (marks ++ replicate n false) k false ≡ get_or marks k false
      same k = elim (cases_lt k (length marks)) [
        | inl l ↦ get_or_append_left marks (replicate n false) false k l
        | inr l ↦ past k l ∙ sym (get_or_past marks k false l)
      ]

-- one that isn't marked is a further one
pub found_less : (marks : List Bool) (found : List ℕ) (offset : ℕ) → AreMarked marks found
    → offset < length marks → get_or marks offset false ≡ false → length found < length marks
found_less marks found offset h within free =
    let few = found_few (set marks offset true) (found ++ offset ∷ []) (AreMarked-add marks found h
    offset within free) in
    let a = length-set marks offset true in let b = length_push found offset in
    omega (arith, few, a, b)

-- the marks that are left, where those of the first n were taken away
abbrev pub AreLeft : (old new : List Bool) → List ℕ → ℕ → Type 0
AreLeft old new found n = (k : ℕ) → get_or new k false ≡ true
    → (get_or old k false ≡ true) × ((i : ℕ) → i < n → get_or found i 0 ≢ k)

pub AreLeft-next : (old new : List Bool) (found : List ℕ) (n offset : ℕ) → AreLeft old new found n
    → offset ≡ get_or found n 0 → offset < length new
    → AreLeft old (set new offset false) found (n + 1)
AreLeft-next old new found n offset h e within k t = elim (cases_eq k offset) [
  | inl q ↦ absurd (true≢false (sym t ∙ ap (λ z. get_or (set new offset false) z false) q
      ∙ get_or-set_same new offset false false within))
  | inr q ↦
      let g = h k (sym (get_or-set_other new offset k false false q) ∙ t) in (
        g.0,
        λ i l r. elim (cases_eq i n) [
          | inl s ↦ q (sym r ∙ ap (λ z. get_or found z 0) s ∙ sym e)
          | inr s ↦ g.1 i (omega arith) r
        ],
      )
]

pub AreLeft-all : (old new : List Bool) (found : List ℕ) (n : ℕ) → AreLeft old new found n
    → length found ≤ n
    → (k : ℕ) → get_or new k false ≡ true → (get_or old k false ≡ true) × (¬ Contains found k)
AreLeft-all old new found n h l k e =
    let g = h k e in
    (g.0, λ c. let a = c.1 in g.1 c.0 (omega (arith, a, l)) (get_or_default found c.0 0 k a ∙ c.2))

pub AreMarked-cleared : (old new : List Bool) (found : List ℕ) → AreMarked old found
    → ((k : ℕ) → get_or new k false ≡ true → (get_or old k false ≡ true) × (¬ Contains found k))
    → AreMarked new []
AreMarked-cleared old new found h left = record {
  once = IsDistinct-none;
  marked = λ k. (
    λ e. let g = left k e in absurd (g.1 ((h.marked k).0 g.0)),
    λ c. let b = c.1 in absurd (omega (arith, b)),
  );
}
