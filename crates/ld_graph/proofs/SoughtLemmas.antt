-- What a search finds.
use Rattle.std.proofs.Common.{◌≡◌, inl, inr, ℕ, ◌<◌, ◌≤◌, ◌↔◌, Bool, true, false, true≢false, List, [], ◌∷◌}
use Rattle.std.proofs.Common.{length, get_or, Contains, sym, subst, ◌∙◌}
use Rattle.std.proofs.lemmas.Bool.{cases_lt}
use Rattle.std.proofs.lemmas.List.Elements.{Contains-push, Contains-append_left, Contains-get_or}
use Rattle.ld_graph.specs.Inner.Repairs.{IsAdded, IsOrReaches}
use Rattle.ld_graph.proofs.WalkLemmas.{HasWalk-more, HasWalk-one}

-- a class that was added
pub added_has : (old new : List ℕ) (class : ℕ) → IsAdded old class new → Contains new class
added_has old new class (inl h) = subst (λ l. Contains l class) (sym h.1) h.0
added_has old new class (inr h) = subst (λ l. Contains l class) (sym h.1) (Contains-push old class)

pub added_keeps : (old new : List ℕ) (class k : ℕ) → IsAdded old class new → Contains old k
    → Contains new k
added_keeps old new class k (inl h) n = subst (λ l. Contains l k) (sym h.1) n
added_keeps old new class k (inr h) n =
    subst (λ l. Contains l k) (sym h.1) (Contains-append_left old (class ∷ []) k n)

-- a walk goes on
pub IsOrReaches-next : (near : ℕ → ℕ → Type 0) (a x y : ℕ) → IsOrReaches near a x → near x y
    → IsOrReaches near a y
IsOrReaches-next near a x y (inl e) n = inr (HasWalk-one near a y (subst (λ z. near z y) (sym e) n))
IsOrReaches-next near a x y (inr w) n = inr (HasWalk-more near a x y w n)

pub Contains-read : (found : List ℕ) (n k : ℕ) → n < length found → k ≡ get_or found n 0
    → Contains found k
Contains-read found n k l e = subst (Contains found) (sym e) (Contains-get_or found n 0 l)

-- more were found than a test says
pub beyond : (n : ℕ) (found : List ℕ) (b : Bool) → (b ≡ true) ↔ (length found ≤ n) → b ≡ false
    → n < length found
beyond n found b h is = elim (cases_lt n (length found)) [
  | inl l ↦ l
  | inr l ↦ absurd (true≢false (sym (h.1 l) ∙ is))
]
