-- The edge with which the first cycle came.
use Rattle.std.proofs.Common.{◌≡◌, ◌⊎◌, inl, inr, ◌++◌, ◌∷◌, [], List, ℕ, zero, suc, Option, None, Some, refl, sym, ap, subst}
use Rattle.std.proofs.lemmas.List.Elements.{Contains-append_left, Contains-push, Contains-push_cases}
use Rattle.ld_graph.specs.declared.Edge.{Edge}
use Rattle.ld_graph.specs.declared.ranks.Insert.{Insert}
use Rattle.ld_graph.specs.declared.ranks.Insert.TheVariants.{AfterCycle, Closed, Kept, Known, Moved}
use Rattle.ld_graph.specs.Edges.{IsEdge, PlainGraph, edge, with_edge}
use Rattle.ld_graph.specs.Order.{HasCycle, IsInserted}
use Rattle.ld_graph.specs.Walks.{HasWalk}
use Rattle.ld_graph.proofs.WalkLemmas.{Far, HasWalk-Far, IsWalk-Far, IsWalk-same}
use Rattle.ld_union.specs.Inner.Union.{IsCycleEdge, IsCycleAt}

-- two walks in turn
Far-append : {A : Type 0} (step : A → A → Type 0) (n m : ℕ) (a b c : A) → Far step n a b → Far step m b c → (k : ℕ) × Far step k a c
Far-append step zero m a b c h g = (suc m, (b, (h, g)))
Far-append step (suc n) m a b c h g =
    let rest = Far-append step n m h.0 b c h.1.1 g in
    (suc rest.0, (h.0, (h.1.0, rest.1)))

module _ {A : Type 0} (old more new : A → A → Type 0) (cases : (a b : A) → new a b → old a b ⊎ more a b) where
  -- a step of more, from whose end a walk leads back to its start
  abbrev Closes : Type 0
  Closes = (p : A) × ((q : A) × (more p q × ((k : ℕ) × Far new k q p)))

  -- a walk that another one closes: either all of its steps are old, or one of them is more
  closed_cases : (n m : ℕ) (x y : A) → Far new n x y → Far new m y x → Far old n x y ⊎ Closes
  closed_cases zero m x y h back = by (cases x y h)
    where
      by : old x y ⊎ more x y → Far old zero x y ⊎ Closes
      by (inl known) = inl known
      by (inr added) = inr (x, (y, (added, (m, back))))
  closed_cases (suc n) m x y h back =
      let longer = Far-append new m zero y x h.0 back h.1.0 in
      by (cases x h.0 h.1.0) (closed_cases n longer.0 h.0 y h.1.1 longer.1)
    where
      by : old x h.0 ⊎ more x h.0 → Far old n h.0 y ⊎ Closes → Far old (suc n) x y ⊎ Closes
      by (inr added) rest = inr (x, (h.0, (added, Far-append new n m h.0 y x h.1.1 back)))
      by (inl known) (inl rest) = inl (h.0, (known, rest))
      by (inl known) (inr closed) = inr closed

-- where there is no cycle, no edge is on one
pub no_cycle-none : (edges : List Edge) → ¬ HasCycle (IsEdge edges) → ¬ ((e : Edge) × IsCycleAt edges e)
no_cycle-none edges none any =
    let e = any.0 in
    let far = IsWalk-Far (IsEdge edges) e.to e.from any.1.1.0 any.1.1.1 in
    none (e.from, HasWalk-Far (IsEdge edges) (suc far.0) e.from e.from (e.to, (any.1.0, far.1.1)))

-- and where there is one, some edge is
cycle-some : (edges : List Edge) → HasCycle (IsEdge edges) → (e : Edge) × IsCycleAt edges e
cycle-some edges cycle = let far = IsWalk-Far (IsEdge edges) cycle.0 cycle.0 cycle.1.0 cycle.1.1 in by far.0 far.1.1
  where
    by : (n : ℕ) → Far (IsEdge edges) n cycle.0 cycle.0 → (e : Edge) × IsCycleAt edges e
    by zero h = (edge cycle.0 cycle.0, (h, HasWalk-Far (IsEdge edges) zero cycle.0 cycle.0 h))
    by (suc n) h = (edge cycle.0 h.0, (h.1.0, HasWalk-Far (IsEdge edges) n h.0 cycle.0 h.1.1))

-- an edge on a cycle stays on it
cycle-stays : (edges : List Edge) (added e : Edge) → IsCycleAt edges e → IsCycleAt (edges ++ added ∷ []) e
cycle-stays edges added e cycle = (
  kept e.from e.to cycle.0,
  (cycle.1.0, IsWalk-same (IsEdge edges) (IsEdge (edges ++ added ∷ [])) kept e.to e.from cycle.1.0 cycle.1.1),
)
  where
    kept : (a b : ℕ) → IsEdge edges a b → IsEdge (edges ++ added ∷ []) a b
    kept a b there = Contains-append_left edges (added ∷ []) (edge a b) there

-- the edge with which the first cycle came is on it
cycle-closed : (edges : List Edge) (a b : ℕ) → ¬ HasCycle (IsEdge edges) → HasCycle (IsEdge (edges ++ edge a b ∷ [])) → IsCycleAt (edges ++ edge a b ∷ []) (edge a b)
cycle-closed edges a b none cycle =
    let far = IsWalk-Far (IsEdge all) cycle.0 cycle.0 cycle.1.0 cycle.1.1 in
    by far.0 (closed_cases (IsEdge edges) (λ x y. (x ≡ a) × (y ≡ b)) (IsEdge all) cases far.0 far.0 cycle.0 cycle.0 far.1.1 far.1.1)
  where
    all : List Edge
    all = edges ++ edge a b ∷ []

    cases : (x y : ℕ) → IsEdge all x y → IsEdge edges x y ⊎ ((x ≡ a) × (y ≡ b))
    cases x y there = to (Contains-push_cases edges (edge a b) (edge x y) there)
      where
        to : IsEdge edges x y ⊎ (edge a b ≡ edge x y) → IsEdge edges x y ⊎ ((x ≡ a) × (y ≡ b))
        to (inl old) = inl old
        to (inr same) = inr (ap (λ (e : Edge). e.from) (sym same), ap (λ (e : Edge). e.to) (sym same))

    by : (n : ℕ) → Far (IsEdge edges) n cycle.0 cycle.0 ⊎ Closes (IsEdge edges) (λ x y. (x ≡ a) × (y ≡ b)) (IsEdge all) cases → IsCycleAt all (edge a b)
    by n (inl walk) = absurd (none (cycle.0, HasWalk-Far (IsEdge edges) n cycle.0 cycle.0 walk))
    by n (inr closes) = (
      Contains-push edges (edge a b),
      subst {A = ℕ × ℕ} (λ p. HasWalk (IsEdge all) p.0 p.1) (λ i. (closes.1.1.0.1 i, closes.1.1.0.0 i))
          (HasWalk-Far (IsEdge all) closes.1.1.1.0 closes.1.0 closes.0 closes.1.1.1.1),
    )

-- what the closing edge is once an edge was inserted
module _ (old new : PlainGraph) (a b : ℕ) where
  pub closing-closed : IsInserted old a b Closed new → IsCycleEdge new.edges (Some (edge a b))
  closing-closed inserted =
      let same : new.edges ≡ old.edges ++ edge a b ∷ [] = ap (λ (g : PlainGraph). g.edges) inserted.graph in
      subst (λ edges. IsCycleAt edges (edge a b)) (sym same)
      (cycle-closed old.edges a b inserted.no_cycle (subst (λ edges. HasCycle (IsEdge edges)) same inserted.cycle))

  grown : (closing : Option Edge) (order : Option (List ℕ)) → new ≡ with_edge old a b order → ¬ HasCycle (IsEdge new.edges) → IsCycleEdge old.edges closing → IsCycleEdge new.edges closing
  grown None order is none closing = no_cycle-none new.edges none
  grown (Some e) order is none closing = subst (λ edges. IsCycleAt edges e) (sym (ap (λ (g : PlainGraph). g.edges) is)) (cycle-stays old.edges (edge a b) e closing)

  pub closing-other : (closing : Option Edge) (answer : Insert) → (answer ≡ Closed → ⊥) → IsInserted old a b answer new → IsCycleEdge old.edges closing → IsCycleEdge new.edges closing
  closing-other closing Known other inserted was = subst (λ (g : PlainGraph). IsCycleEdge g.edges closing) (sym inserted.same) was
  closing-other closing Kept other inserted was = grown closing old.order inserted.graph inserted.no_cycle was
  closing-other closing (Moved expanded) other inserted was = grown closing new.order inserted.graph inserted.no_cycle was
  closing-other closing Closed other inserted was = absurd (other refl)
  closing-other None AfterCycle other inserted was = absurd (was (cycle-some old.edges inserted.cycle))
  closing-other (Some e) AfterCycle other inserted was =
      subst (λ edges. IsCycleAt edges e) (sym (ap (λ (g : PlainGraph). g.edges) inserted.graph)) (cycle-stays old.edges (edge a b) e was)
