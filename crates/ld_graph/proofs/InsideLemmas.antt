-- Walks between classes of a component don't leave it.
use Rattle.std.proofs.Common.{◌≡◌, ◌↔◌, ◌⊎◌, inl, inr, ℕ, ◌<◌, ◌≤◌, List, [], ◌∷◌, Option, None, Some, arith, get_or, length, refl, subst, sym}
use Rattle.std.proofs.lemmas.Bool.{cases_lt}
use Rattle.std.proofs.lemmas.List.{get_or_past}
use Rattle.ld_graph.specs.Components.{AreComponents}
use Rattle.ld_graph.specs.Inner.Insides.{AreLevelsFor, IsNearInside}
use Rattle.ld_graph.specs.Inner.Levels.{level_at}
use Rattle.ld_graph.specs.Lists.{IsNear}
use Rattle.ld_graph.specs.Walks.{AreEnough, LeadsTo, IsDistance, IsWalk, HasWalk, Reaches, DistanceIs}
use Rattle.ld_graph.proofs.ShownLemmas.{AreEnough-same}
use Rattle.ld_graph.proofs.SoughtLemmas.{IsOrReaches-next}
use Rattle.ld_graph.proofs.TrailLemmas.{are_together, reaches-on}
use Rattle.ld_graph.proofs.WalkLemmas.{IsWalk-same}

module _ (step : ℕ → ℕ → Type 0) (before : List (List ℕ)) (turned : (x y : ℕ) → IsNear before x y ↔ step y x) (n : ℕ)
    (ends : (x y : ℕ) → step x y → (x < n) × (y < n)) (components : List ℕ) (are : AreComponents step n components) (end : ℕ) (within : end < n) where
  abbrev inside : ℕ → ℕ → Type 0
  inside a b = IsNear before b a × (get_or components a 0 ≡ get_or components end 0)

  outer : (a b : ℕ) → inside a b → step a b
  outer a b h = (turned b a).0 h.0

  inner : (a b : ℕ) → Reaches step end a → HasWalk step a end → step a b → inside a b
  inner a b reached back s = let at = (ends a b s).0 in ((turned b a).1 s, (are.each a end at within).1 (are_together step a end (inr back) reached))

  leads : (a : ℕ) (w : List ℕ) → Reaches step end a → LeadsTo step a end w → LeadsTo inside a end w
  leads a [] reached h = absurd h
  leads a (x ∷ []) reached h = (inner a x reached (a ∷ x ∷ [], (refl, h)) h.0, h.1)
  leads a (x ∷ y ∷ more) reached h = (
    inner a x reached (a ∷ x ∷ y ∷ more, (refl, h)) h.0,
    leads x (y ∷ more) (IsOrReaches-next step end a x reached h.0) h.1,
  )

  walk : (a : ℕ) (w : List ℕ) → Reaches step end a → IsWalk step a end w → IsWalk inside a end w
  walk a [] reached h = absurd h
  walk a (x ∷ more) reached h = (h.0, leads a more reached h.1)

  pub DistanceIs-inside : (a : ℕ) (o : Option ℕ) → Reaches step end a → DistanceIs inside a end o → DistanceIs step a end o
  DistanceIs-inside a None reached h = λ w. h (w.0, walk a w.0 reached w.1)
  DistanceIs-inside a (Some k) reached h = record {
    reached = let r = h.reached in (r.0, (IsWalk-same inside step outer a end r.0 r.1.0, r.1.1));
    least = λ w i. h.least w (walk a w reached i);
  }

  -- and as a distance in the component
  IsDistance-into : (a n : ℕ) → Reaches step end a → IsDistance step a end n → IsDistance inside a end n
  IsDistance-into a n reached d = record {
    reached = let r = d.reached in (r.0, (walk a r.0 reached r.1.0, r.1.1));
    least = λ w i. d.least w (IsWalk-same inside step outer a end w i);
  }

  -- what is enough within the component is enough
  pub AreEnough-inside : (w : ℕ) (levels : List (Option ℕ)) → Reaches step end w → AreLevelsFor inside w end levels
      → AreEnough step w end (level_at levels)
  AreEnough-inside w levels reached h = record {
    own = DistanceIs-inside w (level_at levels w) reached h.own;
    right = λ c n on e. DistanceIs-inside c (Some n) (reaches-on step end w c reached on) (h.right c n e);
    nearer = λ c m n on d e l. h.nearer c m n (IsDistance-into c m (reaches-on step end w c reached on) d) e l;
  }

-- where the steps are given by the lists of predecessors, over the whole graph
module _ (before : List (List ℕ)) (step : ℕ → ℕ → Type 0) (turned : (x y : ℕ) → IsNear before x y ↔ step y x) where
  abbrev against : ℕ → ℕ → Type 0
  against a b = IsNearInside before None 0 b a

  pub AreEnough-near : (w end : ℕ) (levels : List (Option ℕ)) → AreLevelsFor against w end levels
      → AreEnough step w end (level_at levels)
  AreEnough-near w end levels h = AreEnough-same against step against (λ a b. (λ h. (turned b a).0 h.0, λ s. ((turned b a).1 s, tt))) w end (level_at levels) (record {
    own = h.own;
    right = λ c n on e. h.right c n e;
    nearer = λ c m n on d e l. h.nearer c m n d e l;
  })

  -- where all of n classes were wanted, and no other has a step, all distances are known
  pub DistanceIs-all : (n end : ℕ) (levels : List (Option ℕ)) → length levels ≡ n → ((x y : ℕ) → step x y → x < n)
      → ((w : ℕ) → w < n → AreLevelsFor against w end levels) → (x : ℕ) → DistanceIs step x end (level_at levels x)
  DistanceIs-all n end levels len ends all x = by (cases_lt x n)
    where
      none : n ≤ x → (walk : List ℕ) → ¬ IsWalk step x end walk
      none past [] h = h
      none past (a ∷ []) h = h.1
      none past (a ∷ y ∷ []) h = let l = ends x y h.1.0 in omega (arith, l, past)
      none past (a ∷ y ∷ z ∷ more) h = let l = ends x y h.1.0 in omega (arith, l, past)

      by : (x < n) ⊎ (n ≤ x) → DistanceIs step x end (level_at levels x)
      by (inl l) = (AreEnough-near x end levels (all x l)).own
      by (inr past) = subst (DistanceIs step x end) (sym (get_or_past levels x None (omega (arith, len, past)))) (λ w. none past w.0 w.1)
