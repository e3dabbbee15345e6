-- Walks by how many steps they have.
use Rattle.std.proofs.Common.{◌≡◌, ℕ, zero, suc, ◌+◌, ◌≤◌, List, [], ◌∷◌, length, Option, Some}
use Rattle.std.proofs.Common.{None, arith, refl, subst}
use Rattle.ld_graph.specs.Walks.{LeadsTo, IsWalk, HasWalk, IsDistance, DistanceIs}

module _ {A : Type 0} (step : A → A → Type 0) where
  -- a walk of n + 1 steps leads from a to b
  abbrev pub Far : ℕ → A → A → Type 0
  Far zero a b = step a b
  Far (suc n) a b = (x : A) × (step a x × Far n x b)

  LeadsTo-Far : (a b : A) (w : List A) → LeadsTo step a b w → (n : ℕ) × ((length w ≡ n + 1)
      × Far n a b)
  LeadsTo-Far a b [] h = absurd h
  LeadsTo-Far a b (x ∷ []) h = (0, (omega arith, subst (λ y. step a y) h.1 h.0))
  LeadsTo-Far a b (x ∷ y ∷ more) h =
      let r = LeadsTo-Far x b (y ∷ more) h.1 in
      let e = r.1.0 in
      (suc r.0, (omega (arith, e), (x, (h.0, r.1.1))))

  Far-LeadsTo : (n : ℕ) (a b : A) → Far n a b → (w : List A) × (LeadsTo step a b w
      × (length w ≡ n + 1))
  Far-LeadsTo zero a b h = (b ∷ [], ((h, refl), omega arith))
  Far-LeadsTo (suc n) a b h =
      let r = Far-LeadsTo n h.0 b h.1.1 in by r.0 r.1.0 r.1.1
    where
      by : (w : List A) → LeadsTo step h.0 b w → length w ≡ n + 1 → (v : List A)
          × (LeadsTo step a b v × (length v ≡ suc n + 1))
      by [] l e = absurd l
      by (y ∷ more) l e = (h.0 ∷ y ∷ more, ((h.1.0, l), omega (arith, e)))

  pub IsWalk-Far : (a b : A) (w : List A) → IsWalk step a b w → (n : ℕ) × ((length w ≡ n + 2)
      × Far n a b)
  IsWalk-Far a b [] h = absurd h
  IsWalk-Far a b (x ∷ more) h =
      let r = LeadsTo-Far a b more h.1 in let e = r.1.0 in (r.0, (omega (arith, e), r.1.1))

  pub Far-IsWalk : (n : ℕ) (a b : A) → Far n a b → (w : List A) × (IsWalk step a b w
      × (length w ≡ n + 2))
  Far-IsWalk n a b h =
      let r = Far-LeadsTo n a b h in let e = r.1.1 in (a ∷ r.0, ((refl, r.1.0), omega (arith, e)))

  -- a distance by the number of steps
  pub IsDistance-Far : (a b : A) (n : ℕ) → Far n a b → ((m : ℕ) → Far m a b → n ≤ m)
      → IsDistance step a b (n + 1)
  IsDistance-Far a b n h least = record {
    reached = let r = Far-IsWalk n a b h in let e = r.1.1 in (r.0, (r.1.0, omega (arith, e)));
    least = λ w i. let r = IsWalk-Far a b w i in let e = r.1.0 in let l = least r.0 r.1.1
        in omega (arith, e, l);
  }

-- a walk turned round is a walk of the steps turned round
module _ {A : Type 0} (step : A → A → Type 0) where
  pub Far-snoc : (n : ℕ) (a x b : A) → Far step n a x → step x b → Far step (suc n) a b
  Far-snoc zero a x b h s = (x, (h, s))
  Far-snoc (suc n) a x b h s = (h.0, (h.1.0, Far-snoc n h.0 x b h.1.1 s))

  pub Far-turned : (n : ℕ) (a b : A) → Far (λ p q. step q p) n b a → Far step n a b
  Far-turned zero a b h = h
  Far-turned (suc n) a b h = Far-snoc n a h.0 b (Far-turned n a h.0 h.1.1) h.1.0

  pub HasWalk-Far : (n : ℕ) (a b : A) → Far step n a b → HasWalk step a b
  HasWalk-Far n a b h = let r = Far-IsWalk step n a b h in (r.0, r.1.0)

  pub HasWalk-one : (a b : A) → step a b → HasWalk step a b
  HasWalk-one a b h = HasWalk-Far zero a b h

  -- one step more at a walk's end
  pub HasWalk-more : (a x b : A) → HasWalk step a x → step x b → HasWalk step a b
  HasWalk-more a x b w h =
      let f = IsWalk-Far step a x w.0 w.1 in HasWalk-Far (suc f.0) a b (Far-snoc f.0 a x b f.1.1 h)

-- walks of the same steps
module _ {A : Type 0} (s t : A → A → Type 0) (to : (a b : A) → s a b → t a b) where
  LeadsTo-same : (a b : A) (w : List A) → LeadsTo s a b w → LeadsTo t a b w
  LeadsTo-same a b [] h = h
  LeadsTo-same a b (x ∷ []) h = (to a x h.0, h.1)
  LeadsTo-same a b (x ∷ y ∷ more) h = (to a x h.0, LeadsTo-same x b (y ∷ more) h.1)

  pub IsWalk-same : (a b : A) (w : List A) → IsWalk s a b w → IsWalk t a b w
  IsWalk-same a b [] h = h
  IsWalk-same a b (x ∷ more) h = (h.0, LeadsTo-same a b more h.1)

module _ {A : Type 0} (s t : A → A → Type 0) (to : (a b : A) → s a b → t a b) (back : (a b : A)
    → t a b → s a b) where
  pub DistanceIs-same : (a b : A) (o : Option ℕ) → DistanceIs s a b o → DistanceIs t a b o
  DistanceIs-same a b None h = λ w. h (w.0, IsWalk-same t s back a b w.0 w.1)
  DistanceIs-same a b (Some n) h = record {
    reached = let r = h.reached in (r.0, (IsWalk-same s t to a b r.0 r.1.0, r.1.1));
    least = λ w i. h.least w (IsWalk-same t s back a b w i);
  }
