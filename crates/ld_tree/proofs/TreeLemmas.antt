-- The walks of a tree are the shown ones.
use Rattle.std.proofs.Common.{◌≡◌, ◌⊎◌, inl, inr, ℕ, zero, suc, ◌+◌, ◌<◌, ◌≤◌, List, [], ◌∷◌, arith, refl, sym, ap, subst, ◌∙◌}
use Rattle.std.proofs.lemmas.Bool.{cases_order}
use Rattle.ld_graph.specs.Walks.{IsDistance, IsNext, ShownFrom}
use Rattle.ld_graph.proofs.WalkLemmas.{Far, IsDistance-Far, IsWalk-Far}
use Rattle.ld_tree.specs.Trees.{IsTree, at_place}

-- n steps up from the place q is the place p
abbrev pub IsUp : (ℕ → ℕ) → (n p q : ℕ) → Type 0
IsUp from zero p q = p ≡ q
IsUp from (suc n) p zero = ⊥
IsUp from (suc n) p (suc j) = IsUp from n p (from j)

module _ (step before : ℕ → ℕ → Type 0) (apart : (x y : ℕ) → before x y → ¬ before y x) (start count : ℕ) (found from : ℕ → ℕ)
    (tree : IsTree step before start count found from) where
  abbrev at : ℕ → ℕ
  at p = at_place start found p

  abbrev IsAbove : (n p q : ℕ) → Type 0
  IsAbove n p q = IsUp from n p q

  -- found from a lower place, so found before
  earlier : (i j : ℕ) → i < count → j < count → from i < from j → i < j
  earlier i j at_i at_j low = by (cases_order i j)
    where
      by : (i ≡ j) ⊎ ((i < j) ⊎ (j < i)) → i < j
      by (inl same) = let s : from i ≡ from j = ap from same in absurd (omega arith)
      by (inr (inl less)) = less
      by (inr (inr more)) = let s = tree.rising j i more at_i in absurd (omega arith)

  pub above_below : (n p q : ℕ) → q ≤ count → IsAbove n p q → p ≤ q
  above_below zero p q l h = omega arith
  above_below (suc n) p zero l h = absurd h
  above_below (suc n) p (suc j) l h = let u = tree.up j (omega arith) in let b = above_below n p (from j) (omega arith) h in omega arith

  -- each place is some steps below the start
  pub depth : (fuel p : ℕ) → p ≤ fuel → p ≤ count → (n : ℕ) × IsAbove n 0 p
  depth fuel zero f l = (0, refl)
  depth zero (suc j) f l = absurd (omega arith)
  depth (suc fuel) (suc j) f l = let u = tree.up j (omega arith) in let d = depth fuel (from j) (omega arith) (omega arith) in (suc d.0, d.1)

  -- a lower place is no deeper
  no_deeper : (m n p q : ℕ) → p ≤ q → q ≤ count → IsAbove m 0 p → IsAbove n 0 q → m ≤ n
  no_deeper zero n p q low l a b = omega arith
  no_deeper (suc m) n zero q low l a b = absurd a
  no_deeper (suc m) zero (suc i) q low l a b = absurd (omega arith)
  no_deeper (suc m) (suc n) (suc i) zero low l a b = absurd b
  no_deeper (suc m) (suc n) (suc i) (suc j) low l a b =
      let u = tree.up j (omega arith) in
      let r = no_deeper m n (from i) (from j) (by (cases_order i j)) (omega arith) a b in omega arith
    where
      by : (i ≡ j) ⊎ ((i < j) ⊎ (j < i)) → from i ≤ from j
      by (inl same) = let s : from i ≡ from j = ap from same in omega arith
      by (inr (inl less)) = tree.rising i j less (omega arith)
      by (inr (inr more)) = absurd (omega arith)

  -- what a walk of k + 1 steps leads to was found, at most so many steps deeper
  pub walked : (k p y : ℕ) → p ≤ count → Far step k (at p) y
      → (j : ℕ) × ((j < count) × ((found j ≡ y) × ((n m : ℕ) → IsAbove n 0 p → IsAbove m 0 (suc j) → m ≤ n + k + 1)))
  walked zero p y l h =
      let c = tree.closed p y l h in
      (c.0, (c.1.0, (c.1.1.0, λ n m a b. by c.0 c.1.0 c.1.1.1 n m a b)))
    where
      by : (j : ℕ) → j < count → from j ≤ p → (n m : ℕ) → IsAbove n 0 p → IsAbove m 0 (suc j) → m ≤ n + zero + 1
      by j at_j low n zero a b = omega arith
      by j at_j low n (suc m) a b = let r = no_deeper m n (from j) p low l b a in omega arith
  walked (suc k) p y l h =
      let c = tree.closed p h.0 l h.1.0 in
      let at_c = c.1.0 in
      let r = walked k (suc c.0) y (omega arith) (subst (λ x. Far step k x y) (sym c.1.1.0) h.1.1) in (
        r.0,
        (
          r.1.0,
          (
            r.1.1.0,
            λ n m a b.
                let d = depth (suc c.0) (suc c.0) (omega arith) (omega arith) in
                let e = r.1.1.1 d.0 m d.1 b in
                let f = by c.0 at_c c.1.1.1 n d.0 a d.1 in omega (arith, e, f),
          ),
        ),
      )
    where
      by : (j : ℕ) → j < count → from j ≤ p → (n m : ℕ) → IsAbove n 0 p → IsAbove m 0 (suc j) → m ≤ n + 1
      by j at_j low n zero a b = omega arith
      by j at_j low n (suc m) a b = let r = no_deeper m n (from j) p low l b a in omega arith

  -- the steps up from a place, and then those from there
  pub further : (m n p q r : ℕ) → IsAbove m p q → IsAbove n q r → IsAbove (n + m) p r
  further m zero p q r a b = let e : m ≡ zero + m = omega arith in subst (λ k. IsAbove k p r) e (subst (IsAbove m p) b a)
  further m (suc n) p q zero a b = absurd b
  further m (suc n) p q (suc j) a b = let e : suc (n + m) ≡ suc n + m = omega arith in subst (λ k. IsAbove k p (suc j)) e (further m n p q (from j) a b)

  -- the first step down
  first : (n p q : ℕ) → q ≤ count → IsAbove (suc n) p q → (c : ℕ) × ((c < count) × ((from c ≡ p) × IsAbove n (suc c) q))
  first n p zero l h = absurd h
  first zero p (suc j) l h = (j, (omega arith, (sym h, refl)))
  first (suc n) p (suc j) l h =
      let u = tree.up j (omega arith) in
      first n p (from j) (omega arith) h

  pub far_down : (n p q : ℕ) → q ≤ count → IsAbove (suc n) p q → Far step n (at p) (at q)
  far_down zero p q l h =
      let c = first 0 p q l h in
      subst (λ x. step (at x) (at q)) c.1.1.0 (subst (λ x. step (at (from c.0)) (at x)) c.1.1.1 (tree.edge c.0 c.1.0))
  far_down (suc n) p q l h =
      let c = first (suc n) p q l h in
      (found c.0, (subst (λ x. step (at x) (found c.0)) c.1.1.0 (tree.edge c.0 c.1.0), far_down n (suc c.0) q l c.1.1.1))

  -- so many steps below a place are the distance from its class
  far_exact : (n p j : ℕ) → j < count → IsAbove (suc n) p (suc j) → IsDistance step (at p) (found j) (n + 1)
  far_exact n p j at_j h = IsDistance-Far step (at p) (found j) n (far_down n p (suc j) (omega arith) h) (λ k w. by k w)
    where
      low : p ≤ count
      low = let b = above_below (suc n) p (suc j) (omega arith) h in omega arith

      by : (k : ℕ) → Far step k (at p) (found j) → n ≤ k
      by k w =
          let d = depth p p (omega arith) low in
          let r = walked k p (found j) low w in
          let same = tree.once r.0 j r.1.0 at_j r.1.1.0 in
          let e = r.1.1.1 d.0 (suc n + d.0) d.1 (subst (λ z. IsAbove (suc n + d.0) 0 (suc z)) (sym same) (further d.0 (suc n) 0 p (suc j) d.1 h)) in
          omega (arith, e)

  -- a walk from an earlier place leads to earlier places
  ahead : (k u v q y : ℕ) → u < v → q ≤ count → IsAbove (suc k) v q → Far step k (at u) y → (j : ℕ) × ((j < count) × ((found j ≡ y) × (j + 1 < q)))
  ahead zero u v q y low l h w =
      let b = above_below 1 v q l h in
      let c = tree.closed u y (omega arith) w in
      let d = first 0 v q l h in
      let f = c.1.1.1 in let g = d.1.1.0 in let s = d.1.1.1 in
      let e = earlier c.0 d.0 c.1.0 d.1.0 (omega arith) in
      (c.0, (c.1.0, (c.1.1.0, omega (arith, e, s))))
  ahead (suc k) u v q y low l h w =
      let b = above_below (suc (suc k)) v q l h in
      let c = tree.closed u w.0 (omega arith) w.1.0 in
      let d = first (suc k) v q l h in
      let f = c.1.1.1 in let g = d.1.1.0 in
      let e = earlier c.0 d.0 c.1.0 d.1.0 (omega arith) in
      ahead k (suc c.0) (suc d.0) q y (omega (arith, e)) l d.1.1.1 (subst (λ x. Far step k x y) (sym c.1.1.0) w.1.1)

  -- of the successors that are one step nearer, the one in the tree comes first
  next_is : (n c j : ℕ) → c < count → j < count → IsAbove (suc n) (suc c) (suc j) → IsNext step before (at (from c)) (found j) (n + 1) (found c)
  next_is n c j at_c at_j h = record {
    successor = tree.edge c at_c;
    nearer = far_exact n (suc c) j at_j h;
    least = λ z s d b. by z s d b;
  }
    where
      by : (z : ℕ) → step (at (from c)) z → IsDistance step z (found j) (n + 1) → before z (found c) → ⊥
      by z s d b =
          let u = tree.up c at_c in
          let i = tree.closed (from c) z (omega arith) s in
          let w = IsWalk-Far step z (found j) d.reached.0 d.reached.1.0 in
          let long = d.reached.1.1 in let also = w.1.0 in
          let same : w.0 ≡ n = omega (arith, long, also) in
          let far = subst (λ k. Far step k z (found j)) same w.1.1 in
          let r = ahead n (suc i.0) (suc c) (suc j) (found j) (below i.0 i.1.0 i.1.1.0 i.1.1.1 (cases_order i.0 c)) (omega arith) h (subst (λ x. Far step n x (found j)) (sym i.1.1.0) far) in
          let one = tree.once r.0 j r.1.0 at_j r.1.1.0 in
          let less = r.1.1.1 in
          absurd (omega (arith, one, less))
        where
          below : (i : ℕ) → i < count → found i ≡ z → from i ≤ from c → (i ≡ c) ⊎ ((i < c) ⊎ (c < i)) → suc i < suc c
          below i at_i is low (inl same) = let q = subst (λ x. before x (found c)) (sym is ∙ ap found same) b in absurd (apart (found c) (found c) q q)
          below i at_i is low (inr (inl less)) = omega arith
          below i at_i is low (inr (inr more)) =
              let r = tree.rising c i more at_i in
              let f = tree.least c i more at_i (omega arith) in
              absurd (apart (found c) z (subst (λ x. before (found c) x) is f) b)

  -- the shown walk from a found class, with the class from which it was found before it
  pub shown_up : (i j : ℕ) → i < count → j < count → (n : ℕ) → IsAbove (suc n) (suc i) (suc j) → (rest : List ℕ) → ShownFrom step before (found i) (found j) rest
      → ShownFrom step before (at (from i)) (found j) (found i ∷ rest)
  shown_up i j at_i at_j n h [] s = absurd s
  shown_up i j at_i at_j n h (x ∷ rest) s =
      let e : suc n + 1 ≡ n + 2 = omega arith in
      ((n, (subst (IsDistance step (at (from i)) (found j)) e (far_exact (suc n) (from i) j at_j (one_more h)), next_is n i j at_i at_j h)), s)
    where
      one_more : IsAbove (suc n) (suc i) (suc j) → IsAbove (suc (suc n)) (from i) (suc j)
      one_more h = let e : suc n + 1 ≡ suc (suc n) = omega arith in subst (λ k. IsAbove k (from i) (suc j)) e (further 1 (suc n) (from i) (suc i) (suc j) refl h)

  -- and the last step of it
  pub shown_last : (j : ℕ) → j < count → ShownFrom step before (at (from j)) (found j) (found j ∷ [])
  shown_last j at_j = (far_exact 0 (from j) j at_j refl, refl)
