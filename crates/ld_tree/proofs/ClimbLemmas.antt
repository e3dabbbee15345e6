-- A walk that is made from its end, class by class.
use Rattle.std.proofs.Common.{◌≡◌, inl, inr, ℕ, zero, suc, ◌+◌, ◌-◌, ◌<◌, ◌≤◌, List, [], ◌∷◌, Contains, None, Option, Some, get_or, length, arith, refl, sym, ap, subst, ◌∙◌}
use Rattle.std.proofs.lemmas.List.{get_or_default}
use Rattle.std.proofs.lemmas.List.Elements.{Contains-get_or}
use Rattle.ld_graph.specs.Edges.{ComesBefore}
use Rattle.ld_graph.specs.Lists.{IsNear}
use Rattle.ld_graph.specs.Walks.{HasWalk, IsShownWalk, ShownFrom}
use Rattle.ld_graph.proofs.SpreadLemmas.{some_same}
use Rattle.ld_graph.proofs.WalkLemmas.{IsWalk-Far}
use Rattle.ld_tree.specs.Trees.{IsTreeOf, PlainLeading, PlainTree, class_at_place, nth}
use Rattle.ld_tree.proofs.TreeLemmas.{IsUp, further, shown_last, shown_up, walked}

-- of two classes at most one comes before the other
pub one_way : (places : List ℕ) (x y : ℕ) → ComesBefore places x y → ¬ ComesBefore places y x
one_way places x y (inl a) (inl b) = omega (arith, a, b)
one_way places x y (inl a) (inr b) = let c = b.0 in omega (arith, a, c)
one_way places x y (inr a) (inl b) = let c = a.0 in omega (arith, c, b)
one_way places x y (inr a) (inr b) = let c = a.1 in let d = b.1 in omega (arith, c, d)

-- what follows the class at the place p on the shown walk to the class that was found as number j
pub record IsClimb (leading : PlainLeading) (start : ℕ) (tree : PlainTree) (j p : ℕ) (rest : List ℕ) : Type 0 where
  pub below : p ≤ j
  pub above : (n : ℕ) × IsUp (nth tree.from) (suc n) p (suc j)
  pub shown : ShownFrom (IsNear leading.lists) (ComesBefore leading.places) (class_at_place start tree.found p) (nth tree.found j) rest

module _ (leading : PlainLeading) (start : ℕ) (tree : PlainTree) (is : IsTreeOf leading start tree) where
  module _ (j : ℕ) (at_j : j < length tree.found) where
    pub climb_begin : IsClimb leading start tree j (nth tree.from j) (nth tree.found j ∷ [])
    climb_begin = record {
      below = is.walks.up j at_j;
      above = (0, refl);
      shown = shown_last (IsNear leading.lists) (ComesBefore leading.places) (one_way leading.places) start (length tree.found) (nth tree.found) (nth tree.from) is.walks j at_j;
    }

    pub climb_more : (p : ℕ) (rest : List ℕ) → 0 < p → IsClimb leading start tree j p rest → IsClimb leading start tree j (nth tree.from (p - 1)) (nth tree.found (p - 1) ∷ rest)
    climb_more zero rest more climb = absurd (omega (arith, more))
    climb_more (suc i) rest more climb = subst (λ k. IsClimb leading start tree j (nth tree.from k) (nth tree.found k ∷ rest)) e (record {
      below = omega (arith, low, climb.below, u);
      above = (suc climb.above.0, up);
      shown = shown_up (IsNear leading.lists) (ComesBefore leading.places) (one_way leading.places) start (length tree.found) (nth tree.found) (nth tree.from) is.walks i j at_i at_j
          climb.above.0 climb.above.1 rest climb.shown;
    })
      where
        e : i ≡ suc i - 1
        e = omega arith

        low : suc i ≤ j
        low = climb.below

        at_i : i < length tree.found
        at_i = omega (arith, low, at_j)

        u : nth tree.from i ≤ i
        u = is.walks.up i at_i

        up : IsUp (nth tree.from) (suc (suc climb.above.0)) (nth tree.from i) (suc j)
        up =
            let same : suc climb.above.0 + 1 ≡ suc (suc climb.above.0) = omega arith in
            subst (λ k. IsUp (nth tree.from) k (nth tree.from i) (suc j)) same
            (further (IsNear leading.lists) (ComesBefore leading.places) (one_way leading.places) start (length tree.found) (nth tree.found) (nth tree.from) is.walks 1 (suc climb.above.0) (nth tree.from i) (suc i) (suc j) refl climb.above.1)

    pub climb_end : (p : ℕ) (rest : List ℕ) → p ≡ 0 → IsClimb leading start tree j p rest
        → IsShownWalk (IsNear leading.lists) (ComesBefore leading.places) start (nth tree.found j) (start ∷ rest)
    climb_end p rest at climb = (refl, subst (λ k. ShownFrom (IsNear leading.lists) (ComesBefore leading.places) (class_at_place start tree.found k) (nth tree.found j) rest) at climb.shown)

  -- the number of a class is that as which it was found
  pub number_is : (y k : ℕ) → Contains tree.found y → get_or tree.numbers y None ≡ Some k → (k < length tree.found) × (nth tree.found k ≡ y)
  number_is y k m e =
      let b = m.1 in
      let same = get_or_default tree.found m.0 0 y b ∙ m.2 in
      let n : Some m.0 ≡ Some k = sym (is.numbered m.0 b) ∙ ap (λ z. get_or tree.numbers z None) same ∙ e in
      let k_is = some_same m.0 k n in
      (omega (arith, b, k_is), ap (nth tree.found) (sym k_is) ∙ same)

  -- as the code reads it
  pub number_read : (y k : ℕ) → Contains tree.found y → (numbers : List (Option ℕ)) → numbers ≡ tree.numbers → (o : Option ℕ) → y < length numbers → o ≡ get_or numbers y o → o ≡ Some k
      → (k < length tree.found) × (nth tree.found k ≡ y)
  number_read y k m numbers same o low read some = number_is y k m (ap (λ ns. get_or ns y None) (sym same) ∙ get_or_default numbers y None o low ∙ sym read ∙ some)

  -- where a walk leads was found
  pub found_where_led : (y : ℕ) → HasWalk (IsNear leading.lists) start y → Contains tree.found y
  found_where_led y w =
      let f = IsWalk-Far (IsNear leading.lists) start y w.0 w.1 in
      let r = walked (IsNear leading.lists) (ComesBefore leading.places) (one_way leading.places) start (length tree.found) (nth tree.found) (nth tree.from) is.walks f.0 0 y (omega arith) f.1.1 in
      let b = r.1.0 in
      subst (Contains tree.found) r.1.1.0 (Contains-get_or tree.found r.0 0 b)
