-- Lists of successors that are built class by class, in an order.
use Rattle.std.proofs.Common.{◌≡◌, ◌⊎◌, inl, inr, ℕ, ◌+◌, ◌<◌, ◌≤◌, List, [], ◌∷◌, ◌++◌, Bool, true, false, zero, suc, Option, Contains, nat_eq, length, arith, refl, sym, ap, subst, true≢false, ◌∙◌}
use Rattle.std.proofs.lemmas.Bool.{cases_lt, eqb-true}
use Rattle.std.proofs.lemmas.Cmp.{nat_eq_equiv}
use Rattle.std.proofs.lemmas.List.{get_or_append_left, get_or_push, length_push}
use Rattle.std.proofs.lemmas.List.Elements.{Contains-append_left, Contains-get_or, Contains-push, Contains-push_cases}
use Rattle.std.proofs.lemmas.Map.Views.{Contains-from_any, list_any-from_Contains}
use Rattle.std.specs.List.{list_any}
use Rattle.ld_graph.specs.declared.Edge.{Edge}
use Rattle.ld_graph.specs.Edges.{ComesBefore, IsEdge}
use Rattle.ld_graph.specs.Inner.Levels.{HasLevel}
use Rattle.ld_graph.specs.Lists.{IsNear, list_at}
use Rattle.ld_graph.specs.Walks.{Reaches}
use Rattle.ld_graph.proofs.WalkLemmas.{Far, IsWalk-Far}
use Rattle.ld_tree.specs.Inner.{AreBuilt, AreClosed, AreLists, ArePushed}
use Rattle.ld_tree.specs.Trees.{AreInOrder, AreLeading, ArePlaced, nth}

in_list : (xs : List ℕ) (x : ℕ) → Contains xs x ⊎ ¬ Contains xs x
in_list xs x = by (list_any (nat_eq x) xs) refl
  where
    by : (b : Bool) → list_any (nat_eq x) xs ≡ b → Contains xs x ⊎ ¬ Contains xs x
    by true e = inl (Contains-from_any {eq = nat_eq} (λ p q h. eqb-true p q h) x xs e)
    by false e = inr (λ m. true≢false (sym (list_any-from_Contains nat_eq_equiv x xs m) ∙ e))

module _ (edges : List Edge) (numbers places : List ℕ) (marks : List (Option ℕ)) where
  module _ (k : ℕ) (lists : List (List ℕ)) (built : AreBuilt edges numbers places marks k lists) where
    -- a class that isn't marked
    pub built_pass : ¬ HasLevel marks (nth numbers k) → AreBuilt edges numbers places marks (k + 1) lists
    built_pass off = record {
      real = λ x y m. let r = built.real x y m in let b = r.1.1.0 in (r.0, (r.1.0, (omega (arith, b), r.1.1.1)));
      all = λ x j l edge on. by x j (cases_lt j k) l edge on;
      order = built.order;
    }
      where
        by : (x j : ℕ) → (j < k) ⊎ (k ≤ j) → j < k + 1 → IsEdge edges x (nth numbers j) → HasLevel marks (nth numbers j) → IsNear lists x (nth numbers j)
        by x j (inl less) l edge on = built.all x j less edge on
        by x j (inr past) l edge on = let same : j ≡ k = omega arith in absurd (off (subst (λ i. HasLevel marks (nth numbers i)) same on))

    -- and one that is
    module _ (classes : ℕ) (placed : ArePlaced classes numbers places) (within : k < length numbers) (near : List ℕ) (class : ℕ) (is : class ≡ nth numbers k)
        (forth : (x : ℕ) → Contains near x → IsEdge edges x class) (back : (x : ℕ) → IsEdge edges x class → Contains near x)
        (new : List (List ℕ)) (pushed : ArePushed near class lists new) where
      real : (x y : ℕ) → Contains near x ⊎ ¬ Contains near x → IsNear new x y → IsEdge edges x y × ((j : ℕ) × ((j < k + 1) × (nth numbers j ≡ y)))
      real x y (inl on) m = by (Contains-push_cases (list_at lists x) class y (subst (λ ns. Contains ns y) (pushed.on x on) m))
        where
          by : IsNear lists x y ⊎ (class ≡ y) → IsEdge edges x y × ((j : ℕ) × ((j < k + 1) × (nth numbers j ≡ y)))
          by (inl old) = let r = built.real x y old in let b = r.1.1.0 in (r.0, (r.1.0, (omega (arith, b), r.1.1.1)))
          by (inr same) = (subst (IsEdge edges x) same (forth x on), (k, (omega arith, sym is ∙ same)))
      real x y (inr off) m =
          let r = built.real x y (subst (λ ns. Contains ns y) (pushed.off x off) m) in let b = r.1.1.0 in (r.0, (r.1.0, (omega (arith, b), r.1.1.1)))

      all : (x j : ℕ) → Contains near x ⊎ ¬ Contains near x → (j < k) ⊎ (k ≤ j) → j < k + 1 → IsEdge edges x (nth numbers j) → HasLevel marks (nth numbers j) → IsNear new x (nth numbers j)
      all x j (inl on) (inl less) l edge h =
          subst (λ ns. Contains ns (nth numbers j)) (sym (pushed.on x on)) (Contains-append_left (list_at lists x) (class ∷ []) (nth numbers j) (built.all x j less edge h))
      all x j (inr off) (inl less) l edge h = subst (λ ns. Contains ns (nth numbers j)) (sym (pushed.off x off)) (built.all x j less edge h)
      all x j (inl on) (inr past) l edge h =
          let same : k ≡ j = omega arith in
          subst (λ ns. Contains ns (nth numbers j)) (sym (pushed.on x on)) (subst (Contains (list_at lists x ++ class ∷ [])) (is ∙ ap (nth numbers) same) (Contains-push (list_at lists x) class))
      all x j (inr off) (inr past) l edge h =
          let same : j ≡ k = omega arith in absurd (off (back x (subst (IsEdge edges x) (ap (nth numbers) same ∙ sym is) edge)))

      pushed_order : (x : ℕ) → AreInOrder places (list_at lists x ++ class ∷ [])
      pushed_order x i j less l = by (cases_lt j (length (list_at lists x)))
        where
          old : List ℕ
          old = list_at lists x

          low : i < length old
          low = let p = length_push old class in omega (arith, less, l, p)

          left : (n : ℕ) → n < length old → nth (old ++ class ∷ []) n ≡ nth old n
          left n b = get_or_append_left old (class ∷ []) 0 n b

          by : (j < length old) ⊎ (length old ≤ j) → ComesBefore places (nth (old ++ class ∷ []) i) (nth (old ++ class ∷ []) j)
          by (inl less_j) =
              subst (λ a. ComesBefore places a (nth (old ++ class ∷ []) j)) (sym (left i low)) (subst (ComesBefore places (nth old i)) (sym (left j less_j)) (built.order x i j less less_j))
          by (inr past) =
              let p = length_push old class in
              let at_j : nth (old ++ class ∷ []) j ≡ class = get_or_push old class 0 j (omega (arith, past, l, p)) in
              let r = built.real x (nth old i) (Contains-get_or old i 0 low) in
              let b = r.1.1.0 in
              let place_i : nth places (nth old i) ≡ r.1.0 = ap (nth places) (sym r.1.1.1) ∙ placed.place r.1.0 (omega (arith, b, within)) in
              let place_j : nth places class ≡ k = ap (nth places) is ∙ placed.place k within in
              subst (λ a. ComesBefore places a (nth (old ++ class ∷ []) j)) (sym (left i low)) (subst (ComesBefore places (nth old i)) (sym at_j) (inl (omega (arith, place_i, place_j, b))))

      order : (x : ℕ) → Contains near x ⊎ ¬ Contains near x → AreInOrder places (list_at new x)
      order x (inl on) = subst (AreInOrder places) (sym (pushed.on x on)) (pushed_order x)
      order x (inr off) = subst (AreInOrder places) (sym (pushed.off x off)) (built.order x)

      pub built_push : AreBuilt edges numbers places marks (k + 1) new
      built_push = record {
        real = λ x y m. real x y (in_list near x) m;
        all = λ x j l edge h. all x j (in_list near x) (cases_lt j k) l edge h;
        order = λ x. order x (in_list near x);
      }

-- what leads to a marked class is marked
module _ (edges : List Edge) (classes : ℕ) (ends : List ℕ) (marks : List (Option ℕ)) (are : AreClosed edges classes ends marks) where
  far_marked : (n y e : ℕ) → Far (IsEdge edges) n y e → HasLevel marks e → HasLevel marks y
  far_marked zero y e step h = are.closed y e step h
  far_marked (suc n) y e walk h = are.closed y walk.0 walk.1.0 (far_marked n walk.0 e walk.1.1 h)

  marked_where_led : (y e : ℕ) → Contains ends e → Reaches (IsEdge edges) y e → HasLevel marks y
  marked_where_led y e m (inl same) = subst (HasLevel marks) (sym same) (are.first e m)
  marked_where_led y e m (inr walk) = let f = IsWalk-Far (IsEdge edges) y e walk.0 walk.1 in far_marked f.0 y e f.1.1 (are.first e m)

  module _ (numbers places : List ℕ) (placed : ArePlaced classes numbers places) (lists : List (List ℕ)) (k : ℕ) (past : length numbers ≤ k) (upto : k ≤ length numbers)
      (built : AreBuilt edges numbers places marks k lists) where
    pub built_lists : length lists ≡ classes → AreLists places lists
    built_lists len = record {
      order = built.order;
      within = λ x y m.
          let r = built.real x y m in
          let b = r.1.1.0 in
          let w = placed.within r.1.0 (omega (arith, b, upto)) in
          let at = r.1.1.1 in
          omega (arith, w, at, len);
    }

    pub built_leading : ((x y : ℕ) → IsEdge edges x y → (x < classes) × (y < classes)) → AreLeading edges ends lists
    built_leading low = record {
      real = λ x y m. (built.real x y m).0;
      leads = λ x y e m edge reaches.
          let there = placed.every y (low x y edge).1 in
          let b = there.0 in
          subst (IsNear lists x) there.1 (built.all x (nth places y) (omega (arith, b, past)) (subst (IsEdge edges x) (sym there.1) edge)
          (subst (HasLevel marks) (sym there.1) (marked_where_led y e m reaches)));
    }
