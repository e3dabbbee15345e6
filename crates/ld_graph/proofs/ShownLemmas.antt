-- The least of the near classes, and the shown walk.
use Rattle.std.proofs.Common.{inl, inr, ◌≡◌, ◌≢◌, ℕ, suc, ◌+◌, ◌-◌, ◌<◌, ◌≤◌, List, [], ◌∷◌, ◌++◌, length}
use Rattle.std.proofs.Common.{get_or, Option, Some, None, Contains, ◌↔◌, MatchOption, arith, sym}
use Rattle.std.proofs.Common.{ap, subst, ◌∙◌}
use Rattle.std.proofs.lemmas.List.{append_assoc, get_or_default}
use Rattle.ld_graph.specs.Edges.{ComesBefore}
use Rattle.ld_graph.specs.Lists.{IsNear}
use Rattle.ld_graph.specs.Inner.Levels.{level_at, IsLeastAtLevel}
use Rattle.ld_graph.specs.Walks.{AreEnough, IsDistance, DistanceIs, IsNext, Reaches, ShownFrom, IsShownWalk}
use Rattle.ld_graph.proofs.WalkLemmas.{Far, IsWalk-Far, Far-IsWalk, IsDistance-Far, DistanceIs-same, IsWalk-same}

-- what is known of the first n of these classes: the least of this level, if there is one
abbrev pub IsLeastOf : List ℕ → ℕ → ℕ → List (Option ℕ) → List ℕ → Option ℕ → Type 0
IsLeastOf near n level levels places None = (k : ℕ) → k < n
    → level_at levels (get_or near k 0) ≢ Some level
IsLeastOf near n level levels places (Some x) =
    Contains near x × (level_at levels x ≡ Some level)
    × ((k : ℕ) → k < n → level_at levels (get_or near k 0) ≡ Some level
    → ¬ ComesBefore places (get_or near k 0) x)

module _ (near : List ℕ) (level : ℕ) (levels : List (Option ℕ)) (places : List ℕ) where
  pub IsLeastOf-all : (n : ℕ) (o : Option ℕ) → length near ≤ n
      → IsLeastOf near n level levels places o
      → MatchOption o ((x : ℕ) → Contains near x → level_at levels x ≡ Some level
      → ⊥) (IsLeastAtLevel (Contains near) level levels places)
  IsLeastOf-all n None l h = λ x e f.
      let m = e.1 in h e.0 (omega arith) (ap (λ z. level_at levels z) (get_or_default near e.0 0 x m
      ∙ e.2) ∙ f)
  IsLeastOf-all n (Some x) l h = record {
    is_near = h.0;
    has_level = h.1;
    least = λ z e f b.
        let m = e.1 in let s = get_or_default near e.0 0 z m ∙ e.2 in
        h.2 e.0 (omega arith) (ap (λ y. level_at levels y) s
        ∙ f) (subst (λ y. ComesBefore places y x) (sym s) b);
  }

-- a distance is one number
module _ {A : Type 0} (step : A → A → Type 0) where
  pub distance_one : (a b : A) (m n : ℕ) → IsDistance step a b m → IsDistance step a b n → m ≡ n
  distance_one a b m n h k =
      let p = h.reached in let q = k.reached in
      let r = h.least q.0 q.1.0 in let s = k.least p.0 p.1.0 in
      let u = p.1.1 in let v = q.1.1 in omega arith

  pub distance_is : (a b : A) (o : Option ℕ) (n : ℕ) → DistanceIs step a b o → IsDistance step a b n
      → o ≡ Some n
  distance_is a b None n h k = absurd (h (k.reached.0, k.reached.1.0))
  distance_is a b (Some m) n h k = ap (λ x. Some x) (distance_one a b m n h k)

  pub distance_at : (a b : A) (o : Option ℕ) (n : ℕ) → DistanceIs step a b o → o ≡ Some n
      → IsDistance step a b n
  distance_at a b o n h e = subst (λ z. DistanceIs step a b z) e h

  -- where it is more than 1, some successor is one nearer
  pub distance_next : (a b : A) (n : ℕ) → IsDistance step a b (n + 2) → (x : A) × (step a x
      × IsDistance step x b (n + 1))
  distance_next a b n h =
      let r = h.reached in let f = IsWalk-Far step a b r.0 r.1.0 in
      let u = r.1.1 in let v = f.1.0 in
      let e : f.0 ≡ suc n = omega arith in
      let g = subst (λ m. Far step m a b) e f.1.1 in (
        g.0,
        (
          g.1.0,
          IsDistance-Far step g.0 b n g.1.1
              (λ m k. let w = Far-IsWalk step (suc m) a b (g.0, (g.1.0, k))
              in let l = h.least w.0 w.1.0 in let q = w.1.1 in omega (arith, l, q)),
        ),
      )

-- one more class of the shown walk
module _ (lists : List (List ℕ)) (places : List ℕ) (levels : List (Option ℕ)) (b last : ℕ)
    (left : ℕ) (more : 1 < left)
    (known : (x : ℕ) → IsNear lists last x → IsDistance (IsNear lists) x b (left - 1) → level_at levels x ≡ Some (left - 1))
    (right : (x : ℕ) → IsNear lists last x → level_at levels x ≡ Some (left - 1) → IsDistance (IsNear lists) x b (left - 1))
    (far : IsDistance (IsNear lists) last b left) where
  before_left : left ≡ left - 2 + 2
  before_left = omega arith

  nearer_left : left - 2 + 1 ≡ left - 1
  nearer_left = omega arith

  far_two : IsDistance (IsNear lists) last b (left - 2 + 2)
  far_two = subst (λ n. IsDistance (IsNear lists) last b n) before_left far

  -- some class is one nearer
  pub next_there : ((x : ℕ) → IsNear lists last x → level_at levels x ≡ Some (left - 1) → ⊥) → ⊥
  next_there none =
      let n = distance_next (IsNear lists) last b (left - 2) far_two in
      none n.0 n.1.0
      (known n.0 n.1.0 (subst (λ k. IsDistance (IsNear lists) n.0 b k) nearer_left n.1.1))

  module _ (near : ℕ) (h : IsLeastAtLevel (IsNear lists last) (left - 1) levels places near) where
    pub next_distance : IsDistance (IsNear lists) near b (left - 1)
    next_distance = right near h.is_near h.has_level

    is_next : IsNext (IsNear lists) (ComesBefore places) last b (left - 2 + 1) near
    is_next = record {
      successor = h.is_near;
      nearer = subst (λ n. IsDistance (IsNear lists) near b n) (sym nearer_left) next_distance;
      least = λ z e d.
          h.least z e (known z e (subst (λ n. IsDistance (IsNear lists) z b n) nearer_left d));
    }

    longer : (rest : List ℕ) → ShownFrom (IsNear lists) (ComesBefore places) near b rest
        → ShownFrom (IsNear lists) (ComesBefore places) last b (near ∷ rest)
    longer [] s = absurd s
    longer (y ∷ rest) s = ((left - 2, (far_two, is_next)), s)

    -- what comes behind this class comes behind the walk with it
    pub next_shown : (a : ℕ) (walk : List ℕ)
        → ((rest : List ℕ) → ShownFrom (IsNear lists) (ComesBefore places) last b rest
        → IsShownWalk (IsNear lists) (ComesBefore places) a b (walk ++ rest))
        → (rest : List ℕ) → ShownFrom (IsNear lists) (ComesBefore places) near b rest
        → IsShownWalk (IsNear lists) (ComesBefore places) a b ((walk ++ near ∷ []) ++ rest)
    next_shown a walk all rest s =
        subst (λ w. IsShownWalk (IsNear lists) (ComesBefore places) a b w) (sym (append_assoc walk
        (near ∷ []) rest)) (all (near ∷ rest) (longer rest s))

-- a shown walk is one of the same steps
module _ {A : Type 0} (s t before : A → A → Type 0) (same : (a b : A) → s a b ↔ t a b) where
  pub IsDistance-same : (a b : A) (n : ℕ) → IsDistance s a b n → IsDistance t a b n
  IsDistance-same a b n h = DistanceIs-same s t (λ a b. (same a b).0) (λ a b. (same a b).1) a b
      (Some n) h

  pub IsDistance-back : (a b : A) (n : ℕ) → IsDistance t a b n → IsDistance s a b n
  IsDistance-back a b n h = DistanceIs-same t s (λ a b. (same a b).1) (λ a b. (same a b).0) a b
      (Some n) h

  ShownFrom-same : (a b : A) (w : List A) → ShownFrom s before a b w → ShownFrom t before a b w
  ShownFrom-same a b [] h = h
  ShownFrom-same a b (x ∷ []) h = (IsDistance-same a b 1 h.0, h.1)
  ShownFrom-same a b (x ∷ y ∷ more) h = (
    (
      h.0.0,
      (
        IsDistance-same a b (h.0.0 + 2) h.0.1.0,
        record {
          successor = (same a x).0 h.0.1.1.successor;
          nearer = IsDistance-same x b (h.0.0 + 1) h.0.1.1.nearer;
          least = λ z e d. h.0.1.1.least z ((same a z).1 e) (IsDistance-back z b (h.0.0 + 1) d);
        },
      ),
    ),
    ShownFrom-same x b (y ∷ more) h.1,
  )

  pub IsShownWalk-same : (a b : A) (w : List A) → IsShownWalk s before a b w
      → IsShownWalk t before a b w
  IsShownWalk-same a b [] h = h
  IsShownWalk-same a b (x ∷ more) h = (h.0, ShownFrom-same a b more h.1)

  -- and enough is known for it by the one as by the other
  pub AreEnough-same : (a b : A) (distance : A → Option ℕ) → AreEnough s a b distance → AreEnough t a b distance
  AreEnough-same a b distance h = record {
    own = DistanceIs-same s t (λ x y. (same x y).0) (λ x y. (same x y).1) a b (distance a) h.own;
    right = λ c n reached e. IsDistance-same c b n (h.right c n (back a c reached) e);
    nearer = λ c m n reached d e l. h.nearer c m n (back a c reached) (IsDistance-back c b m d) e l;
  }
    where
      back : (x y : A) → Reaches t x y → Reaches s x y
      back x y (inl e) = inl e
      back x y (inr w) = inr (w.0, IsWalk-same t s (λ p q. (same p q).1) x y w.0 w.1)

-- where all distances are known, that is enough
pub AreEnough-all : {A : Type 0} (step : A → A → Type 0) (a b : A) (distance : A → Option ℕ)
    → ((c : A) → DistanceIs step c b (distance c)) → AreEnough step a b distance
AreEnough-all step a b distance each = record {
  own = each a;
  right = λ c n reached e. distance_at step c b (distance c) n (each c) e;
  nearer = λ c m n reached d e l. distance_is step c b (distance c) m (each c) d;
}
