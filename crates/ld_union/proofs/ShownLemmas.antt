-- Shown walks of numbers as shown walks of names.
use Rattle.std.proofs.Common.{◌≡◌, ◌<◌, ◌≤◌, ◌+◌, All, List, ℕ, suc, [], ◌∷◌, length, map, refl, sym, ap, subst, ◌∙◌}
use Rattle.std.proofs.lemmas.List.{length-map}
use Rattle.std.proofs.lemmas.List.Elements.{All-cons, All-nil}
use Rattle.ld_class.specs.Names.{PlainClass}
use Rattle.ld_graph.specs.Edges.{ComesBefore, IsEdge}
use Rattle.ld_graph.specs.Walks.{IsDistance, IsNext, IsShownWalk, IsWalk, LeadsTo, ShownFrom}
use Rattle.ld_trace.specs.Sources.{PlainSource}
use Rattle.ld_rules.specs.Union.{dependency_witness}
use Rattle.ld_union.specs.declared.dependencies.Witnessed.{Witnessed}
use Rattle.ld_union.specs.Findings.{IsBefore, IsShown}
use Rattle.ld_union.specs.Inner.ByName.{AreByName, class_name}
use Rattle.ld_union.specs.Inner.Union.{AreBetween, AreWitnessed, edges_of}
use Rattle.ld_union.specs.Violations.{Depends}
use Rattle.ld_union.proofs.NumberLemmas.{depends_from_edge, edge_from_depends}
use Rattle.ld_union.proofs.ByNameLemmas.{comes_before_from_before}
use Rattle.ld_union.proofs.UnionLemmas.{ends_of_edge}

-- a walk goes on by a step before it
LeadsTo-cons : {A : Type 0} (s : A → A → Type 0) (a x b : A) (w : List A) → s a x → LeadsTo s x b w → LeadsTo s a b (x ∷ w)
LeadsTo-cons s a x b [] step h = absurd h
LeadsTo-cons s a x b (y ∷ more) step h = (step, h)

-- the classes of a shown walk lie where its ends and the ends of all steps do
module _ {A : Type 0} (s before : A → A → Type 0) (Within : A → Type 0) (ends : (x y : A) → s x y → Within y) where
  ShownFrom-within : (a b : A) (w : List A) → Within b → ShownFrom s before a b w → All Within w
  ShownFrom-within a b [] at_b h = absurd h
  ShownFrom-within a b (x ∷ []) at_b h = All-cons Within x [] (subst Within (sym h.1) at_b) (All-nil Within)
  ShownFrom-within a b (x ∷ y ∷ more) at_b h = All-cons Within x (y ∷ more) (ends a x h.0.1.1.successor) (ShownFrom-within x b (y ∷ more) at_b h.1)

  IsShownWalk-within : (a b : A) (w : List A) → Within a → Within b → IsShownWalk s before a b w → All Within w
  IsShownWalk-within a b [] at_a at_b h = absurd h
  IsShownWalk-within a b (x ∷ more) at_a at_b h = All-cons Within x more (subst Within (sym h.0) at_a) (ShownFrom-within a b more at_b h.1)

-- Classes of one kind stand for those of another, each within some of them for another one: a step is
-- a step, a step from what a class stands for is a step of that class, and the order is kept.
module _ {A B : Type 0} (f : A → B) (Within : A → Type 0) (s : A → A → Type 0) (t : B → B → Type 0)
    (keeps : (x y : A) → s x y → t (f x) (f y)) (ends : (x y : A) → s x y → Within y)
    (comes : (x : A) (q : B) → Within x → t (f x) q → (y : A) × (s x y × (f y ≡ q)))
    (once : (x y : A) → Within x → Within y → f x ≡ f y → x ≡ y) where
  LeadsTo-map : (a b : A) (w : List A) → LeadsTo s a b w → LeadsTo t (f a) (f b) (map f w)
  LeadsTo-map a b [] h = h
  LeadsTo-map a b (x ∷ []) h = (keeps a x h.0, ap f h.1)
  LeadsTo-map a b (x ∷ y ∷ more) h = (keeps a x h.0, LeadsTo-map x b (y ∷ more) h.1)

  -- what stands for a walk is a walk
  pub IsWalk-map : (a b : A) (w : List A) → IsWalk s a b w → IsWalk t (f a) (f b) (map f w)
  IsWalk-map a b [] h = h
  IsWalk-map a b (x ∷ more) h = (ap f h.0, LeadsTo-map a b more h.1)

  LeadsTo-back : (a b : A) (v : List B) → Within a → Within b → LeadsTo t (f a) (f b) v → (w : List A) × (LeadsTo s a b w × (length w ≡ length v))
  LeadsTo-back a b [] at_a at_b h = absurd h
  LeadsTo-back a b (p ∷ []) at_a at_b h =
      let next = comes a p at_a h.0 in
      (next.0 ∷ [], ((next.1.0, once next.0 b (ends a next.0 next.1.0) at_b (next.1.1 ∙ h.1)), refl))
  LeadsTo-back a b (p ∷ q ∷ more) at_a at_b h =
      let next = comes a p at_a h.0 in
      let rest = LeadsTo-back next.0 b (q ∷ more) (ends a next.0 next.1.0) at_b (subst (λ r. LeadsTo t r (f b) (q ∷ more)) (sym next.1.1) h.1) in
      (next.0 ∷ rest.0, (LeadsTo-cons s a next.0 b rest.0 next.1.0 rest.1.0, ap suc rest.1.1))

  -- and each walk between what two classes stand for is as long as one between these
  pub IsWalk-back : (a b : A) (v : List B) → Within a → Within b → IsWalk t (f a) (f b) v → (w : List A) × (IsWalk s a b w × (length w ≡ length v))
  IsWalk-back a b [] at_a at_b h = absurd h
  IsWalk-back a b (p ∷ more) at_a at_b h =
      let rest = LeadsTo-back a b more at_a at_b h.1 in
      (a ∷ rest.0, ((refl, rest.1.0), ap suc rest.1.1))

  -- so the distances are the same
  pub IsDistance-map : (a b : A) (n : ℕ) → Within a → Within b → IsDistance s a b n → IsDistance t (f a) (f b) n
  IsDistance-map a b n at_a at_b h = record {
    reached = (map f h.reached.0, (IsWalk-map a b h.reached.0 h.reached.1.0, length-map h.reached.0 f ∙ h.reached.1.1));
    least = λ v walk. let back = IsWalk-back a b v at_a at_b walk in subst (λ k. n + 1 ≤ k) back.1.1 (h.least back.0 back.1.0);
  }

  pub IsDistance-back : (a b : A) (n : ℕ) → Within a → Within b → IsDistance t (f a) (f b) n → IsDistance s a b n
  IsDistance-back a b n at_a at_b h =
      let back = IsWalk-back a b h.reached.0 at_a at_b h.reached.1.0 in
      record {
        reached = (back.0, (back.1.0, back.1.1 ∙ h.reached.1.1));
        least = λ w walk. subst (λ k. n + 1 ≤ k) (length-map w f) (h.least (map f w) (IsWalk-map a b w walk));
      }

  module _ (before : A → A → Type 0) (named_before : B → B → Type 0)
      (order : (x y : A) → Within x → Within y → named_before (f x) (f y) → before x y) where
    IsNext-map : (a b : A) (n : ℕ) (y : A) → Within a → Within b → IsNext s before a b n y → IsNext t named_before (f a) (f b) n (f y)
    IsNext-map a b n y at_a at_b h = record {
      successor = keeps a y h.successor;
      nearer = IsDistance-map y b n at_y at_b h.nearer;
      least = λ z step near earlier.
          let found = comes a z at_a step in
          let at_z = ends a found.0 found.1.0 in
          h.least found.0 found.1.0 (IsDistance-back found.0 b n at_z at_b (subst (λ q. IsDistance t q (f b) n) (sym found.1.1) near))
          (order found.0 y at_z at_y (subst (λ q. named_before q (f y)) (sym found.1.1) earlier));
    }
      where
        at_y : Within y
        at_y = ends a y h.successor

    ShownFrom-map : (a b : A) (w : List A) → Within a → Within b → ShownFrom s before a b w → ShownFrom t named_before (f a) (f b) (map f w)
    ShownFrom-map a b [] at_a at_b h = h
    ShownFrom-map a b (x ∷ []) at_a at_b h = (IsDistance-map a b 1 at_a at_b h.0, ap f h.1)
    ShownFrom-map a b (x ∷ y ∷ more) at_a at_b h =
        let n = h.0.0 in
        let next = h.0.1.1 in (
          (n, (IsDistance-map a b (n + 2) at_a at_b h.0.1.0, IsNext-map a b (n + 1) x at_a at_b next)),
          ShownFrom-map x b (y ∷ more) (ends a x next.successor) at_b h.1,
        )

    -- and what stands for a shown walk is a shown walk
    pub IsShownWalk-map : (a b : A) (w : List A) → Within a → Within b → IsShownWalk s before a b w → IsShownWalk t named_before (f a) (f b) (map f w)
    IsShownWalk-map a b [] at_a at_b h = h
    IsShownWalk-map a b (x ∷ more) at_a at_b h = (ap f h.0, ShownFrom-map a b more at_a at_b h.1)

-- names for numbers
module _ (classes : List PlainClass) (rows : List Witnessed) (is : AreBetween classes rows) where
  abbrev IsClass : ℕ → Type 0
  IsClass c = c < length classes

  ends : (x y : ℕ) → IsEdge (edges_of rows) x y → IsClass y
  ends x y there = (ends_of_edge classes rows is x y there).1

  -- two classes have two names
  name-once : (x y : ℕ) → IsClass x → IsClass y → class_name classes x ≡ class_name classes y → x ≡ y
  name-once x y at_x at_y same = is.distinct x y (class_name classes y) (at_x, same) (at_y, refl)

  -- the numbers of a shown walk are classes
  pub shown_within : (places : List ℕ) (a b : ℕ) (walk : List ℕ) → IsClass a → IsClass b → IsShownWalk (IsEdge (edges_of rows)) (ComesBefore places) a b walk → All IsClass walk
  shown_within places = IsShownWalk-within (IsEdge (edges_of rows)) (ComesBefore places) IsClass ends

  module _ (sources : List PlainSource) (witnessed : AreWitnessed classes rows (dependency_witness sources)) where
    keeps : (x y : ℕ) → IsEdge (edges_of rows) x y → Depends sources (class_name classes x) (class_name classes y)
    keeps = depends_from_edge classes rows is sources witnessed

    -- each class on which a class's name depends has a number
    comes : (x : ℕ) (q : PlainClass) → IsClass x → Depends sources (class_name classes x) q → (y : ℕ) × (IsEdge (edges_of rows) x y × (class_name classes y ≡ q))
    comes x q at_x depends =
        let found = edge_from_depends classes rows is sources witnessed (class_name classes x) q depends in
        let ends_there = found.1.1 in
        let same : found.0 ≡ x = name-once found.0 x ends_there.0.0 at_x ends_there.0.1 in
        (found.1.0, (subst (λ p. IsEdge (edges_of rows) p found.1.0) same ends_there.2, ends_there.1.1))

    -- the shown walk of two numbers is that of their names
    pub shown_named : (numbers places : List ℕ) → AreByName classes numbers places → (a b : ℕ) (walk : List ℕ) → IsClass a → IsClass b
        → IsShownWalk (IsEdge (edges_of rows)) (ComesBefore places) a b walk → IsShown sources (class_name classes a) (class_name classes b) (map (class_name classes) walk)
    shown_named numbers places order a b walk at_a at_b shown =
        IsShownWalk-map (class_name classes) IsClass (IsEdge (edges_of rows)) (Depends sources) keeps ends comes name-once (ComesBefore places) IsBefore
        (comes_before_from_before classes numbers places order) a b walk at_a at_b shown
