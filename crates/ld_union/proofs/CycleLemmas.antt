-- Dependencies on cycles, by the numbers of their classes, and the walks that their rows show.
use Rattle.std.proofs.Common.{◌≡◌, ◌≢◌, ◌⊎◌, inl, inr, ◌<◌, List, ℕ, false, [], ◌∷◌, Option, None, Some, is_some, get_or, length, refl, sym, ap, subst, ◌∙◌}
use Rattle.std.proofs.lemmas.Bool.{true≢false, cases_eq}
use Rattle.ld_class.specs.Names.{IsNameAt, PlainClass}
use Rattle.ld_graph.specs.Edges.{IsEdge}
use Rattle.ld_graph.specs.Components.{AreComponents, AreTogether}
use Rattle.ld_graph.specs.Walks.{DistanceIs, HasWalk, IsShownWalk}
use Rattle.ld_graph.proofs.WalkLemmas.{HasWalk-Far}
use Rattle.ld_trace.specs.Sources.{PlainSource}
use Rattle.ld_rules.specs.Union.{dependency_witness}
use Rattle.ld_union.specs.declared.dependencies.Witnessed.{Witnessed}
use Rattle.ld_union.specs.Findings.{IsBefore, IsShown, PlainCycleRow}
use Rattle.ld_union.specs.Inner.ByName.{class_name}
use Rattle.ld_union.specs.Inner.Rows.{IsCycleRowOf}
use Rattle.ld_union.specs.Inner.Union.{AreBetween, AreWitnessed, edges_of}
use Rattle.ld_union.specs.Violations.{Depends, IsCycle, Leads}
use Rattle.ld_union.proofs.NumberLemmas.{depends_from_edge, edge_from_depends, edge_from_named, walk_from_leads}

module _ {A : Type 0} (step before : A → A → Type 0) where
  -- a shown walk is a walk
  pub HasWalk-shown : (a b : A) (walk : List A) → IsShownWalk step before a b walk → HasWalk step a b
  HasWalk-shown a b [] shown = absurd shown
  HasWalk-shown a b (x ∷ []) shown = absurd shown.1
  HasWalk-shown a b (x ∷ y ∷ []) shown = (shown.1.0.reached.0, shown.1.0.reached.1.0)
  HasWalk-shown a b (x ∷ y ∷ z ∷ more) shown = (shown.1.0.1.0.reached.0, shown.1.0.1.0.reached.1.0)

-- no walk, where there is no distance
pub no_walk : {A : Type 0} (step : A → A → Type 0) (a b : A) (distance : Option ℕ) → DistanceIs step a b distance → is_some distance ≡ false → ¬ HasWalk step a b
no_walk step a b None is none = is
no_walk step a b (Some n) is none = absurd (true≢false none)

module _ (classes : List PlainClass) (rows : List Witnessed) (is : AreBetween classes rows)
    (sources : List PlainSource) (witnessed : AreWitnessed classes rows (dependency_witness sources)) where
  -- no cycle, where there is no edge
  pub no_cycle-edge : (a b : ℕ) → a < length classes → b < length classes → ¬ IsEdge (edges_of rows) a b → ¬ IsCycle sources (class_name classes a) (class_name classes b)
  no_cycle-edge a b at_a at_b none cycle =
      none (edge_from_named classes rows is sources witnessed a b (class_name classes a) (class_name classes b) (at_a, refl) (at_b, refl) cycle.0)

  -- nor where there is no walk back
  pub no_cycle-walk : (a b : ℕ) → a < length classes → b < length classes → ¬ HasWalk (IsEdge (edges_of rows)) b a → ¬ IsCycle sources (class_name classes a) (class_name classes b)
  no_cycle-walk a b at_a at_b none cycle =
      none (walk_from_leads classes rows is sources witnessed b a (class_name classes b) (class_name classes a) (at_b, refl) (at_a, refl) cycle.1)

  -- nor where an edge has none
  pub no_cycle-back : (a b : ℕ) → a < length classes → b < length classes → (IsEdge (edges_of rows) a b → ¬ HasWalk (IsEdge (edges_of rows)) b a)
      → ¬ IsCycle sources (class_name classes a) (class_name classes b)
  no_cycle-back a b at_a at_b none cycle =
      none (edge_from_named classes rows is sources witnessed a b (class_name classes a) (class_name classes b) (at_a, refl) (at_b, refl) cycle.0)
      (walk_from_leads classes rows is sources witnessed b a (class_name classes b) (class_name classes a) (at_b, refl) (at_a, refl) cycle.1)

  -- a dependency on a cycle that leaves a class is an edge with a walk back
  pub back-from_cycle : (a : ℕ) (to : PlainClass) → a < length classes → IsCycle sources (class_name classes a) to
      → (b : ℕ) × (IsNameAt classes b to × (IsEdge (edges_of rows) a b × HasWalk (IsEdge (edges_of rows)) b a))
  back-from_cycle a to at_a cycle =
      let found = edge_from_depends classes rows is sources witnessed (class_name classes a) to cycle.0 in
      let b = found.1.0 in
      let same : found.0 ≡ a = is.distinct found.0 a (class_name classes a) found.1.1.0 (at_a, refl) in (
        b,
        (
          found.1.1.1,
          (
            subst (λ q. IsEdge (edges_of rows) q b) same found.1.1.2,
            walk_from_leads classes rows is sources witnessed b a to (class_name classes a) found.1.1.1 (at_a, refl) cycle.1,
          ),
        ),
      )

  -- the row of an edge from a class to itself, or with a shown walk back
  pub cycle-row : (a b : ℕ) (row : PlainCycleRow) → a < length classes → b < length classes → IsEdge (edges_of rows) a b
      → row.from ≡ class_name classes a → row.to ≡ class_name classes b → dependency_witness sources (record { from = class_name classes a; to = class_name classes b }) ≡ Some row.at
      → (b ≡ a → row.via ≡ []) → (b ≢ a → IsShown sources (class_name classes b) (class_name classes a) row.via)
      → IsCycleRowOf sources (class_name classes a) (class_name classes b) row
  cycle-row a b row at_a at_b there from to at none shown = (
    record {
      cycle = subst (λ n. IsCycle sources n row.to) (sym from) (subst (IsCycle sources (class_name classes a)) (sym to) (depends, back (cases_eq b a)));
      at = ap (dependency_witness sources) (λ i. record { from = from i; to = to i }) ∙ at;
      recursion = λ same. none (is.distinct b a (class_name classes a) (at_b, sym to ∙ sym same ∙ from) (at_a, refl));
      shown = λ differs. subst (λ n. IsShown sources n row.from row.via) (sym to) (subst (λ n. IsShown sources (class_name classes b) n row.via) (sym from)
          (shown (λ same. differs (from ∙ ap (class_name classes) (sym same) ∙ sym to))));
    },
    λ i. (from i, to i),
  )
    where
      depends : Depends sources (class_name classes a) (class_name classes b)
      depends = depends_from_edge classes rows is sources witnessed a b there

      back : (b ≡ a) ⊎ (b ≢ a) → Leads sources (class_name classes b) (class_name classes a)
      back (inl same) = HasWalk-Far (Depends sources) 0 (class_name classes b) (class_name classes a)
          (subst {A = PlainClass × PlainClass} (λ p. Depends sources p.0 p.1) (λ i. (class_name classes (sym same i), class_name classes (same i))) depends)
      back (inr differs) = HasWalk-shown (Depends sources) IsBefore (class_name classes b) (class_name classes a) row.via (shown differs)

-- an edge has a walk back exactly where it stays in a component
module _ (step : ℕ → ℕ → Type 0) (n : ℕ) (components : List ℕ) (are : AreComponents step n components) (a b : ℕ) (at_a : a < n) (at_b : b < n)
    (there : step a b) where
  pub back-together : get_or components b 0 ≡ get_or components a 0 → HasWalk step b a
  back-together same = by ((are.each b a at_b at_a).0 same)
    where
      by : AreTogether step b a → HasWalk step b a
      by (inl e) = HasWalk-Far step 0 b a (subst (λ x. step b x) e (subst (λ x. step x b) (sym e) there))
      by (inr w) = w.0

  pub together-back : HasWalk step b a → get_or components b 0 ≡ get_or components a 0
  together-back walk = (are.each b a at_b at_a).1 (inr (walk, HasWalk-Far step 0 a b there))
