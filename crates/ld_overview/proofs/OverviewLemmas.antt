-- Every class and every dependency, once they are put in order.
use Rattle.std.proofs.Common.{◌≡◌, ◌≢◌, ◌<◌, ◌∙◌, List, ℕ, All, AllPairs, Any, Contains, IsPermutation, IsSortedByKey}
use Rattle.std.proofs.Common.{length, map, get_or, sym, ap, subst, arith}
use Rattle.std.proofs.lemmas.List.{get_or_default, get_or-map, length-map}
use Rattle.std.proofs.lemmas.List.Sorted.{All-permutation}
use Rattle.ld_class.specs.Names.{IsNameAt, PlainClass, no_class, plain_class}
use Rattle.ld_trace.specs.Sources.{PlainSource}
use Rattle.ld_rules.specs.Union.{union_classes}
use Rattle.ld_book.specs.OfUnion.declared.dependencies.Witnessed.{Witnessed}
use Rattle.ld_book.proofs.OfUnion.ByNameLemmas.{element}
use Rattle.ld_book.proofs.OfUnion.NameOrderLemmas.{before_from_less, class_cmp, class_cmp-Decides, class_cmp_total}
use Rattle.ld_book.proofs.OfUnion.SortedLemmas.{Any-permutation, pair_before_from_less, pair_cmp, pair_cmp-Decides, pair_cmp_total, rising}
use Rattle.ld_book.specs.Dependencies.{AreDependencies, class_at, dependency_at}
use Rattle.ld_overview.specs.declared.overview.ClassRow.{ClassRow}
use Rattle.ld_overview.specs.declared.overview.DependencyRow.{DependencyRow}
use Rattle.ld_overview.specs.Overview.{AreClassRows, AreDependencyRows, AreNamedRows, AreNumberedRows, IsClassRow, IsDependencyRow, ends}

-- the element at a place, where this holds of it
any_at : {X : Type 0} (P : X → Type 0) (xs : List X) (k : ℕ) (d : X) → k < length xs → P (get_or xs k d) → Any P xs
any_at P xs k d within holds = (k, get_or xs k d, within, get_or_default xs k (get_or xs k d) d within, holds)

-- the classes in their order in the union, and then by their names
module _ (sources : List PlainSource) (old rows : List ClassRow) (are : AreNumberedRows sources old) (moved : IsPermutation old rows) where
  name_at : (k : ℕ) (d : ClassRow) → k < length old → IsNameAt (union_classes sources) k (plain_class (get_or old k d).class)
  name_at k d within = (
    subst (λ n. k < n) (sym (length-map old (λ row. plain_class row.class)) ∙ ap length are.names) within,
    ap (λ names. get_or names k no_class) (sym are.names) ∙ get_or-map (λ row. plain_class row.class) old k d no_class within,
  )

  apart : AllPairs (λ row other. plain_class row.class ≢ plain_class other.class) old
  apart i j d before within same =
      let at_i : i < length old = omega (arith, before, within) in
      let place : i ≡ j = are.distinct i j (plain_class (get_or old j d).class) (subst (IsNameAt (union_classes sources) i) same (name_at i d at_i)) (name_at j d within) in
      omega (arith, before, place)

  owed_there : (k : PlainClass) → Contains (union_classes sources) k → Any (λ row. plain_class row.class ≡ k) old
  owed_there k there =
      let within : there.0 < length old = subst (λ n. there.0 < n) (ap length (sym are.names) ∙ length-map old (λ row. plain_class row.class)) there.1 in
      let some = element old there.0 within in
      any_at (λ row. plain_class row.class ≡ k) old there.0 some within
      (sym (name_at there.0 some within).1 ∙ get_or_default (union_classes sources) there.0 no_class k there.1 ∙ there.2)

  pub class_rows-sorted : IsSortedByKey (λ row. plain_class row.class) class_cmp rows → AreClassRows sources rows
  class_rows-sorted sorted = record {
    each = All-permutation (IsClassRow sources) old rows moved are.each;
    all = λ k there. Any-permutation (λ row. plain_class row.class ≡ k) old rows moved (owed_there k there);
    ordered = λ i j d before within.
        before_from_less (plain_class (get_or rows i d).class) (plain_class (get_or rows j d).class)
        (rising class_cmp class_cmp_total class_cmp-Decides (λ row. plain_class row.class) old rows moved apart sorted i j d before within);
  }

-- the dependencies in any order, and then by the names of their classes
pub dependency_rows-sorted : (sources : List PlainSource) (old rows : List DependencyRow) → AreNamedRows sources old → IsPermutation old rows
    → IsSortedByKey ends pair_cmp rows → AreDependencyRows sources rows
dependency_rows-sorted sources old rows are moved sorted = record {
  each = All-permutation (IsDependencyRow sources) old rows moved are.each;
  all = λ p owed. Any-permutation (λ row. ends row ≡ p) old rows moved (are.all p owed);
  ordered = λ i j d before within.
      pair_before_from_less (ends (get_or rows i d)) (ends (get_or rows j d))
      (rising pair_cmp pair_cmp_total pair_cmp-Decides ends old rows moved are.once sorted i j d before within);
}

-- rows with names, one for each dependency
module _ (sources : List PlainSource) (dependencies : List Witnessed) (are : AreDependencies sources dependencies) (rows : List DependencyRow)
    (each : All (IsDependencyRow sources) rows) (same : map (λ row. row.edge) rows ≡ map (λ row. row.edge) dependencies) where
  count : length rows ≡ length dependencies
  count = sym (length-map rows (λ row. row.edge)) ∙ ap length same ∙ length-map dependencies (λ row. row.edge)

  -- the names are those of the dependency at the same place
  ends_at : (k : ℕ) (d : DependencyRow) (e : Witnessed) → k < length rows
      → ends (get_or rows k d) ≡ (class_at sources (get_or dependencies k e).edge.from, class_at sources (get_or dependencies k e).edge.to)
  ends_at k d e within =
      let edge : (get_or rows k d).edge ≡ (get_or dependencies k e).edge =
      sym (get_or-map (λ row. row.edge) rows k d e.edge within) ∙ ap (λ edges. get_or edges k e.edge) same
      ∙ get_or-map (λ row. row.edge) dependencies k e e.edge (subst (λ n. k < n) count within) in
      let is = each k d within in
      (λ i. (sym is.from.1 i, sym is.to.1 i)) ∙ (λ i. (class_at sources (edge i).from, class_at sources (edge i).to))

  pub named-from_edges : AreNamedRows sources rows
  named-from_edges = record {
    each = each;
    all = λ p owed.
        let there = are.all (record { from = p.0; to = p.1 }) owed in
        let within : there.0 < length rows = subst (λ n. there.0 < n) (sym count) there.2 in
        let some = element rows there.0 within in
        let is = ap (λ (row : Witnessed). dependency_at sources row.edge) there.3 ∙ there.4 in
        any_at (λ row. ends row ≡ p) rows there.0 some within (ends_at there.0 some there.1 within ∙ (λ i. ((is i).from, (is i).to)));
    once = λ i j d before within equal.
        let at_i : i < length rows = omega (arith, before, within) in
        let there : j < length dependencies = subst (λ n. j < n) count within in
        let e = element dependencies j there in
        let pair = sym (ends_at i d e at_i) ∙ equal ∙ ends_at j d e within in
        are.once i j e before there (λ t. record { from = (pair t).0; to = (pair t).1 });
  }
