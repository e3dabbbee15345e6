-- What a book keeps when the traces of a batch are added.
use Rattle.std.proofs.Common.{◌≡◌, ◌≢◌, ◌+◌, ◌*◌, ◌<◌, ◌≤◌, ◌++◌, All, AllPairs, Any, Contains, List, Some, IsSome, get_or, length, sym, ap, subst, arith, length-append}
use Rattle.ld_trace.specs.Sources.{PlainSource}
use Rattle.ld_rules.specs.Dependency.{Dependency}
use Rattle.ld_rules.specs.Union.{dependency_witness, union_classes}
use Rattle.ld_rules.specs.declared.outcome.TheConstants.{MOST_CLASSES}
use Rattle.ld_batch.specs.Batch.{AreFewClasses, AreRising, IsShown, PlainShown}
use Rattle.ld_book.specs.Dependencies.{AreDependencies}
use Rattle.ld_book.specs.Inner.Kept.{Fields, IsKept}
use Rattle.ld_union.specs.Inner.Numbers.{AreFound}
use Rattle.ld_union.specs.Usage.{bits_of}
use Rattle.ld_union.specs.Inner.Union.{Adds, PlainUnion, Shows, edges_of, named_edge}
use Rattle.ld_union.proofs.UnionLemmas.{apart_rows, ends_of_row}

-- no two sources whose numbers rise have one number
pub apart_from_rise : (sources : List PlainSource) → AreRising sources → AllPairs (λ a b. a.number ≢ b.number) sources
apart_from_rise sources rise i j d low within same = let rises = rise i j d low within in omega (arith, rises, same)

-- what is kept of some traces and those of a batch, behind which all are among them
pub kept-added : (old new : Fields) (batch : PlainShown) → IsKept old → IsShown batch → AreFewClasses batch → All (Contains old.sources) batch.behind
    → Adds batch.behind batch.sources old.union new.union → new.sources ≡ old.sources ++ batch.sources
    → AreFound (edges_of new.union.dependencies) (bits_of new.union.usage) new.found → IsKept new
kept-added old new batch is exact few there adds sources found = record {
  shows = subst (λ all. Shows all new.union) (sym sources) (adds.shows old.sources is.shows there);
  few =
      let were : length old.union.classes ≤ length old.sources * MOST_CLASSES = is.few in
      let since : length batch.classes ≤ length (union_classes batch.behind) + length batch.sources * MOST_CLASSES = few.since in
      let more : length new.union.classes + length (union_classes batch.behind) ≤ length old.union.classes + length (union_classes (batch.behind ++ batch.sources)) =
      adds.few old.sources is.shows there in
      omega (arith, were, since, more, ap length exact.classes, ap length sources, length-append old.sources batch.sources);
  exact = found;
}

-- the rows of a union that shows what these sources do
pub dependencies_shown : (union : PlainUnion) (sources : List PlainSource) → Shows sources union → AreDependencies sources union.dependencies
dependencies_shown union sources shows =
    let rows = union.dependencies in record {
      within = λ k d below.
          subst (λ classes. ((get_or rows k d).edge.from < length classes) × ((get_or rows k d).edge.to < length classes)) shows.classes (ends_of_row union.classes rows shows.numbered k d below);
      witness = subst (λ classes. All (λ row. dependency_witness sources (named_edge classes row.edge) ≡ Some row.first) rows) shows.classes shows.witnesses.each;
      all = subst (λ classes. (what : Dependency) → IsSome (dependency_witness sources what) → Any (λ row. named_edge classes row.edge ≡ what) rows) shows.classes shows.witnesses.all;
      once = λ i j d before below.
          subst (λ classes. named_edge classes (get_or rows i d).edge ≢ named_edge classes (get_or rows j d).edge) shows.classes (apart_rows union.classes rows shows.numbered i j d before below);
    }
