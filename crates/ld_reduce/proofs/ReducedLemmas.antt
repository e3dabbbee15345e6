-- The text of the traces that are kept.
use Rattle.std.proofs.Common.{◌≡◌, ◌∙◌, ◌≤◌, Bool, List, ℕ, None, All, length, arith, ap, sym, subst}
use Rattle.std.proofs.lemmas.List.Elements.{All-filter}
use Rattle.std.proofs.lemmas.List.Sums.{count_by-le-length, length-filter}
use Rattle.ld_trace.specs.Sources.{PlainSource, sources, stream_fault}
use Rattle.ld_trace.specs.declared.source.TheConstants.{LONGEST_STREAM, MOST_TRACES}
use Rattle.ld_batch.specs.Batch.{AreRising}
use Rattle.ld_reduce.specs.Kept.{AreKept, keeps}
use Rattle.ld_reduce.specs.Reduced.{AreNeeded, IsReduced}
use Rattle.ld_reduce.specs.Same.{HaveSameUnion}
use Rattle.ld_reduce.specs.Written.{IsTrace, counted_anew, written}
use Rattle.ld_reduce.proofs.NeededLemmas.{needed-kept}
use Rattle.ld_reduce.proofs.UnionLemmas.{union-kept}
use Rattle.ld_reduce.proofs.WrittenLemmas.{sources-written, written-sound}

module _ (refused : Bool) (all kept : List PlainSource) (are : AreKept refused all kept) (text : List ℕ) (is : text ≡ written kept) where
  pub cut-kept : All IsTrace all → sources text ≡ counted_anew kept
  cut-kept traces =
      ap sources is
      ∙ sources-written kept (subst (λ these. All IsTrace these) (sym are.are) (All-filter (keeps are.is_first refused) IsTrace all traces))

  pub reduced-is : All IsTrace all → IsReduced refused all text
  reduced-is traces = record { kept = kept; are = are; text_is = is; cut = cut-kept traces }

  pub reduced-sound : All IsTrace all → length all ≤ MOST_TRACES → length text ≤ LONGEST_STREAM → stream_fault text ≡ None
  reduced-sound traces few short =
      let own : All IsTrace kept = subst (λ these. All IsTrace these) (sym are.are) (All-filter (keeps are.is_first refused) IsTrace all traces) in
      let fewer : length kept ≤ length all = subst (λ these. length these ≤ length all) (sym are.are) (omega (arith, length-filter (keeps are.is_first refused) all, count_by-le-length (keeps are.is_first refused) all)) in
      ap stream_fault is ∙ written-sound kept own (omega (arith, few, fewer)) (omega (arith, short, ap length is))

  pub reduced-union : All IsTrace all → AreRising all → HaveSameUnion all (sources text)
  reduced-union traces rise = subst (HaveSameUnion all) (sym (cut-kept traces)) (union-kept refused all kept rise are)

  pub reduced-needed : All IsTrace all → AreRising all → AreNeeded refused (sources text)
  reduced-needed traces rise = subst (AreNeeded refused) (sym (cut-kept traces)) (needed-kept refused all kept rise are)
