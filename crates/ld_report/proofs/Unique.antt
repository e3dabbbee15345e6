-- Sources have one report.
use Rattle.std.proofs.Common.{◌≡◌, ◌<◌, ◌∙◌, List, ℕ, Contains, arith, sym}
use Rattle.std.proofs.lemmas.List.Sorted.{Contains-permutation, IsPermutation-sym}
use Rattle.std.specs.List.Sorted.{IsPermutation}
use Rattle.ld_trace.specs.Sources.{PlainSource}
use Rattle.ld_book.proofs.OfUnion.UniqueLemmas.{findings-same, ordered-same}
use Rattle.ld_report.specs.Report.{IsReport, report_text}

module _ (sources : List PlainSource) where
  -- they stand in the order of their numbers in one way
  order-same : (xs ys : List PlainSource) → IsPermutation sources xs → IsPermutation sources ys → (z : PlainSource) → Contains xs z → Contains ys z
  order-same xs ys p q z there = Contains-permutation sources ys z q (Contains-permutation xs sources z (IsPermutation-sym sources xs p) there)

  -- so there is one report of them
  pub report-same : (t u : List ℕ) → IsReport sources t → IsReport sources u → t ≡ u
  report-same t u p q = p.lines ∙ (λ i. report_text sources (in_order i) (findings-same sources p.findings q.findings p.found q.found i)) ∙ sym q.lines
    where
      in_order : p.in_order ≡ q.in_order
      in_order = ordered-same (λ a b. a.number < b.number) (λ a b lower higher. omega (arith, lower, higher)) p.in_order q.in_order p.rising q.rising
          (order-same p.in_order q.in_order p.same q.same) (order-same q.in_order p.in_order q.same p.same)
