-- The report and the verdict don't depend on the order of the traces.
use Rattle.std.proofs.Common.{◌≡◌, ◌<◌, ◌++◌, ℕ, List, subst, sym, ap, ◌∙◌}
use Rattle.std.proofs.lemmas.List.Sorted.{IsPermutation-sym, IsPermutation-trans}
use Rattle.std.specs.List.Sorted.{IsPermutation}
use Rattle.ld_trace.specs.Sources.{PlainSource}
use Rattle.ld_book.specs.declared.listing.Totals.{Totals}
use Rattle.ld_book.specs.Totals.{refused_count}
use Rattle.ld_book.specs.Violations.{HasViolation}
use Rattle.ld_book.proofs.PermutedLemmas.{findings-permuted, has_violation-permuted, totals-permuted}
use Rattle.ld_report.specs.declared.verdict.Verdict.{Verdict}
use Rattle.ld_report.specs.declared.verdict.Verdict.TheVariants.{Clean, Refused, Violations}
use Rattle.ld_report.specs.Report.{IsReport, last_line, refused_lines, summary_line, violation_lines, violations}
use Rattle.ld_report.specs.Verdict.{VerdictIs}

module _ (sources listed : List PlainSource) (moved : IsPermutation sources listed) where
  -- the report of the sources in another order is theirs
  pub report-permuted : (text : List ℕ) → IsReport listed text → IsReport sources text
  report-permuted text is = record {
    in_order = is.in_order;
    same = IsPermutation-trans sources listed is.in_order moved is.same;
    rising = is.rising;
    findings = is.findings;
    found = findings-permuted sources listed moved is.findings is.found;
    lines = is.lines ∙ ap (λ (t : Totals). summary_line t ++ refused_lines is.in_order ++ violation_lines is.in_order is.findings ++ last_line
        (violations is.findings)) (totals-permuted sources listed moved);
  }

  -- where there is no violation in one order, there is none in another
  has_none : ¬ HasViolation listed → ¬ HasViolation sources
  has_none none has = none (has_violation-permuted listed sources (IsPermutation-sym sources listed moved) has)

  -- as many are refused
  as_many : refused_count listed ≡ refused_count sources
  as_many = ap (λ (t : Totals). t.refused) (totals-permuted sources listed moved)

  -- the verdict on the sources in another order is theirs
  pub verdict-permuted : (verdict : Verdict) → VerdictIs listed verdict → VerdictIs sources verdict
  verdict-permuted Violations is = has_violation-permuted sources listed moved is
  verdict-permuted Refused is = (has_none is.0, subst (λ n. 0 < n) as_many is.1)
  verdict-permuted Clean is = (has_none is.0, sym as_many ∙ is.1)
