-- A report in which nothing is told of a single trace.
use Rattle.std.proofs.Common.{◌≡◌, ◌+◌, ◌++◌, [], ◌∷◌, List, ℕ, arith, cond, refl, sym, ap, ◌∙◌}
use Rattle.std.proofs.lemmas.List.{append-nil, nil_from_length}
use Rattle.std.proofs.lemmas.List.Sorted.{sum_by-IsPermutation}
use Rattle.std.proofs.lemmas.List.Sums.{sum_by-cons}
use Rattle.ld_trace.specs.Sources.{PlainSource}
use Rattle.ld_rules.specs.declared.outcome.Outcome.{Outcome}
use Rattle.ld_rules.specs.declared.outcome.Outcome.TheVariants.{Read, Refused}
use Rattle.ld_rules.specs.Outcome.{outcome}
use Rattle.ld_book.specs.declared.listing.Totals.{Totals}
use Rattle.ld_book.specs.Findings.{AreFindings, PlainFindings}
use Rattle.ld_book.specs.Totals.{is_refused, refused_count, totals}
use Rattle.ld_book.proofs.RisingLemmas.{AreApart}
use Rattle.ld_report.specs.Report.{IsReport, last_line, refused_lines, report_text, summary_line, violation_lines, violations}
use Rattle.ld_report.proofs.OrderLemmas.{in_order}

-- where no source is refused there is no line of one
none_refused : (sources : List PlainSource) → refused_count sources ≡ 0 → refused_lines sources ≡ []
none_refused [] none = refl
none_refused (source ∷ sources) none = by (outcome source) refl (none_refused sources)
  where
    counts : Outcome → ℕ
    counts what = cond (is_refused what) 1 0

    both : counts (outcome source) + refused_count sources ≡ 0
    both = sym (sum_by-cons (λ s. counts (outcome s)) source sources) ∙ none

    by : (what : Outcome) → outcome source ≡ what → (refused_count sources ≡ 0 → refused_lines sources ≡ []) → refused_lines (source ∷ sources) ≡ []
    by (Read events) is others = rw is (others (omega (arith, both)))
    by (Refused line fault) is others = let one : counts (outcome source) ≡ 1 = ap counts is in absurd (omega (arith, both, one))

-- nor is there a line of a violation where there is none
no_lines : (sources : List PlainSource) (findings : PlainFindings) → violations findings ≡ 0 → violation_lines sources findings ≡ []
no_lines sources findings none =
    rw (nil_from_length findings.cycles (omega (arith, none)), nil_from_length findings.conflicts (omega (arith, none)), nil_from_length findings.forbidden (omega (arith, none))) refl

-- so the first line and the last one are the report
pub quiet_report : (sources : List PlainSource) (findings : PlainFindings) (all : Totals) (count : ℕ) (text : List ℕ) → AreFindings sources findings → AreApart sources
    → all ≡ totals sources → count ≡ violations findings → all.refused ≡ 0 → count ≡ 0 → text ≡ summary_line all ++ last_line 0 → IsReport sources text
quiet_report sources findings all count text found apart all_is count_is unrefused none lines =
    let rising = in_order sources apart in
    let refused : refused_count rising.0 ≡ 0 = sum_by-IsPermutation (λ s. cond (is_refused (outcome s)) 1 0) sources rising.0 rising.1.0 ∙ sym (ap (λ t. t.refused) all_is) ∙ unrefused in
    let no_violation : violations findings ≡ 0 = sym count_is ∙ none in
    let bare : report_text sources rising.0 findings ≡ summary_line (totals sources) ++ last_line 0 =
    rw (none_refused rising.0 refused, no_lines rising.0 findings no_violation, no_violation)
    (ap (λ t. t ++ last_line 0) (append-nil (summary_line (totals sources) ++ []) ∙ append-nil (summary_line (totals sources)))) in
    record {
      in_order = rising.0;
      same = rising.1.0;
      rising = rising.1.1;
      findings = findings;
      found = found;
      lines = lines ∙ ap (λ t. summary_line t ++ last_line 0) all_is ∙ sym bare;
    }
