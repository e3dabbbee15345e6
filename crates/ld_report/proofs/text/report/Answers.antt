use Rattle.std.proofs.Common.{rules}
use Rattle.std.proofs.lemmas.Result.{IfOk-weaker}
use Rattle.ld_book.specs.Findings.{plain_findings}
use Rattle.ld_report.proofs.CleanLemmas.{says_clean}
use Rattle.ld_report.proofs.QuietLemmas.{quiet_report}
use Rattle.ld_report.proofs.text.report.Goals as goal

pub returns-clause-clean : goal.returns-clause-clean
returns-clause-clean c = IfOk-weaker c.text_of.result _ _ (λ text lines. says_clean c.args.book.now text.items (search rules)) c.text_of.ensures

pub returns-then-count_of-eq0-clause-text : goal.returns-then-count_of-eq0-clause-text
returns-then-count_of-eq0-clause-text c =
    IfOk-weaker c.quiet_text.result _ _
    (λ text lines. quiet_report c.args.book.now (plain_findings c.in_ok-findings.findings) c.totals-totals.result c.count_of.result text.items c.in_ok-findings.ensures.rows
    c.totals-totals.ensures.distinct c.totals-totals.ensures.totals c.count_of.ensures (search rules) (search rules) lines)
    c.quiet_text.ensures

pub returns-then-count_of-eq0-clause-clean : goal.returns-then-count_of-eq0-clause-clean
returns-then-count_of-eq0-clause-clean c =
    IfOk-weaker c.quiet_text.result _ _
    (λ text lines. says_clean c.args.book.now text.items
    (quiet_report c.args.book.now (plain_findings c.in_ok-findings.findings) c.totals-totals.result c.count_of.result text.items c.in_ok-findings.ensures.rows
    c.totals-totals.ensures.distinct c.totals-totals.ensures.totals c.count_of.ensures (search rules) (search rules) lines))
    c.quiet_text.ensures
