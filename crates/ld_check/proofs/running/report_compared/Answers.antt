use Rattle.std.proofs.Common.{map}
use Rattle.std.proofs.lemmas.Result.{IfOk-weaker}
use Rattle.ld_trace.specs.Sources.{plain}
use Rattle.ld_report.proofs.CleanLemmas.{says_clean}
use Rattle.ld_report.proofs.Permuted.{report-permuted, verdict-permuted}
use Rattle.ld_check.proofs.running.report_compared.Goals as goal

pub returns-clause-text : goal.returns-clause-text
returns-clause-text c =
    IfOk-weaker c.report_on.result _ _
    (λ report is. report-permuted (map plain c.args.traces.now) c.args.book.now c.in_ok-compared.ensures report.text.items is)
    c.report_on.ensures.text

pub returns-clause-clean : goal.returns-clause-clean
returns-clause-clean c =
    IfOk-weaker c.report_on.result _ _
    (λ report is. says_clean (map plain c.args.traces.now) report.text.items
    (report-permuted (map plain c.args.traces.now) c.args.book.now c.in_ok-compared.ensures report.text.items is))
    c.report_on.ensures.text

pub returns-clause-verdict : goal.returns-clause-verdict
returns-clause-verdict c =
    IfOk-weaker c.report_on.result _ _
    (λ report is. verdict-permuted (map plain c.args.traces.now) c.args.book.now c.in_ok-compared.ensures report.verdict is)
    c.report_on.ensures.verdict
