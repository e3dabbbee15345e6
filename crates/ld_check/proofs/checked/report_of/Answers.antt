use Rattle.std.proofs.lemmas.Result.{IfOk-weaker}
use Rattle.ld_trace.specs.Sources.{sources, stream_fault}
use Rattle.ld_report.proofs.CleanLemmas.{says_clean}
use Rattle.ld_report.proofs.Permuted.{report-permuted, verdict-permuted}
use Rattle.ld_check.proofs.StreamFaults.{none_where_checked}
use Rattle.ld_check.proofs.checked.report_of.Goals as goal

pub returns-clause-text : goal.returns-clause-text
returns-clause-text g c =
    IfOk-weaker c.report_on-report.result _ _
    (λ report is. report-permuted (sources c.args.bytes.now) c.in_ok-checked.checked.book c.in_ok-checked.ensures.book report.text.items is)
    c.report_on-report.ensures.text

pub returns-clause-clean : goal.returns-clause-clean
returns-clause-clean g c =
    IfOk-weaker c.report_on-report.result _ _
    (λ report is. says_clean (sources c.args.bytes.now) report.text.items
    (report-permuted (sources c.args.bytes.now) c.in_ok-checked.checked.book c.in_ok-checked.ensures.book report.text.items is))
    c.report_on-report.ensures.text

pub returns-clause-verdict : goal.returns-clause-verdict
returns-clause-verdict g c =
    IfOk-weaker c.report_on-report.result _ _
    (λ report is. verdict-permuted (sources c.args.bytes.now) c.in_ok-checked.checked.book c.in_ok-checked.ensures.book report.verdict is)
    c.report_on-report.ensures.verdict

pub returns-clause-fault : goal.returns-clause-fault
returns-clause-fault g c = rw (none_where_checked (stream_fault c.args.bytes.now) c.check.result c.in_ok-checked.checked c.check.ensures.fault c.in_ok-checked.was) tt
