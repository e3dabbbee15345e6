use Rattle.std.proofs.Common.{IfOk, subst, ◌↔◌, ◌∙◌}
use Rattle.ld_trace.specs.Sources.{sources}
use Rattle.ld_report.specs.OfBook.Violations.{HasViolation}
use Rattle.ld_report.specs.Report.{SaysClean}
use Rattle.ld_report.specs.Verdict.{VerdictIs}
use Rattle.ld_check.proofs.running.report_whole.Goals as goal

pub returns-clause-clean : goal.returns-clause-clean
returns-clause-clean g c =
    subst (λ all. IfOk c.report_of.result (λ report. SaysClean report.text.items ↔ (¬ HasViolation (sources all)))) (c.deref.ensures.value ∙ c.in_ok-bytes.ensures) c.report_of.ensures.clean

pub returns-clause-verdict : goal.returns-clause-verdict
returns-clause-verdict g c =
    subst (λ all. IfOk c.report_of.result (λ report. VerdictIs (sources all) report.verdict)) (c.deref.ensures.value ∙ c.in_ok-bytes.ensures) c.report_of.ensures.verdict
