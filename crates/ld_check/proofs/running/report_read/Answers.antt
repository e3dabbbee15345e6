use Rattle.std.proofs.Common.{IfOk, subst, ◌↔◌}
use Rattle.ld_report.specs.OfBook.Violations.{HasViolation}
use Rattle.ld_report.specs.Report.{SaysClean}
use Rattle.ld_report.specs.Verdict.{VerdictIs}
use Rattle.ld_check.proofs.running.report_read.Goals as goal

pub returns-in-Some-clause-clean : goal.returns-in-Some-clause-clean
returns-in-Some-clause-clean g c =
    subst (λ traces. IfOk c.report_by.result (λ report. SaysClean report.text.items ↔ (¬ HasViolation traces))) c.in-Some.ensures.traces c.report_by.ensures.clean

pub returns-in-Some-clause-verdict : goal.returns-in-Some-clause-verdict
returns-in-Some-clause-verdict g c =
    subst (λ traces. IfOk c.report_by.result (λ report. VerdictIs traces report.verdict)) c.in-Some.ensures.traces c.report_by.ensures.verdict
