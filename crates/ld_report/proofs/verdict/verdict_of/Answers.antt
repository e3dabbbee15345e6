use Rattle.std.proofs.Common.{◌≡◌, ◌∙◌, sym, ap, arith}
use Rattle.ld_book.specs.Totals.{refused_count}
use Rattle.ld_report.proofs.Verdicts.{no_violation_from_alarms, violation_from_alarm}
use Rattle.ld_report.proofs.verdict.verdict_of.Goals as goal

pub returns-then-has_violation : goal.returns-then-has_violation
returns-then-has_violation c =
    violation_from_alarm c.args.book.now c.alarms.result c.alarms.ensures (sym c.has_violation.ensures ∙ c.if-has_violation.true)

pub returns-then-totals-gt0 : goal.returns-then-totals-gt0
returns-then-totals-gt0 c =
    let count : c.totals.result.refused ≡ refused_count c.args.book.now = ap (λ t. t.refused) c.totals.ensures.totals in
    (no_violation_from_alarms c.args.book.now c.alarms.result c.alarms.ensures (sym c.has_violation.ensures ∙ c.if-has_violation.false), omega (arith, count, c.if-totals-gt0.true))

pub returns-else-totals-gt0 : goal.returns-else-totals-gt0
returns-else-totals-gt0 c =
    let count : c.totals.result.refused ≡ refused_count c.args.book.now = ap (λ t. t.refused) c.totals.ensures.totals in
    (no_violation_from_alarms c.args.book.now c.alarms.result c.alarms.ensures (sym c.has_violation.ensures ∙ c.if-has_violation.false), omega (arith, count, c.if-totals-gt0.false))
