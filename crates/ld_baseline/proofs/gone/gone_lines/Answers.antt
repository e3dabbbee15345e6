-- What is there by the report's lines is there in the report.
use Rattle.std.proofs.Common.{◌≡◌, ◌∙◌, ap}
use Rattle.std.specs.List.{count_by}
use Rattle.ld_trace.specs.Lines.{lines}
use Rattle.ld_baseline.specs.Gone.{going, is_gone, is_in, is_there}
use Rattle.ld_baseline.proofs.gone.gone_lines.Goals as goal

pub returns-clause-text : goal.returns-clause-text
returns-clause-text c =
    let same : is_in c.in_ok-violations.violations ≡ is_there c.args.report.now = λ i known. c.in_ok-violations.ensures known i in
    c.in_ok-gone.ensures.text ∙ ap (λ there. going there c.args.known.now) same

pub returns-clause-count : goal.returns-clause-count
returns-clause-count c =
    let same : is_in c.in_ok-violations.violations ≡ is_there c.args.report.now = λ i known. c.in_ok-violations.ensures known i in
    c.in_ok-gone.ensures.count ∙ ap (λ there. count_by (is_gone there) (lines c.args.known.now)) same
