use Rattle.std.proofs.Common.{◌≡◌, ◌++◌, ◌∙◌, OnOk, ap, length, map, subst}
use Rattle.std.specs.Prelude.{codes, filter}
use Rattle.ld_overview.specs.OfBook.Totals.{refused_count}
use Rattle.ld_rules.specs.Outcome.{name_of, outcome}
use Rattle.ld_rules.specs.declared.fault.TraceFault.{TraceFault}
use Rattle.ld_texts.specs.Stats.{every_fault, figure_line, figure_lines, is_refused_for, refused_for}
use Rattle.ld_texts.proofs.StatsLemmas.{count-listed, joined}
use Rattle.ld_texts.proofs.stats.write_traces.Goals as goal

pub returns : goal.returns
returns c =
    let sources = c.args.book.now in
    let traces : c.totals-totals.result.traces ≡ length sources = ap (λ totals. totals.traces) c.totals-totals.ensures.totals in
    let refused : c.totals-totals.result.refused ≡ refused_count sources = ap (λ totals. totals.refused) c.totals-totals.ensures.totals in
    let of : (fault : TraceFault) → length (filter (λ trace. is_refused_for (name_of fault) trace.outcome) c.listed.result.now) ≡ refused_for sources fault =
    λ fault. count-listed (name_of fault) c.listed.result.now c.listed.ensures.outcomes
    ∙ ap (λ sources. length (filter (λ source. is_refused_for (name_of fault) (outcome source)) sources)) c.listed.ensures.sources in
    subst (λ text. OnOk c.write_refused.result (c.write_refused.new.text.items ≡ c.args.text.now.items ++ text))
    (λ t. figure_line (codes "traces", traces t) ++ (figure_line (codes "refused", refused t)
    ++ figure_lines (map (λ fault. (codes "refused-" ++ name_of fault, of fault t)) every_fault)))
    (joined c.write_refused.result c.args.text.now.items _ _ _ _ c.in_ok-write_figure.ensures
    (joined c.write_refused.result c.write_figure.new.text.items _ _ _ _ c.in_ok-write_figure-2.ensures c.write_refused.ensures))
