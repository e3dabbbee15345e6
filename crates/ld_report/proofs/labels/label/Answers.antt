use Rattle.std.proofs.Common.{rules, ◌≡◌, ◌<◌, ◌∙◌, ap, sym, subst, get_or, length, nat_cmp, Equal, Err}
use Rattle.std.proofs.lemmas.Cmp.{ranked}
use Rattle.std.proofs.lemmas.List.Sorted.{answers_always}
use Rattle.std.specs.List.Sorted.{IsBinarySearchResult}
use Rattle.ld_rules.specs.declared.outcome.Listed.{Listed}
use Rattle.ld_batch.specs.Batch.{AreRising, sources_of}
use Rattle.ld_report.specs.Report.{label_of_number}
use Rattle.ld_report.proofs.TraceLemmas.{label-absent, label-found}
use Rattle.ld_report.proofs.labels.label.Goals as goal

pub returns-then-trace-number : goal.returns-then-trace-number
returns-then-trace-number c =
    let listed = c.listed-in_order.result.now in
    let number = c.args.number in
    let trace = c.in-Some.trace.now in
    let rising : AreRising (sources_of listed) = subst AreRising (sym c.listed-in_order.ensures.sources) c.listed-in_order.ensures.rising in
    let within : number < length listed = search rules in
    let found : trace ≡ get_or listed number trace = c.in-Some.ensures.lookup.1 in
    ap (λ (l : Listed). l.source.name.now) found
    ∙ label-found listed rising number number trace within (ap (λ (l : Listed). l.source.number) (sym found) ∙ search rules)
    ∙ ap (λ sources. label_of_number sources number) c.listed-in_order.ensures.sources

pub returns-in-Ok : goal.returns-in-Ok
returns-in-Ok c =
    let listed = c.listed-in_order.result.now in
    let number = c.args.number in
    let at = c.in-Ok.at in
    let rising : AreRising (sources_of listed) = subst AreRising (sym c.listed-in_order.ensures.sources) c.listed-in_order.ensures.rising in
    let found : (d : Listed) → nat_cmp (get_or listed at d).source.number number ≡ Equal =
    c.in-Ok.ensures.position (λ l. l.source.number) (answers_always _ _ _ (λ f a r g called. search rules)) in
    let within : at < length listed = c.in-Ok.ensures.bound in
    label-found listed rising number at _ within (ranked _ number Equal (sym (found _)))
    ∙ ap (λ sources. label_of_number sources number) c.listed-in_order.ensures.sources

pub returns-in-Err : goal.returns-in-Err
returns-in-Err c =
    let listed = c.listed-in_order.result.now in
    let number = c.args.number in
    let rising : AreRising (sources_of listed) = subst AreRising (sym c.listed-in_order.ensures.sources) c.listed-in_order.ensures.rising in
    let parted : IsBinarySearchResult (λ l. nat_cmp l.source.number number) listed (Err c.in-Err.field-0) =
    c.in-Err.ensures.position (λ l. l.source.number) (answers_always _ _ _ (λ f a r g called. search rules)) in
    label-absent listed rising number c.in-Err.field-0 parted ∙ ap (λ sources. label_of_number sources number) c.listed-in_order.ensures.sources
