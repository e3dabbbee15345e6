use Rattle.std.proofs.Common.{rules, ◌≡◌, ◌<◌, IfSome, Some, ap, length, subst, sym, ◌∙◌}
use Rattle.std.proofs.lemmas.Bool.{ltb-true}
use Rattle.ld_trace.specs.Sources.{plain}
use Rattle.ld_rules.specs.declared.outcome.Listed.{Listed}
use Rattle.ld_work_tests.proofs.book.push.Goals as goal

pub push-requires-clause-above : goal.push-requires-clause-above
push-requires-clause-above g c =
    let item = c.in-Some.ensures.item in
    let above : c.in-Some.last.now.source.number < c.args.source.number = search rules in
    subst (λ o. IfSome o (λ s. s.number < c.args.source.number))
    (ap (λ (l : Listed). Some (plain l.source)) item.1 ∙ sym (c.listed.ensures.last c.in-Some.last.now (ltb-true 0 (length c.listed.result.now) (sym item.0)))) above
