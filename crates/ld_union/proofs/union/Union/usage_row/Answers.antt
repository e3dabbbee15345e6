use Rattle.std.proofs.Common.{◌∙◌, None, Some, ap, if◌then◌else◌, is_some, sym}
use Rattle.ld_class.specs.Names.{plain_class}
use Rattle.ld_class.proofs.NameLemmas.{place_of-Some}
use Rattle.ld_union.specs.Inner.Union.{of_class}
use Rattle.ld_union.specs.Usage.{row_of}
use Rattle.ld_union.proofs.UsageLemmas.{row_at}
use Rattle.ld_union.proofs.union.Union.usage_row.Goals as goal

pub returns : goal.returns
returns c = rw (← c.self.view_is) (λ first used.
    let union = c.self.inside in
    let class = plain_class c.args.class in
    let number = c.in_ok-number.number in
    let at = place_of-Some union.classes class number (sym c.in_ok-number.ensures.place) in
    ap Some (c.index.ensures ∙ row_at union.classes union.usage.items first used number c.index.result.now at.0 ∙ ap (λ n. row_of (of_class first n)) at.1)
    ∙ ap (λ place. if is_some place then Some (row_of (of_class first class)) else None) c.in_ok-number.ensures.place)
