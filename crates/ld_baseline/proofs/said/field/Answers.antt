-- One field is cut off.
use Rattle.std.proofs.Common.{◌≡◌, ◌∙◌, ◌+◌, ◌-◌, arith, ap, sym}
use Rattle.ld_baseline.specs.Said.{field}
use Rattle.ld_baseline.proofs.FieldLemmas.{field-first, field-next}
use Rattle.ld_baseline.proofs.said.field.Goals as goal

pub loop-preserved : goal.loop-preserved
loop-preserved c =
    let left = c.args.place - (c.loop.counter + 1) in
    let one : c.args.place - c.loop.counter ≡ left + 1 = omega arith in
    ap (λ text. field text left) c.cut.ensures.others
    ∙ sym (field-next c.loop.rest.now left)
    ∙ ap (field c.loop.rest.now) (sym one)
    ∙ c.loop.invariant

pub returns : goal.returns
returns c =
    let none : c.args.place - c.loop.counter ≡ 0 = omega arith in
    c.cut-2.ensures.first
    ∙ sym (field-first c.loop.rest.now)
    ∙ ap (field c.loop.rest.now) (sym none)
    ∙ c.loop.invariant
