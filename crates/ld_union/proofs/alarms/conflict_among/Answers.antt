use Rattle.std.proofs.Common.{◌∙◌, All, arith, subst, sym}
use Rattle.std.proofs.lemmas.Bool.{true≢false}
use Rattle.std.proofs.lemmas.List.{take_all}
use Rattle.std.proofs.lemmas.List.Elements.{All-more}
use Rattle.ld_union.specs.declared.delta.NewBit.{NewBit}
use Rattle.ld_union.specs.Inner.Numbers.{IsConflictAt}
use Rattle.ld_union.specs.Usage.{bits_of}
use Rattle.ld_union.proofs.alarms.conflict_among.Goals as goal

pub loop-told-preserved : goal.loop-told-preserved
loop-told-preserved c =
    All-more (λ (t : NewBit). ¬ IsConflictAt (bits_of c.args.rows.now) c.args.state t.class) c.args.bits.now c.loop-told.told-index _ c.loop-told-test.true c.loop-told.invariant
    (λ conflict. true≢false (sym (c.conflict_at.ensures.1 conflict) ∙ c.if-conflict_at.false))

pub returns : goal.returns
returns c =
    subst (All (λ (t : NewBit). ¬ IsConflictAt (bits_of c.args.rows.now) c.args.state t.class)) (take_all c.loop-told.told-index c.args.bits.now (omega arith)) c.loop-told.invariant
