use Rattle.std.proofs.Common.{◌≡◌, ◌%◌, ◌<◌, subst, true}
use Rattle.std.proofs.lemmas.Bool.{OnTrue_from}
use Rattle.ld_class.specs.Blocks.{is_on}
use Rattle.ld_union.specs.declared.dependencies.earlier.Block.{Block}
use Rattle.ld_union.specs.Inner.Earlier.{IsKnownEarlier}
use Rattle.ld_union.proofs.dependencies.earlier.Earlier.has.Goals as goal

pub returns-then-block-number : goal.returns-then-block-number
returns-then-block-number c = OnTrue_from _ (IsKnownEarlier c.args.self.now c.args.edge c.args.number) (λ on. record {
  few = c.if-block-number.true.0;
  on = subst (λ (b : Block). is_on b.bits (c.args.edge.from % 64) ≡ true) c.block-block.ensures on;
  later = subst (λ (b : Block). b.latest < c.args.number) c.block-block.ensures c.if-block-number.true.1;
})
