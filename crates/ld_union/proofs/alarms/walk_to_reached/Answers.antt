use Rattle.std.proofs.Common.{All, ℕ, arith, subst}
use Rattle.std.proofs.lemmas.List.{take_all}
use Rattle.std.proofs.lemmas.List.Elements.{All-more}
use Rattle.ld_union.specs.Inner.Numbers.{IsForbiddenAt}
use Rattle.ld_union.specs.Inner.Union.{edges_of}
use Rattle.ld_union.specs.Usage.{bits_of}
use Rattle.ld_union.proofs.alarms.walk_to_reached.Goals as goal

pub loop-class-preserved : goal.loop-class-preserved
loop-class-preserved c =
    All-more (λ class. (from : ℕ) → ¬ IsForbiddenAt (edges_of c.args.union.now.dependencies) (bits_of c.args.union.now.usage) c.args.state from class)
    c.args.classes.now c.loop-class.class-index _ c.loop-class-test.true c.loop-class.invariant c.in_default.ensures

pub returns : goal.returns
returns c =
    subst (All (λ class. (from : ℕ) → ¬ IsForbiddenAt (edges_of c.args.union.now.dependencies) (bits_of c.args.union.now.usage) c.args.state from class))
    (take_all c.loop-class.class-index c.args.classes.now (omega arith)) c.loop-class.invariant
