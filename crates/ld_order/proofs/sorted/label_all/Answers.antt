use Rattle.std.proofs.Common.{arith, get_or}
use Rattle.std.proofs.lemmas.List.Elements.{Contains-get_or}
use Rattle.ld_order.proofs.sorted.label_all.Goals as goal

pub overflow_add-node : goal.overflow_add-node
overflow_add-node c =
    let b = c.requires.classes (get_or c.args.classes.now c.loop-class.class-index 0)
    (Contains-get_or c.args.classes.now c.loop-class.class-index 0 c.loop-class-test.true) in
    omega (arith, b, c.requires.few)

pub bounds-labels-node : goal.bounds-labels-node
bounds-labels-node c = c.requires.classes (get_or c.args.classes.now c.loop-class.class-index 0)
    (Contains-get_or c.args.classes.now c.loop-class.class-index 0 c.loop-class-test.true)
