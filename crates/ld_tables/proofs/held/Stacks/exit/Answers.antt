use Rattle.std.proofs.Common.{refl}
use Rattle.ld_tables.specs.Inner.Interrupts.{IsLeft}
use Rattle.ld_tables.proofs.StackLemmas.{moved, moved_as}
use Rattle.ld_tables.proofs.held.Stacks.exit.Goals as goal

pub returns-clause-changed : goal.returns-clause-changed
returns-clause-changed c =
    moved c.args.self.now c.self.inside.stacks.items c.self.inside.live c.self.invariant c.self.view_is c.args.task c.requires.task c.index_mut.result.now c.index_mut.ensures.value _ refl

pub returns-clause-left : goal.returns-clause-left
returns-clause-left c =
    moved_as c.args.self.now c.self.inside.stacks.items c.self.inside.live c.self.invariant c.self.view_is c.args.task c.requires.task c.index_mut.result.now c.index_mut.ensures.value _ refl
    (IsLeft) c.exit.ensures
