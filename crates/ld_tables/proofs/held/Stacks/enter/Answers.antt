use Rattle.std.proofs.Common.{refl}
use Rattle.ld_tables.specs.Inner.Interrupts.{IsEntered}
use Rattle.ld_tables.proofs.StackLemmas.{moved, moved_as}
use Rattle.ld_tables.proofs.held.Stacks.enter.Goals as goal

pub returns-clause-changed : goal.returns-clause-changed
returns-clause-changed c =
    moved c.args.self.now c.self.inside.stacks.items c.self.inside.live c.self.invariant c.self.view_is c.args.task c.requires.task c.index_mut.result.now c.index_mut.ensures.value _ refl

pub returns-clause-entered : goal.returns-clause-entered
returns-clause-entered c =
    moved_as c.args.self.now c.self.inside.stacks.items c.self.inside.live c.self.invariant c.self.view_is c.args.task c.requires.task c.index_mut.result.now c.index_mut.ensures.value _ refl
    (IsEntered c.args.state c.args.start) c.enter.ensures
