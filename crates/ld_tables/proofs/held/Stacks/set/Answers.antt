use Rattle.std.proofs.Common.{refl}
use Rattle.ld_tables.specs.Inner.Interrupts.{IsSet, is_on}
use Rattle.ld_tables.proofs.StackLemmas.{moved, moved_as}
use Rattle.ld_tables.proofs.held.Stacks.set.Goals as goal

pub returns-clause-changed : goal.returns-clause-changed
returns-clause-changed c =
    moved c.args.self.now c.self.inside.stacks.items c.self.inside.live c.self.invariant c.self.view_is c.args.task c.requires c.index_mut.result.now c.index_mut.ensures.value _ refl

pub returns-clause-set : goal.returns-clause-set
returns-clause-set c =
    moved_as c.args.self.now c.self.inside.stacks.items c.self.inside.live c.self.invariant c.self.view_is c.args.task c.requires c.index_mut.result.now c.index_mut.ensures.value _ refl
    (IsSet c.args.state (is_on c.args.flag)) c.set.ensures
