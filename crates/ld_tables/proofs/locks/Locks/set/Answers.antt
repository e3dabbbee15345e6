use Rattle.std.proofs.Common.{get_or, map, sym, subst}
use Rattle.ld_tables.specs.Inner.Edges.{edges_of}
use Rattle.ld_tables.specs.Inner.Interrupts.{IsSet, fresh, is_on}
use Rattle.ld_tables.specs.Inner.Locks.{AreChainedIn}
use Rattle.ld_tables.specs.Inner.Stacks.{PlainStack, empty_stack}
use Rattle.ld_tables.specs.Inner.Chains.{chains_of}
use Rattle.ld_tables.proofs.LockLemmas.{interrupts_shown, moved_is, moved_to, shown_as, tied_moved, within_shown}
use Rattle.ld_tables.proofs.RoomLemmas.{some_task_then}
use Rattle.ld_tables.proofs.locks.Locks.set.Goals as goal

pub invariant_of-self : goal.invariant_of-self
invariant_of-self c = record {
  tied =
      tied_moved c.self.inside.stacks c.args.task (get_or c.set.new.self c.args.task empty_stack).interrupts c.set.new.self c.set.ensures.changed
      (chains_of c.self.inside.chains.links) c.self.inside.told (edges_of c.self.inside.edges.tellings) c.self.invariant.tied
      (within_shown c.self.inside.stacks (edges_of c.self.inside.edges.tellings) c.args.self.now c.args.task c.self.view_is c.requires.task)
      (subst (AreChainedIn (chains_of c.self.inside.chains.links) (get_or c.self.inside.stacks c.args.task empty_stack).held)
      (sym c.set.ensures.set.starts) (c.self.invariant.tied.chained c.args.task));
  start = c.self.invariant.start;
  masked = c.self.invariant.masked;
  room = λ none _ _. some_task_then c.self.inside.stacks (edges_of c.self.inside.edges.tellings) c.args.self.now c.args.task c.self.view_is c.requires.task c.set.new.self _ c.set.ensures.changed none;
}

pub returns-clause-moved : goal.returns-clause-moved
returns-clause-moved c = moved_is c.self.inside.stacks c.args.task (get_or c.set.new.self c.args.task empty_stack).interrupts c.set.new.self c.set.ensures.changed (edges_of c.self.inside.edges.tellings) c.args.self.now c.self.view_is

pub returns-clause-set : goal.returns-clause-set
returns-clause-set c =
    shown_as (IsSet c.args.state (is_on c.args.flag)) (get_or c.self.inside.stacks c.args.task empty_stack).interrupts
    (get_or c.args.self.now.interrupts c.args.task fresh) (get_or c.set.new.self c.args.task empty_stack).interrupts
    (get_or (map (λ (s : PlainStack). s.interrupts) c.set.new.self) c.args.task fresh)
    (interrupts_shown c.self.inside.stacks (edges_of c.self.inside.edges.tellings) c.args.self.now c.args.task c.self.view_is)
    (moved_to c.self.inside.stacks c.args.task (get_or c.set.new.self c.args.task empty_stack).interrupts c.set.new.self c.set.ensures.changed
    (within_shown c.self.inside.stacks (edges_of c.self.inside.edges.tellings) c.args.self.now c.args.task c.self.view_is c.requires.task))
    c.set.ensures.set
