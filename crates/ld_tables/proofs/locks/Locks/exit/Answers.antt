use Rattle.std.proofs.Common.{get_or, length, map, refl, sym, ap, ◌∙◌}
use Rattle.std.proofs.lemmas.List.{length-map}
use Rattle.ld_tables.specs.Inner.Edges.{edges_of}
use Rattle.ld_tables.specs.Inner.Interrupts.{IsLeft, fresh, start_now}
use Rattle.ld_tables.specs.Inner.Locks.{hold_of}
use Rattle.ld_tables.specs.Inner.Stacks.{PlainStack, empty_stack}
use Rattle.ld_tables.specs.Inner.Chains.{chains_of}
use Rattle.ld_tables.proofs.LockLemmas.{chained_left, holds_shown, interrupts_shown, moved_is, moved_to, shown_as, tied_moved, within_shown}
use Rattle.ld_tables.proofs.RoomLemmas.{some_task_then}
use Rattle.ld_tables.proofs.locks.Locks.exit.Goals as goal

pub invariant_of-self : goal.invariant_of-self
invariant_of-self c = record {
  tied =
      tied_moved c.self.inside.stacks c.args.task (get_or c.exit.new.self c.args.task empty_stack).interrupts c.exit.new.self c.exit.ensures.changed
      (chains_of c.self.inside.chains.links) c.self.inside.told (edges_of c.self.inside.edges.tellings) c.self.invariant.tied
      (within_shown c.self.inside.stacks (edges_of c.self.inside.edges.tellings) c.args.self.now c.args.task c.self.view_is c.requires.task)
      (chained_left (chains_of c.self.inside.chains.links) (get_or c.self.inside.stacks c.args.task empty_stack).held
      (get_or c.self.inside.stacks c.args.task empty_stack).interrupts (get_or c.self.inside.stacks c.args.task empty_stack).interrupts
      (get_or c.exit.new.self c.args.task empty_stack).interrupts
      (ap start_now (interrupts_shown c.self.inside.stacks (edges_of c.self.inside.edges.tellings) c.args.self.now c.args.task c.self.view_is) ∙ c.requires.empty
      ∙ sym (ap length (holds_shown c.self.inside.stacks (edges_of c.self.inside.edges.tellings) c.args.self.now c.args.task c.self.view_is))
      ∙ length-map (get_or c.self.inside.stacks c.args.task empty_stack).held hold_of)
      refl c.exit.ensures.left (c.self.invariant.tied.chained c.args.task));
  start = c.self.invariant.start;
  masked = c.self.invariant.masked;
  room = λ none _ _. some_task_then c.self.inside.stacks (edges_of c.self.inside.edges.tellings) c.args.self.now c.args.task c.self.view_is c.requires.task c.exit.new.self _ c.exit.ensures.changed none;
}

pub returns-clause-moved : goal.returns-clause-moved
returns-clause-moved c = moved_is c.self.inside.stacks c.args.task (get_or c.exit.new.self c.args.task empty_stack).interrupts c.exit.new.self c.exit.ensures.changed (edges_of c.self.inside.edges.tellings) c.args.self.now c.self.view_is

pub returns-clause-left : goal.returns-clause-left
returns-clause-left c =
    shown_as IsLeft (get_or c.self.inside.stacks c.args.task empty_stack).interrupts (get_or c.args.self.now.interrupts c.args.task fresh)
    (get_or c.exit.new.self c.args.task empty_stack).interrupts (get_or (map (λ (s : PlainStack). s.interrupts) c.exit.new.self) c.args.task fresh)
    (interrupts_shown c.self.inside.stacks (edges_of c.self.inside.edges.tellings) c.args.self.now c.args.task c.self.view_is)
    (moved_to c.self.inside.stacks c.args.task (get_or c.exit.new.self c.args.task empty_stack).interrupts c.exit.new.self c.exit.ensures.changed
    (within_shown c.self.inside.stacks (edges_of c.self.inside.edges.tellings) c.args.self.now c.args.task c.self.view_is c.requires.task))
    c.exit.ensures.left
