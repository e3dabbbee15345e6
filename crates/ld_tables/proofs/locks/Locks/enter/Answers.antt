use Rattle.std.proofs.Common.{◌≡◌, [], get_or, length, map, refl, sym, ap, subst, ◌∙◌}
use Rattle.std.proofs.lemmas.List.{length-map}
use Rattle.ld_tables.specs.Inner.Edges.{edges_of}
use Rattle.ld_tables.specs.Inner.Interrupts.{IsEntered, fresh}
use Rattle.ld_tables.specs.Inner.Locks.{hold_of}
use Rattle.ld_tables.specs.Inner.Stacks.{PlainStack, empty_stack, plain_held}
use Rattle.ld_tables.specs.declared.held.Held.{Held}
use Rattle.ld_tables.specs.Inner.Chains.{chains_of}
use Rattle.ld_tables.proofs.LockLemmas.{chained_entered, held_shown, interrupts_shown, moved_is, moved_to, shown_as, tied_moved, within_shown}
use Rattle.ld_tables.proofs.RoomLemmas.{some_task_then}
use Rattle.ld_tables.proofs.locks.Locks.enter.Goals as goal

pub invariant_of-self : goal.invariant_of-self
invariant_of-self c = record {
  tied =
      tied_moved c.self.inside.stacks c.args.task (get_or c.enter.new.self c.args.task empty_stack).interrupts c.enter.new.self c.enter.ensures.changed
      (chains_of c.self.inside.chains.links) c.self.inside.told (edges_of c.self.inside.edges.tellings) c.self.invariant.tied
      (within_shown c.self.inside.stacks (edges_of c.self.inside.edges.tellings) c.args.self.now c.args.task c.self.view_is c.requires.task)
      (chained_entered (chains_of c.self.inside.chains.links) (get_or c.self.inside.stacks c.args.task empty_stack).held c.args.state c.held-start.result.now
      (get_or c.self.inside.stacks c.args.task empty_stack).interrupts (get_or c.self.inside.stacks c.args.task empty_stack).interrupts
      (get_or c.enter.new.self c.args.task empty_stack).interrupts
      c.held-start.ensures.held refl c.enter.ensures.entered (c.self.invariant.tied.chained c.args.task));
  start = c.self.invariant.start;
  masked = c.self.invariant.masked;
  room = λ none _ _. some_task_then c.self.inside.stacks (edges_of c.self.inside.edges.tellings) c.args.self.now c.args.task c.self.view_is c.requires.task c.enter.new.self _ c.enter.ensures.changed none;
}

pub returns-clause-moved : goal.returns-clause-moved
returns-clause-moved c = moved_is c.self.inside.stacks c.args.task (get_or c.enter.new.self c.args.task empty_stack).interrupts c.enter.new.self c.enter.ensures.changed (edges_of c.self.inside.edges.tellings) c.args.self.now c.self.view_is

pub returns-clause-entered : goal.returns-clause-entered
returns-clause-entered c =
    let many : length c.held-start.result.now ≡ length (get_or c.args.self.now.stacks c.args.task []) =
    sym (length-map c.held-start.result.now (λ (h : Held). hold_of (plain_held h)))
    ∙ ap length (held_shown c.self.inside.stacks (edges_of c.self.inside.edges.tellings) c.args.self.now c.args.task c.self.view_is c.held-start.result.now c.held-start.ensures.held) in
    shown_as (IsEntered c.args.state (length (get_or c.args.self.now.stacks c.args.task []))) (get_or c.self.inside.stacks c.args.task empty_stack).interrupts
    (get_or c.args.self.now.interrupts c.args.task fresh) (get_or c.enter.new.self c.args.task empty_stack).interrupts
    (get_or (map (λ (s : PlainStack). s.interrupts) c.enter.new.self) c.args.task fresh)
    (interrupts_shown c.self.inside.stacks (edges_of c.self.inside.edges.tellings) c.args.self.now c.args.task c.self.view_is)
    (moved_to c.self.inside.stacks c.args.task (get_or c.enter.new.self c.args.task empty_stack).interrupts c.enter.new.self c.enter.ensures.changed
    (within_shown c.self.inside.stacks (edges_of c.self.inside.edges.tellings) c.args.self.now c.args.task c.self.view_is c.requires.task))
    (subst (λ n. IsEntered c.args.state n (get_or c.self.inside.stacks c.args.task empty_stack).interrupts (get_or c.enter.new.self c.args.task empty_stack).interrupts)
    many c.enter.ensures.entered)
