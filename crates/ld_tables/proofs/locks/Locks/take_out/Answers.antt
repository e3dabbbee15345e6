use Rattle.ld_tables.specs.Inner.Edges.{edges_of}
use Rattle.ld_tables.specs.Inner.Chains.{chains_of}
use Rattle.ld_tables.proofs.OutLemmas.{tied_below, was_last}
use Rattle.ld_tables.proofs.RoomLemmas.{some_task_then}
use Rattle.ld_tables.proofs.locks.Locks.take_out.Goals as goal

pub invariant_of-self : goal.invariant_of-self
invariant_of-self c = record {
  tied = tied_below c.self.inside.stacks (edges_of c.self.inside.edges.tellings) c.args.self.now c.args.task c.held-held.result.now c.self.view_is c.held-held.ensures.held
      c.args.place c.requires.inner c.requires.held c.requires.task c.truncate.new.self c.truncate.ensures (chains_of c.self.inside.chains.links) c.self.inside.told c.self.invariant.tied;
  start = c.self.invariant.start;
  masked = c.self.invariant.masked;
  room = λ none _ _. some_task_then c.self.inside.stacks (edges_of c.self.inside.edges.tellings) c.args.self.now c.args.task c.self.view_is c.requires.task c.truncate.new.self _ c.truncate.ensures none;
}

pub returns-then-place-last : goal.returns-then-place-last
returns-then-place-last c =
    was_last c.self.inside.stacks (edges_of c.self.inside.edges.tellings) c.args.self.now c.args.task c.held-held.result.now c.self.view_is c.held-held.ensures.held
    c.args.place c.requires.inner c.requires.held c.requires.task c.truncate.new.self c.truncate.ensures c.if-place-last.true
