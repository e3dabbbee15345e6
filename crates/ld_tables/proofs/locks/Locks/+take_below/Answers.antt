use Rattle.std.proofs.Common.{arith}
use Rattle.ld_rules.specs.declared.outcome.TheConstants.{MOST_HELD}
use Rattle.ld_tables.specs.Inner.Edges.{edges_of}
use Rattle.ld_tables.specs.Inner.Chains.{chains_of}
use Rattle.ld_tables.proofs.OutLemmas.{again, fewer_below, inner_stays, room, stays_below, tied_below, was_last, within_below}
use Rattle.ld_tables.proofs.RoomLemmas.{some_task_then}
use Rattle.ld_tables.proofs.locks.Locks.+take_below.Goals as goal

pub invariant_of-self : goal.invariant_of-self
invariant_of-self t c = record {
  tied = tied_below c.self.inside.stacks (edges_of c.self.inside.edges.tellings) c.args.self.now c.args.task c.held-held.result.now c.self.view_is c.held-held.ensures.held
      c.args.place c.requires.inner c.requires.held c.requires.task c.truncate.new.self c.truncate.ensures (chains_of c.self.inside.chains.links) c.self.inside.told c.self.invariant.tied;
  start = c.self.invariant.start;
  masked = c.self.invariant.masked;
  room = λ none _ _. some_task_then c.self.inside.stacks (edges_of c.self.inside.edges.tellings) c.args.self.now c.args.task c.self.view_is c.requires.task c.truncate.new.self _ c.truncate.ensures none;
}

pub returns-then-place-top : goal.returns-then-place-top
returns-then-place-top t c =
    was_last c.self.inside.stacks (edges_of c.self.inside.edges.tellings) c.args.self.now c.args.task c.held-held.result.now c.self.view_is c.held-held.ensures.held
    c.args.place c.requires.inner c.requires.held c.requires.task c.truncate.new.self c.truncate.ensures c.if-place-top.true

pub invariant_of-self-2 : goal.invariant_of-self-2
invariant_of-self-2 t c = record {
  tied = tied_below c.self.inside.stacks (edges_of c.self.inside.edges.tellings) c.args.self.now c.args.task c.held-held.result.now c.self.view_is c.held-held.ensures.held
      c.args.place c.requires.inner c.requires.held c.requires.task c.truncate-2.new.self c.truncate-2.ensures (chains_of c.self.inside.chains.links) c.self.inside.told c.self.invariant.tied;
  start = c.self.invariant.start;
  masked = c.self.invariant.masked;
  room = λ none _ _. some_task_then c.self.inside.stacks (edges_of c.self.inside.edges.tellings) c.args.self.now c.args.task c.self.view_is c.requires.task c.truncate-2.new.self _ c.truncate-2.ensures none;
}

pub take_below-requires : goal.take_below-requires
take_below-requires t c = (
  (let shrinks = fewer_below c.self.inside.stacks (edges_of c.self.inside.edges.tellings) c.args.self.now c.args.task c.held-held.result.now c.self.view_is c.held-held.ensures.held
      c.args.place c.requires.inner c.requires.held c.requires.task c.truncate-2.new.self c.truncate-2.ensures in omega (arith, shrinks, c.decreases)),
  (
    within_below c.self.inside.stacks (edges_of c.self.inside.edges.tellings) c.args.self.now c.args.task c.held-held.result.now c.self.view_is c.held-held.ensures.held
        c.args.place c.requires.inner c.requires.held c.requires.task c.truncate-2.new.self c.truncate-2.ensures,
    (
      inner_stays c.self.inside.stacks (edges_of c.self.inside.edges.tellings) c.args.self.now c.args.task c.held-held.result.now c.self.view_is c.held-held.ensures.held
          c.args.place c.requires.inner c.requires.held c.requires.task c.truncate-2.new.self c.truncate-2.ensures,
      stays_below c.self.inside.stacks (edges_of c.self.inside.edges.tellings) c.args.self.now c.args.task c.held-held.result.now c.self.view_is c.held-held.ensures.held
          c.args.place c.requires.inner c.requires.held c.requires.task c.truncate-2.new.self c.truncate-2.ensures c.if-place-top.false,
    ),
  ),
)

pub put-requires-clause-room : goal.put-requires-clause-room
put-requires-clause-room t c =
    room c.self.inside.stacks (edges_of c.self.inside.edges.tellings) c.args.self.now c.args.task c.held-held.result.now c.self.view_is c.held-held.ensures.held
    c.args.place c.requires.inner c.requires.held c.requires.task c.truncate-2.new.self c.truncate-2.ensures c.take_below.new.self c.take_below.ensures
    MOST_HELD c.held-held.ensures.depth c.if-place-top.false

pub returns : goal.returns
returns t c =
    again c.self.inside.stacks (edges_of c.self.inside.edges.tellings) c.args.self.now c.args.task c.held-held.result.now c.self.view_is c.held-held.ensures.held
    c.args.place c.requires.inner c.requires.held c.requires.task c.truncate-2.new.self c.truncate-2.ensures c.take_below.new.self c.take_below.ensures
    _ c.put.new.self c.if-place-top.false c.put.ensures
