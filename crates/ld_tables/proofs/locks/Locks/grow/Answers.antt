use Rattle.ld_tables.specs.Inner.Edges.{edges_of}
use Rattle.ld_tables.specs.Inner.Chains.{chains_of}
use Rattle.ld_tables.proofs.LockLemmas.{tied_grown}
use Rattle.ld_tables.proofs.RoomLemmas.{room_grown}
use Rattle.ld_tables.proofs.locks.Locks.grow.Goals as goal

pub invariant_of-self : goal.invariant_of-self
invariant_of-self c = record {
  tied =
      tied_grown c.self.inside.stacks (chains_of c.self.inside.chains.links) c.self.inside.told (edges_of c.self.inside.edges.tellings) c.self.invariant.tied c.grow.result
      c.grow.new.self c.grow.ensures.grown c.grow.ensures.refused;
  start = c.self.invariant.start;
  masked = c.self.invariant.masked;
  room = λ none. room_grown c.grow.result c.self.inside.stacks c.grow.new.self c.grow.ensures.grown c.grow.ensures.refused c.self.invariant.room none;
}
