use Rattle.ld_tables.specs.Inner.Edges.{edges_of}
use Rattle.ld_tables.proofs.LockLemmas.{held_shown}
use Rattle.ld_tables.proofs.locks.Locks.held.Goals as goal

pub returns : goal.returns
returns c = held_shown c.self.inside.stacks (edges_of c.self.inside.edges.tellings) c.args.self.now c.args.task c.self.view_is c.held.result.now c.held.ensures.held
