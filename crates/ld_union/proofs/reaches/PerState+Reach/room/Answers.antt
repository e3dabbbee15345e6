use Rattle.ld_trace.specs.declared.event.State.TheVariants.{Hard, Soft}
use Rattle.ld_union.proofs.ReachedLemmas.{once-spare}
use Rattle.ld_union.proofs.reaches.PerState+Reach.room.Goals as goal

pub returns-in_err-room-clause-classes : goal.returns-in_err-room-clause-classes
returns-in_err-room-clause-classes c count were Hard = once-spare count c.args.self.now.hard c.room.new.self c.room.ensures.same c.room.ensures.each_once (were Hard)
returns-in_err-room-clause-classes c count were Soft = were Soft

pub returns-clause-classes : goal.returns-clause-classes
returns-clause-classes c count were Hard = once-spare count c.args.self.now.hard c.room.new.self c.room.ensures.same c.room.ensures.each_once (were Hard)
returns-clause-classes c count were Soft = once-spare count c.args.self.now.soft c.room-2.new.self c.room-2.ensures.same c.room-2.ensures.each_once (were Soft)
