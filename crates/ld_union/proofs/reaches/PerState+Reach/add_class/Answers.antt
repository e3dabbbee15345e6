use Rattle.ld_trace.specs.declared.event.State.TheVariants.{Hard, Soft}
use Rattle.ld_union.proofs.ReachedLemmas.{further-class, once-unreached}
use Rattle.ld_union.proofs.reaches.PerState+Reach.add_class.Goals as goal

pub returns-clause-classes : goal.returns-clause-classes
returns-clause-classes c count were Hard = once-unreached count c.args.self.now.hard c.add_class.new.self c.add_class.ensures.class c.add_class.ensures.each_once (were Hard)
returns-clause-classes c count were Soft = once-unreached count c.args.self.now.soft c.add_class-2.new.self c.add_class-2.ensures.class c.add_class-2.ensures.each_once (were Soft)

pub returns-clause-further : goal.returns-clause-further
returns-clause-further c Hard = further-class c.args.self.now (record { hard = c.add_class.new.self; soft = c.add_class-2.new.self }) c.add_class.ensures.class c.add_class-2.ensures.class c.add_class.ensures.stays c.add_class-2.ensures.stays Hard
returns-clause-further c Soft = further-class c.args.self.now (record { hard = c.add_class.new.self; soft = c.add_class-2.new.self }) c.add_class.ensures.class c.add_class-2.ensures.class c.add_class.ensures.stays c.add_class-2.ensures.stays Soft
