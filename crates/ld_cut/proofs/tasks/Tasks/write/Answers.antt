-- The names are distinct.
use Rattle.std.proofs.Common.{◌∙◌, ap, subst}
use Rattle.ld_class.specs.Names.{AreDistinct}
use Rattle.ld_cut.proofs.TasksLemmas.{names_of}
use Rattle.ld_cut.proofs.tasks.Tasks.write.Goals as goal

pub returns-in_err-write-clause-distinct : goal.returns-in_err-write-clause-distinct
returns-in_err-write-clause-distinct c = subst AreDistinct (c.self.invariant ∙ ap names_of c.self.view_is) c.len.ensures.distinct

pub returns-clause-distinct : goal.returns-clause-distinct
returns-clause-distinct c = subst AreDistinct (c.self.invariant ∙ ap names_of c.self.view_is) c.len.ensures.distinct
