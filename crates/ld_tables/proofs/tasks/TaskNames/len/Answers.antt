use Rattle.std.proofs.Common.{subst}
use Rattle.ld_class.specs.Names.{AreDistinctTasks}
use Rattle.ld_tables.specs.declared.tasks.TheConstants.{MOST_KNOWN_TASKS}
use Rattle.ld_tables.proofs.TaskLemmas.{apart}
use Rattle.ld_tables.proofs.tasks.TaskNames.len.Goals as goal

pub returns-clause-distinct : goal.returns-clause-distinct
returns-clause-distinct c =
    subst AreDistinctTasks c.self.view_is
    (apart MOST_KNOWN_TASKS c.self.inside.known c.self.inside.here c.self.invariant c.len.ensures.distinct)
