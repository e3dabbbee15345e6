use Rattle.ld_class.specs.Names.{class_of_task}
use Rattle.ld_class.proofs.NameLemmas.{place_of-Some}
use Rattle.ld_tables.proofs.tasks.learn.Goals as goal

pub returns-then-is_at-clause-place : goal.returns-then-is_at-clause-place
returns-then-is_at-clause-place c =
    place_of-Some c.args.known.now (class_of_task c.args.name.now) c.args.last c.if-is_at.ensures.at
