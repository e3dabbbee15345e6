use Rattle.std.proofs.Common.{Err, ap}
use Rattle.std.proofs.lemmas.Result.{err_from_is_err_and}
use Rattle.ld_trace.specs.Events.PlainEvent.{Disable}
use Rattle.ld_facts.proofs.InterruptLemmas.{disabled-at}
use Rattle.ld_facts.proofs.TaskLemmas.{task-refused}
use Rattle.ld_facts.proofs.scan.Scan.disable.Goals as goal

pub returns-in_err-task-clause-fault : goal.returns-in_err-task-clause-fault
returns-in_err-task-clause-fault c =
    task-refused c.args.self.now (Disable c.args.task.now c.args.state) c.in_err-task.field-0.0 c.from_residual.result
    (λ fault same. c.in_err-task.ensures.fault fault (ap Err same)) (err_from_is_err_and c.from_residual.result c.from_residual.ensures.1)

pub returns-clause-ok : goal.returns-clause-ok
returns-clause-ok c line start all is_at = disabled-at all c.args.self.now is_at c.args.task.now c.in_ok-task.task c.task.new.self c.in_ok-task.ensures.task
    c.args.state line c.set.new.self c.set.ensures.moved c.set.ensures.set
