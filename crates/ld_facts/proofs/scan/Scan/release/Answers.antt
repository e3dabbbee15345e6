use Rattle.std.proofs.Common.{◌≡◌, ◌++◌, ◌∷◌, [], Some, Err, ap, sym, subst, ◌∙◌}
use Rattle.std.proofs.lemmas.Result.{err_from_is_err_and}
use Rattle.ld_trace.specs.Events.{plain_lock}
use Rattle.ld_trace.specs.Events.PlainEvent.{Release}
use Rattle.ld_rules.specs.declared.fault.TraceFault.TheVariants.{NotHeld}
use Rattle.ld_tables.specs.Inner.Locks.{HeldByTasks}
use Rattle.ld_facts.specs.Inner.Scan.{IsAt, happens}
use Rattle.ld_facts.proofs.TaskLemmas.{task-refused}
use Rattle.ld_facts.proofs.ReleaseLemmas.{release-not_held, release-at}
use Rattle.ld_facts.proofs.scan.Scan.release.Goals as goal

pub returns-in_err-task-clause-fault : goal.returns-in_err-task-clause-fault
returns-in_err-task-clause-fault c =
    task-refused c.args.self.now (Release c.args.task.now (plain_lock c.args.lock)) c.in_err-task.field-0.0 c.from_residual.result
    (λ fault same. c.in_err-task.ensures.fault fault (ap Err same)) (err_from_is_err_and c.from_residual.result c.from_residual.ensures.1)

pub returns-else-let_go-clause-fault : goal.returns-else-let_go-clause-fault
returns-else-let_go-clause-fault c fault is start all is_at =
    let same : NotHeld ≡ fault = cc in
    release-not_held all c.args.self.now is_at c.args.task.now (plain_lock c.args.lock) c.in_ok-task.task c.task.new.self c.in_ok-task.ensures.task
    (sym c.let_go.ensures.held ∙ c.if-let_go.false) ∙ ap Some same

pub returns-then-let_go-clause-ok : goal.returns-then-let_go-clause-ok
returns-then-let_go-clause-ok c line start all is_at =
    subst (λ (locks : HeldByTasks). IsAt start (all ++ happens line (Release c.args.task.now (plain_lock c.args.lock)) ∷ [])
    (record {
      tasks = c.task.new.self.tasks;
      classes = c.task.new.self.classes;
      own = c.task.new.self.own;
      locks = locks;
      uses = c.task.new.self.uses;
      before = c.task.new.self.before;
    })) (sym c.let_go.ensures.stacks)
    (release-at all c.args.self.now is_at c.args.task.now (plain_lock c.args.lock) c.in_ok-task.task c.task.new.self c.in_ok-task.ensures.task line
    (sym c.let_go.ensures.held ∙ c.if-let_go.true))
