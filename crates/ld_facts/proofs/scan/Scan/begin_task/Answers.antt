use Rattle.std.proofs.Common.{◌≡◌, List, ℕ, Bool, is_some, Some, Err, get_or, ap, sym, subst, ◌∙◌}
use Rattle.std.proofs.lemmas.Result.{err_from_is_err_and}
use Rattle.ld_trace.specs.declared.event.State.TheVariants.{Hard, Soft}
use Rattle.ld_trace.specs.Events.PlainEvent.{Begin}
use Rattle.ld_rules.specs.declared.fault.TraceFault.TheVariants.{LateBegin}
use Rattle.ld_facts.specs.declared.scan.Stop.TheVariants.{Fault}
use Rattle.ld_tables.specs.Inner.Interrupts.{IsSet, fresh}
use Rattle.ld_facts.specs.Inner.Scan.{HasTask, IsAt}
use Rattle.ld_facts.proofs.InterruptLemmas.{begun_late, begun_task-at}
use Rattle.ld_facts.proofs.TaskLemmas.{scan_too_many_tasks}
use Rattle.ld_facts.proofs.scan.Scan.begin_task.Goals as goal

pub returns-then-is_some-clause-fault : goal.returns-then-is_some-clause-fault
returns-then-is_some-clause-fault c fault is start all is_at =
    let same : LateBegin ≡ fault = cc in
    begun_late all c.args.self.now c.args.task.now c.args.hard c.args.soft is_at
    (ap is_some (sym c.find.ensures.place) ∙ sym c.is_some.ensures ∙ c.if-is_some.true) ∙ ap Some same

pub returns-in_err-task-clause-fault : goal.returns-in_err-task-clause-fault
returns-in_err-task-clause-fault c fault is start all is_at =
    let h = c.in_err-task.ensures.fault fault in
    let p = err_from_is_err_and c.from_residual.result c.from_residual.ensures.1 in
    let same : c.in_err-task.field-0.0 ≡ Fault fault = cc (p.1, p.2, is) in
    let at = h (ap Err same) in
    let found = subst (λ (ts : List (List ℕ)). IsAt start all (record c.args.self.now { tasks = ts })) (sym c.find.ensures.same) is_at in
    scan_too_many_tasks all (record c.args.self.now { tasks = c.find.new.self }) (Begin c.args.task.now c.args.hard c.args.soft) found at.1 at.2 ∙ ap Some (sym at.0)

pub returns-clause-ok : goal.returns-clause-ok
returns-clause-ok c line start all is_at =
    let new = ap is_some (sym c.find.ensures.place) ∙ sym c.is_some.ensures ∙ c.if-is_some.false in
    let has = subst (λ (ts : List (List ℕ)). HasTask (record c.args.self.now { tasks = ts }) c.args.task.now c.in_ok-task.task c.task.new.self) c.find.ensures.same c.in_ok-task.ensures.task in
    let first = subst (λ (b : Bool). IsSet Hard b (get_or c.task.new.self.locks.interrupts c.in_ok-task.task fresh) (get_or c.set.new.self.interrupts c.in_ok-task.task fresh))
    c.of.ensures c.set.ensures.set in
    let second = subst (λ (b : Bool). IsSet Soft b (get_or c.set.new.self.interrupts c.in_ok-task.task fresh) (get_or c.set-2.new.self.interrupts c.in_ok-task.task fresh))
    c.of-2.ensures c.set-2.ensures.set in
    begun_task-at all c.args.self.now is_at c.args.task.now c.in_ok-task.task c.task.new.self has new c.args.hard c.args.soft line c.set.new.self
    c.set-2.new.self c.set.ensures.moved first c.set-2.ensures.moved second
