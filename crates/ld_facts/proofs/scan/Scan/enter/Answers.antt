use Rattle.std.proofs.Common.{◌≡◌, true, false, Some, Err, get_or, ap, sym, ◌∙◌}
use Rattle.std.proofs.lemmas.Result.{err_from_is_err_and}
use Rattle.ld_trace.specs.Events.PlainEvent.{Enter}
use Rattle.ld_rules.specs.declared.fault.TraceFault.TheVariants.{BadNest, Masked}
use Rattle.ld_tables.specs.Inner.Interrupts.{enabled_now, fresh, nests_in, states_of}
use Rattle.ld_facts.proofs.InterruptLemmas.{enter-masked, enter-nested, entered-at}
use Rattle.ld_facts.proofs.TaskLemmas.{task-refused}
use Rattle.ld_facts.proofs.scan.Scan.enter.Goals as goal

pub returns-in_err-task-clause-fault : goal.returns-in_err-task-clause-fault
returns-in_err-task-clause-fault c =
    task-refused c.args.self.now (Enter c.args.task.now c.args.state) c.in_err-task.field-0.0 c.from_residual.result
    (λ fault same. c.in_err-task.ensures.fault fault (ap Err same)) (err_from_is_err_and c.from_residual.result c.from_residual.ensures.1)

pub returns-then-not-nests-clause-fault : goal.returns-then-not-nests-clause-fault
returns-then-not-nests-clause-fault c fault is start all is_at =
    let same : BadNest ≡ fault = cc in
    let nests : nests_in (states_of (get_or c.task.new.self.locks.interrupts c.in_ok-task.task fresh)) c.args.state ≡ false = ap
    (λ i. nests_in (states_of i) c.args.state) (sym c.interrupts-interrupts.ensures) ∙ sym c.nests.ensures ∙ c.if-not-nests.true in
    enter-nested all c.args.self.now is_at c.args.task.now c.in_ok-task.task c.task.new.self c.in_ok-task.ensures.task c.args.state nests ∙ ap Some same

pub returns-then-not-is_enabled-clause-fault : goal.returns-then-not-is_enabled-clause-fault
returns-then-not-is_enabled-clause-fault c fault is start all is_at =
    let same : Masked ≡ fault = cc in
    let nests : nests_in (states_of (get_or c.task.new.self.locks.interrupts c.in_ok-task.task fresh)) c.args.state ≡ true = ap
    (λ i. nests_in (states_of i) c.args.state) (sym c.interrupts-interrupts.ensures) ∙ sym c.nests.ensures ∙ c.if-not-nests.false in
    let on : enabled_now c.args.state (get_or c.task.new.self.locks.interrupts c.in_ok-task.task fresh) ≡ false = ap (enabled_now c.args.state)
    (sym c.interrupts-interrupts.ensures) ∙ sym c.is_enabled.ensures ∙ c.if-not-is_enabled.true in
    enter-masked all c.args.self.now is_at c.args.task.now c.in_ok-task.task c.task.new.self c.in_ok-task.ensures.task c.args.state nests on ∙ ap Some same

pub returns-clause-ok : goal.returns-clause-ok
returns-clause-ok c line start all is_at =
    let nests : nests_in (states_of (get_or c.task.new.self.locks.interrupts c.in_ok-task.task fresh)) c.args.state ≡ true = ap
    (λ i. nests_in (states_of i) c.args.state) (sym c.interrupts-interrupts.ensures) ∙ sym c.nests.ensures ∙ c.if-not-nests.false in
    let on : enabled_now c.args.state (get_or c.task.new.self.locks.interrupts c.in_ok-task.task fresh) ≡ true = ap (enabled_now c.args.state)
    (sym c.interrupts-interrupts.ensures) ∙ sym c.is_enabled.ensures ∙ c.if-not-is_enabled.false in
    entered-at all c.args.self.now is_at c.args.task.now c.in_ok-task.task c.task.new.self c.in_ok-task.ensures.task c.args.state line
    c.enter.new.self nests on c.enter.ensures.moved c.enter.ensures.entered
