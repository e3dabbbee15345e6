use Rattle.std.proofs.Common.{◌≡◌, Some, Err, ap, sym, ◌∙◌}
use Rattle.std.proofs.lemmas.Result.{err_from_is_err_and}
use Rattle.ld_trace.specs.Events.PlainEvent.{Enable}
use Rattle.ld_facts.proofs.TaskLemmas.{task-refused}
use Rattle.std.proofs.Common.{true, false, get_or, subst, ◌++◌, ◌∷◌, []}
use Rattle.std.specs.List.{list_any}
use Rattle.ld_rules.specs.declared.fault.TraceFault.TheVariants.{BadEnable}
use Rattle.ld_rules.specs.Flags.{same_state}
use Rattle.ld_tables.specs.Inner.Interrupts.{fresh, states_of}
use Rattle.ld_facts.specs.Inner.Scan.{IsAt, happens}
use Rattle.ld_facts.proofs.InterruptLemmas.{enable-bad, enabled-at}
use Rattle.ld_facts.proofs.scan.Scan.enable.Goals as goal

pub returns-in_err-task-clause-fault : goal.returns-in_err-task-clause-fault
returns-in_err-task-clause-fault c =
    task-refused c.args.self.now (Enable c.args.task.now c.args.state) c.in_err-task.field-0.0 c.from_residual.result
    (λ fault same. c.in_err-task.ensures.fault fault (ap Err same)) (err_from_is_err_and c.from_residual.result c.from_residual.ensures.1)

pub returns-then-has-clause-fault : goal.returns-then-has-clause-fault
returns-then-has-clause-fault c fault is start all is_at =
    let same : BadEnable ≡ fault = cc in
    let among : list_any (same_state c.args.state) (states_of (get_or c.task.new.self.locks.interrupts c.in_ok-task.task fresh)) ≡ true = ap
    (λ i. list_any (same_state c.args.state) (states_of i)) (sym c.interrupts.ensures) ∙ sym c.has.ensures ∙ c.if-has.true in
    enable-bad all c.args.self.now is_at c.args.task.now c.in_ok-task.task c.task.new.self c.in_ok-task.ensures.task c.args.state among ∙ ap Some same

pub returns-clause-ok : goal.returns-clause-ok
returns-clause-ok c start all is_at =
    let among : list_any (same_state c.args.state) (states_of (get_or c.task.new.self.locks.interrupts c.in_ok-task.task fresh)) ≡ false = ap
    (λ i. list_any (same_state c.args.state) (states_of i)) (sym c.interrupts.ensures) ∙ sym c.has.ensures ∙ c.if-has.false in
    subst (IsAt start (all ++ happens c.args.line (Enable c.args.task.now c.args.state) ∷ [])) (sym c.in_ok-count_held.ensures.counted)
    (enabled-at all c.args.self.now is_at c.args.task.now c.in_ok-task.task c.task.new.self c.in_ok-task.ensures.task c.args.state c.args.line
    c.set.new.self among c.set.ensures.moved c.set.ensures.set)
