use Rattle.std.proofs.Common.{◌≡◌, Some, Err, ap, sym, ◌∙◌}
use Rattle.std.proofs.lemmas.Result.{err_from_is_err_and}
use Rattle.ld_trace.specs.Events.PlainEvent.{Exit}
use Rattle.ld_facts.proofs.TaskLemmas.{task-refused}
use Rattle.std.proofs.Common.{◌≢◌, true, false, get_or, length, subst, ◌++◌, ◌∷◌, []}
use Rattle.std.proofs.lemmas.List.{length-map}
use Rattle.std.specs.Prelude.{slice_get}
use Rattle.ld_rules.specs.declared.fault.TraceFault.TheVariants.{BadExit, HeldAtExit}
use Rattle.ld_tables.specs.declared.held.Held.{Held}
use Rattle.ld_rules.specs.Flags.{same_state}
use Rattle.ld_tables.specs.Inner.Interrupts.{fresh, start_now, states_of}
use Rattle.ld_tables.specs.Inner.Locks.{hold_of}
use Rattle.ld_rules.specs.Open.{is_some_and}
use Rattle.ld_facts.specs.Inner.Scan.{IsAt, happens}
use Rattle.ld_tables.specs.Inner.Stacks.{plain_held}
use Rattle.ld_facts.proofs.InterruptLemmas.{exit-bad, exit-held, exited-at}
use Rattle.ld_facts.proofs.scan.Scan.exit.Goals as goal

pub returns-in_err-task-clause-fault : goal.returns-in_err-task-clause-fault
returns-in_err-task-clause-fault c =
    task-refused c.args.self.now (Exit c.args.task.now c.args.state) c.in_err-task.field-0.0 c.from_residual.result
    (λ fault same. c.in_err-task.ensures.fault fault (ap Err same)) (err_from_is_err_and c.from_residual.result c.from_residual.ensures.1)

pub returns-then-not-is_innermost-clause-fault : goal.returns-then-not-is_innermost-clause-fault
returns-then-not-is_innermost-clause-fault c fault is start all is_at =
    let same : BadExit ≡ fault = cc in
    let other : is_some_and (same_state c.args.state) (slice_get (states_of (get_or c.task.new.self.locks.interrupts c.in_ok-task.task fresh)) 0) ≡
    false = ap (λ i. is_some_and (same_state c.args.state) (slice_get (states_of i) 0)) (sym c.interrupts-interrupts.ensures) ∙ sym c.is_innermost.ensures ∙ c.if-not-is_innermost.true in
    exit-bad all c.args.self.now is_at c.args.task.now c.in_ok-task.task c.task.new.self c.in_ok-task.ensures.task c.args.state other ∙ ap Some same

pub returns-then-held-start-clause-fault : goal.returns-then-held-start-clause-fault
returns-then-held-start-clause-fault c fault is start all is_at =
    let same : HeldAtExit ≡ fault = cc in
    let own : is_some_and (same_state c.args.state) (slice_get (states_of (get_or c.task.new.self.locks.interrupts c.in_ok-task.task fresh)) 0) ≡
    true = ap (λ i. is_some_and (same_state c.args.state) (slice_get (states_of i) 0)) (sym c.interrupts-interrupts.ensures) ∙ sym c.is_innermost.ensures ∙ c.if-not-is_innermost.false in
    let long : length (get_or c.task.new.self.locks.stacks c.in_ok-task.task []) ≡ length c.held.result.now = ap length (sym c.held.ensures) ∙
    length-map c.held.result.now (λ (held : Held). hold_of (plain_held held)) in
    let start : start_now (get_or c.task.new.self.locks.interrupts c.in_ok-task.task fresh) ≡ c.start.result = ap start_now (sym c.interrupts-interrupts.ensures) ∙ sym c.start.ensures in
    let more : length (get_or c.task.new.self.locks.stacks c.in_ok-task.task []) ≢ start_now
    (get_or c.task.new.self.locks.interrupts c.in_ok-task.task fresh) = (λ none. c.if-held-start.true (sym long ∙ none ∙ start)) in
    exit-held all c.args.self.now is_at c.args.task.now c.in_ok-task.task c.task.new.self c.in_ok-task.ensures.task c.args.state own more ∙ ap Some same

pub returns-clause-ok : goal.returns-clause-ok
returns-clause-ok c began all is_at =
    let own : is_some_and (same_state c.args.state) (slice_get (states_of (get_or c.task.new.self.locks.interrupts c.in_ok-task.task fresh)) 0) ≡
    true = ap (λ i. is_some_and (same_state c.args.state) (slice_get (states_of i) 0)) (sym c.interrupts-interrupts.ensures) ∙ sym c.is_innermost.ensures ∙ c.if-not-is_innermost.false in
    let long : length (get_or c.task.new.self.locks.stacks c.in_ok-task.task []) ≡ length c.held.result.now = ap length (sym c.held.ensures) ∙
    length-map c.held.result.now (λ (held : Held). hold_of (plain_held held)) in
    let start : start_now (get_or c.task.new.self.locks.interrupts c.in_ok-task.task fresh) ≡ c.start.result = ap start_now (sym c.interrupts-interrupts.ensures) ∙ sym c.start.ensures in
    subst (IsAt began (all ++ happens c.args.line (Exit c.args.task.now c.args.state) ∷ [])) (sym c.in_ok-count_held.ensures.counted)
    (exited-at all c.args.self.now is_at c.args.task.now c.in_ok-task.task c.task.new.self c.in_ok-task.ensures.task c.args.state c.args.line
    c.exit.new.self own (long ∙ c.if-held-start.false ∙ sym start) c.exit.ensures.moved c.exit.ensures.left)
