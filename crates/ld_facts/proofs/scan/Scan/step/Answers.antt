use Rattle.std.proofs.Common.{List, ℕ, Bor, ap, subst, sym, ◌∙◌}
use Rattle.std.proofs.lemmas.Result.{on_ok_weaker}
use Rattle.ld_trace.specs.Events.{PlainEvent, plain_event, plain_lock}
use Rattle.ld_trace.specs.declared.event.Lock.{Lock}
use Rattle.ld_rules.specs.Outcome.{event_fault, events}
use Rattle.ld_facts.specs.declared.acquire_kind.AcquireKind.{AcquireKind}
use Rattle.ld_facts.specs.Inner.Scan.{IsStep, acquisition}
use Rattle.ld_facts.proofs.scan.Scan.step.Goals.{in-Acquire, in-Try, in-Nested}
use Rattle.ld_facts.proofs.scan.Scan.step.Goals as goal

-- the event of what is taken: a task, a lock, and how it is taken
abbrev event_taken : Bor (List ℕ) × Lock × AcquireKind → PlainEvent
event_taken taken = acquisition taken.2 taken.0.now (plain_lock taken.1)

pub returns-clause-fault : goal.returns-clause-fault
returns-clause-fault c fault is start all is_at =
    elim c.match-event.branch [
      | in-Acquire w ↦
          ap (λ e. event_fault (events all) (plain_event e)) w.in-Acquire.is
          ∙ ap (λ t. event_fault (events all) (event_taken t)) (sym w.acquired-is)
          ∙ c.acquire.ensures.fault fault is start all is_at
      | in-Try w ↦
          ap (λ e. event_fault (events all) (plain_event e)) w.in-Try.is
          ∙ ap (λ t. event_fault (events all) (event_taken t)) (sym w.acquired-is)
          ∙ c.acquire.ensures.fault fault is start all is_at
      | in-Nested w ↦
          ap (λ e. event_fault (events all) (plain_event e)) w.in-Nested.is
          ∙ ap (λ t. event_fault (events all) (event_taken t)) (sym w.acquired-is)
          ∙ c.acquire.ensures.fault fault is start all is_at
    ]

pub returns-in-Release-clause-ok : goal.returns-in-Release-clause-ok
returns-in-Release-clause-ok c = on_ok_weaker c.release.result
    (λ h. subst (λ e. IsStep c.args.self.now c.args.line (plain_event e) c.release.new.self) (sym c.in-Release.is) (h c.args.line))
    c.release.ensures.ok

pub returns-in-Release-clause-fault : goal.returns-in-Release-clause-fault
returns-in-Release-clause-fault c fault is start all is_at =
    ap (λ e. event_fault (events all) (plain_event e)) c.in-Release.is ∙ c.release.ensures.fault fault is start all is_at

pub returns-in-Enter-clause-fault : goal.returns-in-Enter-clause-fault
returns-in-Enter-clause-fault c fault is start all is_at =
    ap (λ e. event_fault (events all) (plain_event e)) c.in-Enter.is ∙ c.enter.ensures.fault fault is start all is_at

pub returns-in-Exit-clause-fault : goal.returns-in-Exit-clause-fault
returns-in-Exit-clause-fault c fault is start all is_at =
    ap (λ e. event_fault (events all) (plain_event e)) c.in-Exit.is ∙ c.exit.ensures.fault fault is start all is_at

pub returns-in-Enter-clause-ok : goal.returns-in-Enter-clause-ok
returns-in-Enter-clause-ok c = on_ok_weaker c.enter.result
    (λ h. subst (λ e. IsStep c.args.self.now c.args.line (plain_event e) c.enter.new.self) (sym c.in-Enter.is) (h c.args.line))
    c.enter.ensures.ok

pub returns-in-Enable-clause-fault : goal.returns-in-Enable-clause-fault
returns-in-Enable-clause-fault c fault is start all is_at =
    ap (λ e. event_fault (events all) (plain_event e)) c.in-Enable.is ∙ c.enable.ensures.fault fault is start all is_at

pub returns-in-Disable-clause-ok : goal.returns-in-Disable-clause-ok
returns-in-Disable-clause-ok c = on_ok_weaker c.disable.result
    (λ h. subst (λ e. IsStep c.args.self.now c.args.line (plain_event e) c.disable.new.self) (sym c.in-Disable.is) (h c.args.line))
    c.disable.ensures.ok

pub returns-in-Disable-clause-fault : goal.returns-in-Disable-clause-fault
returns-in-Disable-clause-fault c fault is start all is_at =
    ap (λ e. event_fault (events all) (plain_event e)) c.in-Disable.is ∙ c.disable.ensures.fault fault is start all is_at

pub returns-in-Begin-clause-ok : goal.returns-in-Begin-clause-ok
returns-in-Begin-clause-ok c = on_ok_weaker c.begin_task.result
    (λ h. subst (λ e. IsStep c.args.self.now c.args.line (plain_event e) c.begin_task.new.self) (sym c.in-Begin.is) (h c.args.line))
    c.begin_task.ensures.ok

pub returns-in-Begin-clause-fault : goal.returns-in-Begin-clause-fault
returns-in-Begin-clause-fault c fault is start all is_at =
    ap (λ e. event_fault (events all) (plain_event e)) c.in-Begin.is ∙ c.begin_task.ensures.fault fault is start all is_at
