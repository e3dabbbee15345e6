use Rattle.std.proofs.Common.{◌≡◌, Some, Err, ap, sym, ◌∙◌}
use Rattle.std.proofs.lemmas.Result.{err_from_is_err_and}
use Rattle.ld_trace.specs.Events.{plain_lock}
use Rattle.ld_facts.specs.declared.scan.Stop.TheVariants.{Fault}
use Rattle.ld_facts.proofs.TaskLemmas.{acquisition_too_many_tasks}
use Rattle.std.proofs.Common.{◌<◌, ◌≤◌, None, List, ℕ, length, get_or, subst, arith, ◌++◌, ◌∷◌, []}
use Rattle.std.proofs.lemmas.List.{length-map}
use Rattle.ld_class.specs.Names.{place_of, plain_class}
use Rattle.ld_rules.specs.declared.fault.TraceFault.TheVariants.{TooDeep}
use Rattle.ld_tables.specs.declared.held.Held.{Held}
use Rattle.ld_rules.specs.declared.outcome.TheConstants.{MOST_CLASSES, MOST_HELD}
use Rattle.ld_facts.specs.declared.scan.Scan.{Scan}
use Rattle.ld_tables.specs.Inner.Locks.{hold_of}
use Rattle.ld_facts.specs.Inner.Scan.{IsAt, acquisition, class_taken, happens, names_at, own_names, taken}
use Rattle.ld_tables.specs.Inner.Stacks.{plain_held}
use Rattle.ld_facts.proofs.AcquireFaults.{fault-classes, fault-deep}
use Rattle.ld_facts.proofs.AcquireLemmas.{Entered, acquired-at, entered, length-held, tried-at}
use Rattle.ld_facts.proofs.scan.Scan.acquire.Goals.{then-waits+in_ok-wait, else-waits}
use Rattle.ld_facts.proofs.scan.Scan.acquire.Goals as goal

pub returns-in_err-task-clause-fault : goal.returns-in_err-task-clause-fault
returns-in_err-task-clause-fault c fault is start all is_at =
    let h = c.in_err-task.ensures.fault fault in
    let p = err_from_is_err_and c.from_residual.result c.from_residual.ensures.1 in
    let same : c.in_err-task.field-0.0 ≡ Fault fault = cc (p.1, p.2, is) in
    let at = h (ap Err same) in
    acquisition_too_many_tasks all c.args.self.now c.args.how c.args.task.now (plain_lock c.args.lock) is_at at.1 at.2 ∙ ap Some (sym at.0)

pub returns-in_err-class-clause-fault : goal.returns-in_err-class-clause-fault
returns-in_err-class-clause-fault c fault is start all is_at =
    let p = err_from_is_err_and c.from_residual-in_err-class.result c.from_residual-in_err-class.ensures.1 in
    let stop : p.0 ≡ Fault fault = (let both = sym p.1 ∙ is in cc) in
    let e : c.class.result ≡ Err (Fault fault) = c.in_err-class.was ∙ ap (λ x. Err x) (sym p.2 ∙ stop) in
    let why = c.class.ensures.fault fault e in
    let has = c.in_ok-task.ensures.task in
    let new : place_of (own_names c.args.self.now) (class_taken c.args.how (plain_lock c.args.lock)) ≡ None =
    (λ i. place_of (names_at (sym has.classes i) (sym has.own i)) (sym c.class_of.ensures i)) ∙ why.1 in
    let full : MOST_CLASSES ≤ length c.args.self.now.own = subst (λ (own : List ℕ). MOST_CLASSES ≤ length own) has.own why.2 in
    fault-classes all c.args.self.now is_at c.args.how c.args.task.now (plain_lock c.args.lock) has.fits new full ∙ ap Some (sym why.0)

pub returns-then-held-ge-MOST_HELD-clause-fault : goal.returns-then-held-ge-MOST_HELD-clause-fault
returns-then-held-ge-MOST_HELD-clause-fault c fault is start all is_at =
    let id = c.in_ok-task.task in
    let lock = plain_lock c.args.lock in
    let enters : Entered c.args.self.now c.args.task.now (class_taken c.args.how lock) id c.in_ok-class.class c.class.new.self =
    subst (λ class. Entered c.args.self.now c.args.task.now class id c.in_ok-class.class c.class.new.self) c.class_of.ensures
    (entered c.args.self.now c.task.new.self c.class.new.self c.args.task.now (plain_class c.class_of.result) id c.in_ok-class.class
    c.in_ok-task.ensures.task c.class.ensures.others c.in_ok-class.ensures.many c.in_ok-class.ensures.classes c.in_ok-class.ensures.own c.in_ok-class.ensures.place c.in_ok-class.ensures.fits) in
    let held = length-held all c.args.self.now is_at c.args.how c.args.task.now lock c.args.line id c.in_ok-class.class c.class.new.self enters in
    let long : length (get_or c.class.new.self.locks.stacks id []) ≡ length c.held.result.now = ap length (sym c.held.ensures) ∙ length-map
    c.held.result.now (λ (held : Held). hold_of (plain_held held)) in
    let same : TooDeep ≡ fault = cc in
    fault-deep all c.args.self.now is_at c.args.how c.args.task.now lock enters.fits enters.few_classes
    (omega (arith, held, long, c.if-held-ge-MOST_HELD.true, ap length (enters.stacks id), is_at.shallow id)) ∙ ap Some same

pub returns-clause-ok : goal.returns-clause-ok
returns-clause-ok c start all is_at =
    let id = c.in_ok-task.task in
    let class = c.in_ok-class.class in
    let lock = plain_lock c.args.lock in
    let enters : Entered c.args.self.now c.args.task.now (class_taken c.args.how lock) id class c.class.new.self =
    subst (λ name. Entered c.args.self.now c.args.task.now name id class c.class.new.self) c.class_of.ensures
    (entered c.args.self.now c.task.new.self c.class.new.self c.args.task.now (plain_class c.class_of.result) id class
    c.in_ok-task.ensures.task c.class.ensures.others c.in_ok-class.ensures.many c.in_ok-class.ensures.classes c.in_ok-class.ensures.own c.in_ok-class.ensures.place c.in_ok-class.ensures.fits) in
    let shallow : length (get_or c.class.new.self.locks.stacks id []) < MOST_HELD =
    omega (arith, ap length (sym c.held.ensures), length-map c.held.result.now (λ (held : Held). hold_of (plain_held held)), c.if-held-ge-MOST_HELD.false) in
    subst (IsAt start (all ++ happens c.args.line (acquisition c.args.how c.args.task.now lock) ∷ [])) (sym c.in_ok-take.ensures.taken)
    (elim c.if-waits.branch [
      | then-waits+in_ok-wait w ↦
          subst (λ (scan : Scan). IsAt start (all ++ happens c.args.line (acquisition c.args.how c.args.task.now lock) ∷ []) (taken scan id class lock c.args.line)) (sym w.self-is)
          (acquired-at all c.args.self.now is_at c.args.how c.args.task.now lock c.args.line id class c.class.new.self enters (sym c.waits.ensures ∙ w.if-waits.true) shallow
          w.wait.new.self w.in_ok-wait.ensures.waited)
      | else-waits w ↦
          subst (λ (scan : Scan). IsAt start (all ++ happens c.args.line (acquisition c.args.how c.args.task.now lock) ∷ []) (taken scan id class lock c.args.line)) (sym w.self-is)
          (tried-at all c.args.self.now is_at c.args.how c.args.task.now lock c.args.line id class c.class.new.self enters (sym c.waits.ensures ∙ w.if-waits.false) shallow)
    ])
