-- Each line takes the scan one position further, or refuses the trace.
use Rattle.std.proofs.Common.{rules, ◌≡◌, ◌+◌, None, Some, Ok, Err, arith, sym, ap, subst, refl, ◌∙◌, length, length-append}
use Rattle.ld_trace.specs.Lines.{text_of}
use Rattle.ld_trace.specs.Sources.{plain}
use Rattle.ld_trace.specs.Events.{answer_seen, plain_event, said_by}
use Rattle.ld_rules.specs.declared.outcome.Outcome.TheVariants.{Refused}
use Rattle.ld_facts.specs.Inner.Scan.{StandsOn}
use Rattle.ld_facts.proofs.KnownLemmas.{moved, read-at, read-none, read-outcome, read-nothing, read-event, refused-event, refused-line}
use Rattle.ld_facts.proofs.StandsLemmas.{stands-further, stands-same}
use Rattle.ld_facts.proofs.reading.read_into.Goals as goal
use Rattle.ld_facts.proofs.reading.read_into.Goals.{in-Ok-None, in-Ok-Some+in-Ok}

pub loop-said-init : goal.loop-said-init
loop-said-init c = record { many = c.requires.many; lines = omega arith; counted = omega arith; read = read-none (plain c.args.source) c.args.scan.now; stands = stands-same c.args.scan.now }

pub returns-in-Err-Fault-clause-outcome : goal.returns-in-Err-Fault-clause-outcome
returns-in-Err-Fault-clause-outcome c start is_at =
    let first = c.in-Some.ensures in
    let is : said_by (text_of first.line) ≡ Ok (Some (plain_event c.in-Ok-Some.event)) = search rules in
    sym (refused-event (plain c.args.source) c.loop-said.line c.loop-said.rest.now c.args.scan.now c.loop-said.scan c.loop-said.events c.loop-said.invariant.read
    first.line c.in-Some.others.now first.first start is_at
    (plain_event c.in-Ok-Some.event) c.in-Err-Fault.fault is
    (c.step.ensures.fault c.in-Err-Fault.fault (c.in-Err-Fault.is ∙ ap Err c.in-Err-Fault.field-0-is))
    ∙ ap (Refused c.loop-said.line) (sym c.in-Err-Fault.fault-is))

pub returns-in-Err-clause-outcome : goal.returns-in-Err-clause-outcome
returns-in-Err-clause-outcome c start is_at =
    let first = c.in-Some.ensures in
    sym (refused-line (plain c.args.source) c.loop-said.line c.loop-said.rest.now c.args.scan.now c.loop-said.scan c.loop-said.events c.loop-said.invariant.read
    first.line c.in-Some.others.now first.first start is_at
    c.in-Err.fault (first.says ∙ ap answer_seen c.in-Err.is)
    ∙ ap (Refused c.loop-said.line) (sym c.from-fault.ensures))

pub returns-clause-outcome : goal.returns-clause-outcome
returns-clause-outcome c start is_at =
    sym (read-outcome (plain c.args.source) c.loop-said.line c.loop-said.rest.now c.args.scan.now c.loop-said.scan c.loop-said.events c.loop-said.invariant.read
    c.in_default.ensures start is_at)

pub returns-clause-read : goal.returns-clause-read
returns-clause-read c events is start is_at =
    read-at (plain c.args.source) c.loop-said.line c.loop-said.rest.now c.args.scan.now c.loop-said.scan c.loop-said.events c.loop-said.invariant.read
    c.in_default.ensures start is_at

pub loop-said-preserved : goal.loop-said-preserved
loop-said-preserved c =
    let first = c.in-Some.ensures in
    elim c.match-said-2.branch [
      | in-Ok-None w ↦ let is : said_by (text_of first.line) ≡ Ok None = search rules in record {
        many = search rules;
        lines = omega (arith, ap length first.whole, length-append first.line c.in-Some.others.now, first.nonempty);
        counted = omega (arith, ap length first.whole, length-append first.line c.in-Some.others.now, first.nonempty);
        read =
            moved (plain c.args.source) (c.loop-said.line + 1) c.in-Some.others.now c.args.scan.now _ _ _ _ w.scan-is w.events-is
            (read-nothing (plain c.args.source) c.loop-said.line c.loop-said.rest.now c.args.scan.now c.loop-said.scan c.loop-said.events c.loop-said.invariant.read
            first.line c.in-Some.others.now first.first is);
        stands = subst (StandsOn c.args.scan.now) (sym w.scan-is) c.loop-said.invariant.stands;
      }
      | in-Ok-Some+in-Ok w ↦ record {
        many = search rules;
        lines = omega (arith, ap length first.whole, length-append first.line c.in-Some.others.now, first.nonempty);
        counted = omega (arith, ap length first.whole, length-append first.line c.in-Some.others.now, first.nonempty);
        read =
            moved (plain c.args.source) (c.loop-said.line + 1) c.in-Some.others.now c.args.scan.now _ _ _ _ w.scan-is w.events-is
            (read-event (plain c.args.source) c.loop-said.line c.loop-said.rest.now c.args.scan.now c.loop-said.scan c.loop-said.events c.loop-said.invariant.read
            first.line c.in-Some.others.now first.first
            (text_of first.line) _ w.step.new.self refl w.in-Ok.ensures.ok (search rules));
        stands =
            subst (StandsOn c.args.scan.now) (sym w.scan-is)
            (stands-further c.args.scan.now c.loop-said.scan w.step.new.self c.loop-said.invariant.stands w.step.ensures.first);
      }
    ]
