use Rattle.std.proofs.Common.{rules, ◌≡◌, ◌∙◌, Ok, ap, sym}
use Rattle.ld_trace.specs.Sources.{plain}
use Rattle.ld_facts.specs.Inner.Scan.{start_of}
use Rattle.ld_facts.proofs.BatchLemmas.{own-none, own-read, shows-none, shows-read}
use Rattle.ld_facts.proofs.batch_reading.scan_source.Goals as goal

pub returns-in-Ok-Read-clause-outcome : goal.returns-in-Ok-Read-clause-outcome
returns-in-Ok-Read-clause-outcome c = sym c.in-Ok-Read.field-0-is ∙ c.in-Ok-Read.ensures.outcome (start_of c.args.scan.now) c.requires.begun

pub returns-in-Ok-Read-clause-shows : goal.returns-in-Ok-Read-clause-shows
returns-in-Ok-Read-clause-shows c =
    shows-read c.args.scan.now c.read_into.new.scan (plain c.args.source) c.in-Ok-Read.events
    (sym (c.in-Ok-Read.ensures.outcome (start_of c.args.scan.now) c.requires.begun) ∙ c.in-Ok-Read.field-0-is)
    (c.read_into.ensures.read c.in-Ok-Read.events (c.in-Ok-Read.is ∙ ap Ok c.in-Ok-Read.field-0-is) (start_of c.args.scan.now) c.requires.begun)

pub returns-in-Ok-Read-clause-own : goal.returns-in-Ok-Read-clause-own
returns-in-Ok-Read-clause-own c =
    own-read c.args.scan.now c.read_into.new.scan (plain c.args.source) c.in-Ok-Read.events
    (sym (c.in-Ok-Read.ensures.outcome (start_of c.args.scan.now) c.requires.begun) ∙ c.in-Ok-Read.field-0-is)
    (c.read_into.ensures.read c.in-Ok-Read.events (c.in-Ok-Read.is ∙ ap Ok c.in-Ok-Read.field-0-is) (start_of c.args.scan.now) c.requires.begun)

pub returns-in-Ok-Refused-clause-outcome : goal.returns-in-Ok-Refused-clause-outcome
returns-in-Ok-Refused-clause-outcome c = sym c.in-Ok-Refused.field-0-is ∙ c.in-Ok-Refused.ensures.outcome (start_of c.args.scan.now) c.requires.begun

pub returns-in-Ok-Refused-clause-shows : goal.returns-in-Ok-Refused-clause-shows
returns-in-Ok-Refused-clause-shows c =
    let same : c.undo.new.self ≡ c.args.scan.now = search rules in
    shows-none c.args.scan.now c.undo.new.self (plain c.args.source) c.in-Ok-Refused.line c.in-Ok-Refused.fault
    (sym (c.in-Ok-Refused.ensures.outcome (start_of c.args.scan.now) c.requires.begun) ∙ c.in-Ok-Refused.field-0-is) same c.requires.begun

pub returns-in-Ok-Refused-clause-own : goal.returns-in-Ok-Refused-clause-own
returns-in-Ok-Refused-clause-own c =
    let same : c.undo.new.self ≡ c.args.scan.now = search rules in
    own-none c.args.scan.now c.undo.new.self (plain c.args.source) c.in-Ok-Refused.line c.in-Ok-Refused.fault
    (sym (c.in-Ok-Refused.ensures.outcome (start_of c.args.scan.now) c.requires.begun) ∙ c.in-Ok-Refused.field-0-is) same c.requires.ready
