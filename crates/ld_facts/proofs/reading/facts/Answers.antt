-- A new scan is at a start with nothing, so what is read into it is what the trace shows.
use Rattle.std.proofs.Common.{Ok, ap, sym, subst, ◌∙◌}
use Rattle.ld_trace.specs.Sources.{plain}
use Rattle.ld_rules.specs.declared.outcome.Outcome.TheVariants.{Read}
use Rattle.ld_facts.specs.Facts.{IsKnown}
use Rattle.ld_facts.specs.Inner.Scan.{no_start}
use Rattle.ld_facts.proofs.KnownLemmas.{none-at, read-known}
use Rattle.ld_facts.proofs.reading.facts.Goals as goal

pub invariant_of-result : goal.invariant_of-result
invariant_of-result c =
    subst (λ edges. IsKnown (record {
      source = plain c.args.source;
      outcome = Read c.in-Ok-Read.events;
      classes = c.read_into.new.scan.classes;
      edges = edges;
      usage = c.read_into.new.scan.uses;
    })) (sym c.in-Ok.ensures)
    (read-known (plain c.args.source) c.read_into.new.scan c.in-Ok-Read.events c.requires
    (c.read_into.ensures.read c.in-Ok-Read.events (c.in-Ok-Read.is ∙ ap Ok c.in-Ok-Read.field-0-is) no_start (none-at c.new-scan.result c.new-scan.ensures))
    (sym (c.in-Ok-Read.ensures.outcome no_start (none-at c.new-scan.result c.new-scan.ensures)) ∙ c.in-Ok-Read.field-0-is))

pub refused-requires-clause-outcome : goal.refused-requires-clause-outcome
refused-requires-clause-outcome c = sym (c.in-Ok-Refused.ensures.outcome no_start (none-at c.new-scan.result c.new-scan.ensures)) ∙ c.in-Ok-Refused.field-0-is
