-- The first field is a verb, or none.
use Rattle.std.proofs.Common.{sym, ◌∙◌, ap}
use Rattle.ld_trace.specs.Lines.{fields}
use Rattle.ld_trace.specs.Events.{said_by_fields}
use Rattle.ld_trace.proofs.VerbLemmas.{said-line, said-no_verb}
use Rattle.ld_trace.proofs.event.read_event.Goals as goal

pub returns-in-Some-of : goal.returns-in-Some-of
returns-in-Some-of c = c.read.ensures ∙ said-line _ _ _ c.in-Some-of.verb c.in-Some.ensures c.in-Some-of.ensures.found

pub returns-in-None : goal.returns-in-None
returns-in-None c = sym (ap said_by_fields c.in-Some.ensures ∙ said-no_verb c.in-Some.first.now (fields c.in-Some.rest.now)
    (sym c.begins_comment.ensures ∙ c.if-begins_comment.false) c.in-None.ensures.none)
