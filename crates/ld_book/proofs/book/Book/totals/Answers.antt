use Rattle.std.proofs.Common.{◌∙◌, ap, length, sym}
use Rattle.std.proofs.lemmas.List.{length-map}
use Rattle.ld_trace.specs.Sources.{plain}
use Rattle.ld_book.specs.Totals.{totals}
use Rattle.ld_book.proofs.TotalLemmas.{length-edges}
use Rattle.ld_book.proofs.book.Book.totals.Goals as goal

pub returns-clause-totals : goal.returns-clause-totals
returns-clause-totals c =
    let union = c.self.inside.union in
    let shows = c.self.invariant.shows in
    (λ i. record {
      traces = (sym (length-map c.traces.result.now (λ l. plain l.source)) ∙ ap length c.traces.ensures.sources) i;
      refused = c.refused.ensures i;
      events = c.events.ensures i;
      classes = (c.len.ensures.len ∙ ap length (c.classes.ensures.same ∙ shows.classes)) i;
      dependencies = (ap length c.dependencies.ensures.same ∙ length-edges union.classes union.dependencies c.self.inside.listing.sources shows.numbered shows.witnesses) i;
    }) ∙ ap totals c.self.view_is
