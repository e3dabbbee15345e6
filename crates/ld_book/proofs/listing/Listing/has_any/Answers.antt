use Rattle.std.proofs.Common.{◌||◌, ◌∙◌, ap, sym}
use Rattle.std.proofs.lemmas.List.{get_or-map}
use Rattle.std.proofs.lemmas.List.Folds.{list_any_at, list_any_more}
use Rattle.ld_trace.specs.Sources.{PlainSource, plain}
use Rattle.ld_batch.specs.Batch.{sources_of}
use Rattle.ld_book.specs.Book.{is_listed}
use Rattle.ld_book.proofs.ListedLemmas.{no_source, source_within}
use Rattle.ld_book.proofs.listing.Listing.has_any.Goals as goal

pub returns-then-has : goal.returns-then-has
returns-then-has c =
    let traces = c.args.traces.now in
    let i = c.loop-trace.trace-index in
    let here = c.loop-trace-test.true in
    sym (list_any_at (λ (source : PlainSource). is_listed c.args.self.now.sources source.number) (sources_of traces) i no_source (source_within traces i here)
    (ap (λ (source : PlainSource). is_listed c.args.self.now.sources source.number) (get_or-map (λ t. plain t.source) traces i _ no_source here) ∙ sym c.if-has.ensures))

pub loop-trace-preserved : goal.loop-trace-preserved
loop-trace-preserved c =
    let traces = c.args.traces.now in
    let i = c.loop-trace.trace-index in
    let here = c.loop-trace-test.true in
    list_any_more (λ (source : PlainSource). is_listed c.args.self.now.sources source.number) (sources_of traces) i no_source (source_within traces i here)
    ∙ (λ j. c.loop-trace.invariant j
    || (ap (λ (source : PlainSource). is_listed c.args.self.now.sources source.number) (get_or-map (λ t. plain t.source) traces i _ no_source here) ∙ sym c.if-has.ensures) j)
