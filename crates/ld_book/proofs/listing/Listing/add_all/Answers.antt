use Rattle.std.proofs.Common.{◌≡◌, ◌++◌, ◌∷◌, [], ◌∙◌, ap, append_assoc, arith, false, get_or, subst, sym, take}
use Rattle.std.proofs.lemmas.List.{get_or-map, take_more}
use Rattle.ld_trace.specs.Sources.{Fits, PlainSource, plain}
use Rattle.ld_batch.specs.Batch.{sources_of}
use Rattle.ld_book.specs.Book.{is_listed}
use Rattle.ld_book.proofs.ListedLemmas.{no_source, source_within}
use Rattle.ld_book.proofs.ListingLemmas.{fresh_next}
use Rattle.ld_book.proofs.listing.Listing.add_all.Goals as goal

pub add-requires-clause-fresh : goal.add-requires-clause-fresh
add-requires-clause-fresh c =
    let traces = c.args.traces.now in
    let i = c.loop-trace.trace-index in
    let here = c.loop-trace-test.true in
    subst (λ number. is_listed c.loop-trace.self.sources number ≡ false) (ap (λ (s : PlainSource). s.number) (get_or-map (λ t. plain t.source) traces i _ no_source here))
    (subst (λ all. is_listed all (get_or (sources_of traces) i no_source).number ≡ false) (sym c.loop-trace.invariant.sources)
    (fresh_next c.args.self.now.sources (sources_of traces) i no_source (source_within traces i here) c.requires.fresh c.requires.apart))

pub add-requires-clause-fits : goal.add-requires-clause-fits
add-requires-clause-fits c =
    let traces = c.args.traces.now in
    let i = c.loop-trace.trace-index in
    let here = c.loop-trace-test.true in
    subst Fits (get_or-map (λ t. plain t.source) traces i _ no_source here) (c.requires.fit i no_source (source_within traces i here))

pub loop-trace-preserved : goal.loop-trace-preserved
loop-trace-preserved c =
    let traces = c.args.traces.now in
    let old = c.args.self.now.sources in
    let i = c.loop-trace.trace-index in
    let here = c.loop-trace-test.true in
    record {
      sources =
          subst (λ source. c.add.new.self.sources ≡ c.loop-trace.self.sources ++ source ∷ []) (sym (get_or-map (λ t. plain t.source) traces i _ no_source here)) c.add.ensures.sources
          ∙ ap (λ all. all ++ get_or (sources_of traces) i no_source ∷ []) c.loop-trace.invariant.sources
          ∙ append_assoc old (take i (sources_of traces)) (get_or (sources_of traces) i no_source ∷ [])
          ∙ ap (λ all. old ++ all) (sym (take_more (sources_of traces) i no_source (source_within traces i here)));
      spare = omega (arith, c.loop-trace.invariant.spare, c.add.ensures.spare);
    }
