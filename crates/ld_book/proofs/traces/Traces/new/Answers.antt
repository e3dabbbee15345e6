use Rattle.std.proofs.Common.{◌≡◌, List, IsPermutation, subst}
use Rattle.std.specs.Cow.{cow_slice_items}
use Rattle.std.proofs.lemmas.List.Sorted.{All-permutation, IsPermutation-map}
use Rattle.ld_trace.specs.Sources.{PlainSource, plain}
use Rattle.ld_rules.specs.declared.outcome.Listed.{Listed}
use Rattle.ld_facts.specs.Outcome.{outcome}
use Rattle.ld_batch.specs.Batch.{sources_of}
use Rattle.ld_book.proofs.RisingLemmas.{rising_from_sorted}
use Rattle.ld_book.proofs.traces.Traces.new.Goals as goal

-- of traces in another order the sources are in another order
moved_sources : (sources : List PlainSource) (listed sorted : List Listed) → sources_of listed ≡ sources → IsPermutation listed sorted → IsPermutation sources (sources_of sorted)
moved_sources sources listed sorted shown moved =
    subst (λ l. IsPermutation l (sources_of sorted)) shown (IsPermutation-map (λ (l : Listed). plain l.source) listed sorted moved)

pub invariant_of-result : goal.invariant_of-result
invariant_of-result c =
    let before = c.listed.result.now in
    let sorted = cow_slice_items c.in_ok-listed.listed in
    let moved = moved_sources c.args.book.now before sorted c.listed.ensures.sources c.in_ok-listed.ensures.permutation in (
      All-permutation (λ (l : Listed). l.outcome ≡ outcome (plain l.source)) before sorted c.in_ok-listed.ensures.permutation c.listed.ensures.outcomes,
      rising_from_sorted c.args.book.now sorted moved c.listed.ensures.distinct c.in_ok-listed.ensures.sorted,
    )

pub returns-clause-same : goal.returns-clause-same
returns-clause-same c =
    moved_sources c.args.book.now c.listed.result.now (cow_slice_items c.in_ok-listed.listed) c.listed.ensures.sources c.in_ok-listed.ensures.permutation

pub returns-clause-rising : goal.returns-clause-rising
returns-clause-rising c =
    let sorted = cow_slice_items c.in_ok-listed.listed in
    let moved = moved_sources c.args.book.now c.listed.result.now sorted c.listed.ensures.sources c.in_ok-listed.ensures.permutation in
    rising_from_sorted c.args.book.now sorted moved c.listed.ensures.distinct c.in_ok-listed.ensures.sorted
