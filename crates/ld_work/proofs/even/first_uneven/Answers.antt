use Rattle.std.proofs.Common.{rules, ◌≡◌, ◌<◌, ◌≤◌, ◌∙◌, ap, arith, length, map, sym, get_or}
use Rattle.std.proofs.lemmas.List.{length-map, take_more_same}
use Rattle.ld_trace.specs.Sources.{PlainSource, plain}
use Rattle.ld_batch.specs.Batch.{sources_of}
use Rattle.ld_work.proofs.EvenLemmas.{all_in_place, any, listed_at, same_by_number, uneven_from_other}
use Rattle.ld_work.proofs.even.first_uneven.Goals as goal

pub loop-place-preserved : goal.loop-place-preserved
loop-place-preserved c =
    let listed = sources_of c.args.listed.now in
    let sources = map plain c.args.sources.now in
    let place = c.loop-place.place in
    let trace = c.in-Some.trace.now in
    let within : place < length c.args.listed.now = search rules in
    let below : place < length c.args.sources.now = search rules in
    let found : trace ≡ get_or c.args.listed.now place trace = c.in-Some.ensures.lookup.1 in
    let is : trace.source.number ≡ place = search rules in
    let inside : place < length listed = omega (arith, within, length-map c.args.listed.now (λ l. plain l.source)) in
    let number : (get_or listed place any).number ≡ place = ap (λ (s : PlainSource). s.number) (listed_at c.args.listed.now place trace any within found) ∙ is in (
      omega (arith, within),
      take_more_same listed sources place any inside (omega (arith, below, length-map c.args.sources.now plain)) c.loop-place.invariant.1
          (same_by_number sources listed place any c.requires.numbered c.requires.among inside number),
    )

pub returns-in_default-clause-uneven : goal.returns-in_default-clause-uneven
returns-in_default-clause-uneven c =
    let listed = sources_of c.args.listed.now in
    let sources = map plain c.args.sources.now in
    let place = c.loop-place.place in
    let trace = c.in-Some.trace.now in
    let within : place < length c.args.listed.now = search rules in
    let below : place < length c.args.sources.now = search rules in
    let found : trace ≡ get_or c.args.listed.now place trace = c.in-Some.ensures.lookup.1 in
    let inside : place < length sources = omega (arith, below, length-map c.args.sources.now plain) in
    let differs : trace.source.number ≡ place → ⊥ = search rules in
    uneven_from_other sources listed place c.requires.numbered c.requires.rising (omega (arith, inside))
    (omega (arith, within, length-map c.args.listed.now (λ l. plain l.source))) c.loop-place.invariant.1
    inside (λ d more is. differs (ap (λ (s : PlainSource). s.number) (sym (listed_at c.args.listed.now place trace d within found) ∙ is) ∙ c.requires.numbered place d inside))

pub returns-in_default-2-clause-uneven : goal.returns-in_default-2-clause-uneven
returns-in_default-2-clause-uneven c =
    let listed = sources_of c.args.listed.now in
    let sources = map plain c.args.sources.now in
    let place = c.loop-place.place in
    let past : length c.args.listed.now ≤ place = search rules in
    let below : place < length c.args.sources.now = search rules in
    let inside : place < length sources = omega (arith, below, length-map c.args.sources.now plain) in
    uneven_from_other sources listed place c.requires.numbered c.requires.rising (omega (arith, inside))
    (omega (arith, c.loop-place.invariant.0, length-map c.args.listed.now (λ l. plain l.source))) c.loop-place.invariant.1
    inside (λ d more is. omega (arith, more, past, length-map c.args.listed.now (λ l. plain l.source)))

pub returns-clause-even : goal.returns-clause-even
returns-clause-even c =
    let listed = sources_of c.args.listed.now in
    let sources = map plain c.args.sources.now in
    let place = c.loop-place.place in
    let all : place ≡ length c.args.sources.now = search rules in
    all_in_place sources listed place c.requires.numbered c.requires.rising c.requires.among
    (omega (arith, all, length-map c.args.sources.now plain))
    (omega (arith, c.loop-place.invariant.0, length-map c.args.listed.now (λ l. plain l.source))) c.loop-place.invariant.1
