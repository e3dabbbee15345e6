use Rattle.std.proofs.Common.{◌≡◌, ◌*◌, ◌+◌, ◌<◌, ◌≤◌, ◌++◌, ◌∷◌, [], ◌∙◌, List, ℕ, None, IfSome, ap, arith, drop, length, refl, subst, sym, take}
use Rattle.std.proofs.lemmas.List.{length-map}
use Rattle.std.specs.List.{last_or}
use Rattle.ld_trace.specs.declared.source.TheConstants.{MOST_TRACES}
use Rattle.ld_trace.specs.Sources.{plain}
use Rattle.ld_rules.specs.declared.outcome.Listed.{Listed}
use Rattle.ld_rules.specs.declared.outcome.TheConstants.{MOST_CLASSES}
use Rattle.ld_batch.specs.Batch.{AreRising, PlainShown, sources_of}
use Rattle.ld_facts.specs.declared.bounds.TheConstants.{MOST_KNOWN}
use Rattle.ld_facts.proofs.BatchLemmas.{above_all, few_below, many-edges, many-uses}
use Rattle.ld_facts.proofs.SeriesLemmas.{series-pushed, sources-split}
use Rattle.ld_facts.proofs.series.Series.push.Goals as goal

-- the number is above the last one's, as the fields tell that
above : (listed : List Listed) (n number : ℕ) (shown : PlainShown) → sources_of (take n listed) ≡ shown.behind → sources_of (drop n listed) ≡ shown.sources
    → IfSome (last_or None (shown.behind ++ shown.sources)) (λ last. last.number < number) → IfSome (last_or None (sources_of listed)) (λ last. last.number < number)
above listed n number shown behind since =
    subst (λ all. IfSome (last_or None all) (λ last. last.number < number)) (sym (λ i. behind i ++ since i) ∙ sources-split n listed)

-- so as many traces are listed as there are lower numbers, at most
few : (listed : List Listed) (number : ℕ) → AreRising (sources_of listed) → IfSome (last_or None (sources_of listed)) (λ last. last.number < number) → length listed ≤ number
few listed number rise above =
    let low = few_below (sources_of listed) number rise (above_all (sources_of listed) number rise above) in
    omega (arith, low, length-map listed (λ (l : Listed). plain l.source))

pub read-requires-clause-room : goal.read-requires-clause-room
read-requires-clause-room c =
    let listed = c.self.inside.listed.items in
    let low = few listed c.args.source.number c.self.invariant.kept.exact.rise
    (above listed c.self.inside.passed.traces c.args.source.number c.args.self.now (ap (λ s. s.behind) c.self.view_is) (ap (λ s. s.sources) c.self.view_is) c.requires.above) in
    let traces : c.args.source.number < MOST_TRACES = c.requires.fits.number in
    let classes : length c.self.inside.scan.classes ≤ MOST_KNOWN + length listed * MOST_CLASSES = c.self.invariant.kept.known in
    omega (arith, low, traces, classes)

pub read-requires-clause-few : goal.read-requires-clause-few
read-requires-clause-few c =
    let listed = c.self.inside.listed.items in
    let low = few listed c.args.source.number c.self.invariant.kept.exact.rise
    (above listed c.self.inside.passed.traces c.args.source.number c.args.self.now (ap (λ s. s.behind) c.self.view_is) (ap (λ s. s.sources) c.self.view_is) c.requires.above) in
    let traces : c.args.source.number < MOST_TRACES = c.requires.fits.number in
    let classes : length c.self.inside.rows.classes ≤ length listed * MOST_CLASSES = c.self.invariant.kept.few in
    omega (arith, low, traces, classes)

pub read-requires-clause-edges : goal.read-requires-clause-edges
read-requires-clause-edges c = many-edges _ c.self.invariant.kept

pub read-requires-clause-usage : goal.read-requires-clause-usage
read-requires-clause-usage c = many-uses _ c.self.invariant.kept

pub invariant_of-self-2 : goal.invariant_of-self-2
invariant_of-self-2 c =
    let last : Listed = record { source = c.args.source; outcome = c.in_ok-outcome.outcome } in
    series-pushed _ _ last c.self.invariant
    (record {
      fits = c.requires.fits;
      outcome = c.in_ok-outcome.ensures.outcome;
      above = above c.self.inside.listed.items c.self.inside.passed.traces c.args.source.number c.args.self.now (ap (λ s. s.behind) c.self.view_is) (ap (λ s. s.sources) c.self.view_is) c.requires.above;
      listed = c.push_reserved.ensures.items ∙ ap (λ all. all ++ last ∷ []) c.reserve.ensures.items;
      shows = c.in_ok-outcome.ensures.shows;
      classes = c.in_ok-outcome.ensures.classes;
      names = c.in_ok-outcome.ensures.names;
      edges = c.in_ok-outcome.ensures.edges;
      usage = c.in_ok-outcome.ensures.usage;
      own_edges = c.in_ok-outcome.ensures.own_edges;
      own_uses = c.in_ok-outcome.ensures.own_uses;
      ready = c.in_ok-outcome.ensures.ready;
      begun = c.in_ok-outcome.ensures.begun;
    })
    refl c.in_ok-outcome.ensures.front c.in_ok-outcome.ensures.words c.in_ok-outcome.ensures.own_words
