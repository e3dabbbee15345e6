-- A batch to which one more trace is added.
use Rattle.std.proofs.Common.{◌≡◌, ◌≢◌, ◌+◌, ◌*◌, ◌<◌, ◌≤◌, ◌++◌, ◌∷◌, [], ◌⊎◌, inl, inr, All, List, ℕ, zero, suc, None, IfSome}
use Rattle.std.proofs.Common.{drop, length, map, fold, flat_map, get_or, refl, ap, sym, subst, ◌∙◌, arith}
use Rattle.std.proofs.lemmas.Bool.{cases_order}
use Rattle.std.proofs.lemmas.List.{drop_all, get_or_push, length-map, length_push, map-append}
use Rattle.std.proofs.lemmas.List.Elements.{All-append, All-drop, All-nil, All-push, All-weaker}
use Rattle.std.proofs.lemmas.List.Quantifiers.{all_pairs_push}
use Rattle.std.specs.List.{last_or, list_any}
use Rattle.ld_class.specs.declared.names.TheConstants.{MOST_NAMES}
use Rattle.ld_class.specs.Names.{PlainClass, no_class, same_class}
use Rattle.ld_trace.specs.declared.source.TheConstants.{MOST_TRACES}
use Rattle.ld_trace.specs.Events.{PlainEvent, positions}
use Rattle.ld_trace.specs.Sources.{Fits, PlainSource, plain}
use Rattle.ld_trace.proofs.PositionLemmas.{positions-ascend}
use Rattle.ld_rules.specs.declared.fault.TraceFault.{TraceFault}
use Rattle.ld_rules.specs.declared.outcome.Listed.{Listed}
use Rattle.ld_rules.specs.declared.outcome.Outcome.{Outcome}
use Rattle.ld_rules.specs.declared.outcome.TheConstants.{MOST_CLASSES}
use Rattle.ld_rules.specs.declared.outcome.Outcome.TheVariants.{Read, Refused}
use Rattle.ld_rules.specs.Dependency.{dependencies_at, same_dependency, seen}
use Rattle.ld_rules.specs.Inner.Scanned.{same_dependency_seen, same_use_seen, with_new}
use Rattle.ld_rules.specs.Outcome.{classes, each_once, events, outcome}
use Rattle.ld_rules.specs.Union.{classes_of, dependencies_of, if_read, uses_of}
use Rattle.ld_rules.specs.Usage.{IsBit, bit_of, same_use, uses_at}
use Rattle.ld_rules.proofs.LeastLemmas.{Ascend, seen-Ascend}
use Rattle.ld_rules.proofs.PlaceLemmas.{by_pushes, last_or-push}
use Rattle.ld_rules.proofs.StepLemmas.{Decides-same_dependency}
use Rattle.ld_rules.proofs.UsageLemmas.{Decides-same_use}
use Rattle.ld_facts.specs.declared.scan.Scan.{Scan}
use Rattle.ld_facts.specs.Named as scans
use Rattle.ld_facts.specs.Inner.Scan.{IsAt, start_of}
use Rattle.ld_facts.proofs.StartLemmas.{begun-at}
use Rattle.ld_batch.specs.Batch.{AreOutcomes, AreRising, IsBatch, IsUse, IsBetween, PlainBatch, named_dependency, named_use, sources_of, witness_of}
use Rattle.ld_facts.specs.Inner.Kept.{AreNames, Fields, HasOwn, IsKept, IsRead, IsReady}
use Rattle.ld_batch.specs.Inner.Names.{IsLonger, with_names}
use Rattle.ld_batch.specs.Inner.Rows.{AreMet, seen_of}
use Rattle.ld_facts.specs.Inner.Rows.{IsOwnEdge, IsOwnUse, edge_of, use_of}
use Rattle.ld_facts.proofs.NamedLemmas.{once-named}
use Rattle.ld_batch.proofs.LineLemmas.{AreOnce}
use Rattle.ld_batch.proofs.MetLemmas.{seen_once}
use Rattle.ld_batch.proofs.NameLemmas.{longer_all, with_names-each_once}
use Rattle.ld_facts.proofs.RowLemmas.{named_rows, named_use_rows, rows_within, use_rows_within}
use Rattle.ld_facts.proofs.ShownLemmas.{own_edges, own_uses}
use Rattle.ld_batch.proofs.SourceLemmas.{AreAdded, added_in_turn, are-met, pairs-of, shown-push, witness-new}
use Rattle.ld_facts.proofs.TraceLemmas.{edges-longer, uses-longer, used-longer, within-longer}

-- a number above the last one's is above all, where numbers rise
above-push : (sources : List PlainSource) (last : PlainSource) (number : ℕ) → AreRising (sources ++ last ∷ []) → last.number < number → All (λ s. s.number < number) (sources ++ last ∷ [])
above-push sources last number rise above k d within = by (cases_order k (length sources))
  where
    here : get_or (sources ++ last ∷ []) (length sources) d ≡ last
    here = get_or_push sources last d (length sources) refl

    by : (k ≡ length sources) ⊎ ((k < length sources) ⊎ (length sources < k)) → (get_or (sources ++ last ∷ []) k d).number < number
    by (inl same) = let at = ap (λ n. (get_or (sources ++ last ∷ []) n d).number) same ∙ ap (λ s. s.number) here in omega (arith, at, above)
    by (inr (inl before)) =
        let rises = rise k (length sources) d before (omega (arith, length_push sources last)) in
        let at = ap (λ s. s.number) here in
        omega (arith, rises, at, above)
    by (inr (inr after)) = absurd (omega (arith, within, after, length_push sources last))

pub above_all : (sources : List PlainSource) (number : ℕ) → AreRising sources → IfSome (last_or None sources) (λ last. last.number < number) → All (λ s. s.number < number) sources
above_all sources number = by_pushes (λ ss. AreRising ss → IfSome (last_or None ss) (λ last. last.number < number) → All (λ s. s.number < number) ss)
    (λ rise above. All-nil (λ s. s.number < number))
    (λ ss s before rise above. above-push ss s number rise (subst (λ o. IfSome o (λ last. last.number < number)) (last_or-push None ss s) above))
    sources

-- rising numbers below a bound are few
at_least : (sources : List PlainSource) (d : PlainSource) → AreRising sources → (k : ℕ) → k < length sources → k ≤ (get_or sources k d).number
at_least sources d rise zero within = omega arith
at_least sources d rise (suc k) within =
    let rises = rise k (suc k) d (omega arith) within in
    let before = at_least sources d rise k (omega (arith, within)) in
    omega (arith, rises, before)

pub few_below : (sources : List PlainSource) (number : ℕ) → AreRising sources → All (λ s. s.number < number) sources → length sources ≤ number
few_below sources number rise below = by (length sources) refl
  where
    none : PlainSource
    none = record { number = 0; label = []; first_line = 0; bytes = [] }

    by : (n : ℕ) → length sources ≡ n → n ≤ number
    by zero is = omega arith
    by (suc n) is =
        let within : n < length sources = omega (arith, is) in
        omega (arith, below n none within, at_least sources none rise n within)

-- rising numbers of sources that fit are few
pub few_sources : (sources : List PlainSource) → All Fits sources → AreRising sources → length sources ≤ MOST_TRACES
few_sources sources fit rise = by (length sources) refl
  where
    none : PlainSource
    none = record { number = 0; label = []; first_line = 0; bytes = [] }

    by : (n : ℕ) → length sources ≡ n → n ≤ MOST_TRACES
    by zero is = omega arith
    by (suc n) is =
        let within : n < length sources = omega (arith, is) in
        let low : (get_or sources n none).number < MOST_TRACES = (fit n none within).number in
        omega (arith, at_least sources none rise n within, low)

-- A scan with more doesn't have many more names.
pub room-left : (old new : Scan) (source : PlainSource) → IsRead old source new → length old.classes + 2 * MOST_CLASSES ≤ MOST_NAMES → length new.classes + MOST_CLASSES ≤ MOST_NAMES
room-left old new source shows room =
    let longer = longer_all old.classes (classes_of source) in
    omega (arith, shows.few, ap length shows.names, longer.most, room)

-- the rows of a batch are as many as its scan has
pub many-edges : (fields : Fields) → IsKept fields → length fields.edges ≡ length fields.scan.locks.edges
many-edges fields kept =
    let names = fields.classes in
    let met = map (named_dependency names) fields.edges in
    omega (arith, length-map fields.edges (named_dependency names), length-map met seen_of, ap length kept.edges.same, length-map fields.scan.locks.edges (scans.named_dependency fields.scan.classes))

pub many-uses : (fields : Fields) → IsKept fields → length fields.usage ≡ length fields.scan.uses
many-uses fields kept =
    let names = fields.classes in
    let met = map (named_use names) fields.usage in
    omega (arith, length-map fields.usage (named_use names), length-map met seen_of, ap length kept.usage.same, length-map fields.scan.uses (scans.named_use fields.scan.classes))

-- the fields before and after, and the trace that was added
pub record IsPushed (old new : Fields) (last : Listed) : Type 0 where
  pub fits : Fits (plain last.source)
  pub outcome : last.outcome ≡ outcome (plain last.source)
  pub above : IfSome (last_or None (sources_of old.listed)) (λ l. l.number < last.source.number)
  pub listed : new.listed ≡ old.listed ++ last ∷ []
  pub shows : IsRead old.scan (plain last.source) new.scan
  pub classes : new.classes ≡ with_names old.classes (classes_of (plain last.source))
  pub names : AreNames new.scan.classes new.numbers new.classes
  pub edges : new.edges ≡ old.edges ++ map (edge_of new.numbers last.source.number) (drop (length old.edges) new.scan.locks.edges)
  pub usage : new.usage ≡ old.usage ++ map (use_of new.numbers last.source.number) (drop (length old.usage) new.scan.uses)
  pub own_edges : All (IsOwnEdge new.numbers) (drop (length old.edges) new.scan.locks.edges)
  pub own_uses : All (IsOwnUse new.numbers) (drop (length old.usage) new.scan.uses)
  pub ready : IsReady new.scan
  pub begun : IsAt (start_of new.scan) [] new.scan

-- A trace begins where a scan is ready for it.
pub begins : (old new : Scan) (source : PlainSource) → IsReady new → IsRead old source new → length new.classes + MOST_CLASSES ≤ MOST_NAMES → IsAt (start_of new) [] new
begins old new source is shows room = subst (IsAt (start_of new) []) (sym is) (begun-at new shows.distinct shows.once shows.within shows.used room)

-- what a scan has where it read the source to its end
pub shows-read : (old new : Scan) (source : PlainSource) (count : ℕ) → outcome source ≡ Read count → IsAt (start_of old) (positions source) new → IsRead old source new
shows-read old new source count is at =
    let all = positions source in
    let own : classes (events all) ≡ classes_of source = (λ i. if_read (sym is i) (classes (events all))) in
    record {
      names = at.names ∙ ap (with_names old.classes) own;
      few = omega (arith, at.few_classes, length-map new.own (λ n. get_or new.classes n no_class), ap length at.own, ap length own);
      distinct = at.distinct;
      edges = λ test. at.edges test ∙ (λ i. list_any test (fold (with_new same_dependency_seen) (start_of old).edges (if_read (sym is i) (seen dependencies_at all))));
      first = at.first;
      once = at.once;
      within = at.within;
      uses = at.uses ∙ (λ i. fold (with_new same_use_seen) (start_of old).uses (if_read (sym is i) (seen uses_at all)));
      used = at.used;
    }

-- a refused source shows nothing
pub shows-none : (old new : Scan) (source : PlainSource) (line : ℕ) (fault : TraceFault) → outcome source ≡ Refused line fault → new ≡ old → IsAt (start_of old) [] old → IsRead old source new
shows-none old new source line fault is same at =
    let nothing : classes_of source ≡ [] = (λ i. if_read (is i) (classes (events (positions source)))) in
    subst (IsRead old source) (sym same) (record {
      names = ap (with_names old.classes) (sym nothing);
      few = omega (arith, ap length nothing);
      distinct = at.distinct;
      edges = λ test. (λ i. list_any test (fold (with_new same_dependency_seen) (start_of old).edges (if_read (sym is i) (seen dependencies_at (positions source)))));
      first = at.first;
      once = at.once;
      within = at.within;
      uses = (λ i. fold (with_new same_use_seen) (start_of old).uses (if_read (sym is i) (seen uses_at (positions source))));
      used = at.used;
    })

-- and of which classes that is
pub own-read : (old new : Scan) (source : PlainSource) (count : ℕ) → outcome source ≡ Read count → IsAt (start_of old) (positions source) new → HasOwn old source new
own-read old new source count is at = record {
  names = record { within = at.many.2; same = at.own ∙ (λ i. if_read (sym is i) (classes (events (positions source)))) };
  edges = subst (λ n. All (IsOwnEdge new.own) (drop n new.locks.edges)) (length-map old.locks.edges (scans.named_dependency old.classes)) (own_edges (start_of old) (positions source) new at);
  uses = subst (λ n. All (IsOwnUse new.own) (drop n new.uses)) (length-map old.uses (scans.named_use old.classes)) (own_uses (start_of old) (positions source) new at);
}

-- those of a refused source are none
pub own-none : (old new : Scan) (source : PlainSource) (line : ℕ) (fault : TraceFault) → outcome source ≡ Refused line fault → new ≡ old → IsReady old → HasOwn old source new
own-none old new source line fault is same ready = subst (HasOwn old source) (sym same) (record {
  names = subst (λ own. AreNames old.classes own (classes_of source)) (sym none) (record {
    within = All-nil (λ n. n < length old.classes);
    same = (λ i. if_read (sym is i) (classes (events (positions source))));
  });
  edges = subst (All (IsOwnEdge old.own)) (sym (drop_all (length old.locks.edges) old.locks.edges (omega arith))) (All-nil (IsOwnEdge old.own));
  uses = subst (All (IsOwnUse old.own)) (sym (drop_all (length old.uses) old.uses (omega arith))) (All-nil (IsOwnUse old.own));
})
  where
    none : old.own ≡ []
    none = ap (λ (scan : Scan). scan.own) ready

-- what a source shows stands there in order of line
shown-Ascend : {A : Type 0} (at : List PlainEvent → PlainEvent → List A) (source : PlainSource) → Ascend (if_read (outcome source) (seen at (positions source)))
shown-Ascend {A} at source = by (outcome source)
  where
    by : (o : Outcome) → Ascend {A = A} (if_read o (seen at (positions source)))
    by (Read count) = seen-Ascend at (positions source) (positions-ascend source)
    by (Refused line fault) = λ i j d before within. absurd (omega (arith, within))

module _ (old new : Fields) (last : Listed) (kept : IsKept old) (adds : IsPushed old new last) where
  abbrev source : PlainSource
  source = plain last.source

  abbrev sources : List PlainSource
  sources = sources_of old.listed

  abbrev names : List PlainClass
  names = new.classes

  abbrev known : List PlainClass
  known = new.scan.classes

  low : All (λ s. s.number < source.number) sources
  low = above_all sources source.number kept.exact.rise adds.above

  all_sources : sources_of new.listed ≡ sources ++ source ∷ []
  all_sources = ap sources_of adds.listed ∙ map-append (λ l. plain l.source) old.listed (last ∷ [])

  longer : IsLonger old.classes names (length (classes_of source))
  longer = subst (λ all. IsLonger old.classes all (length (classes_of source))) (sym adds.classes) (longer_all old.classes (classes_of source))

  longer_known : IsLonger old.scan.classes known (length (classes_of source))
  longer_known = subst (λ all. IsLonger old.scan.classes all (length (classes_of source))) (sym adds.shows.names) (longer_all old.scan.classes (classes_of source))

  same_edges : map (named_dependency names) old.edges ≡ map (named_dependency old.classes) old.edges
  same_edges = edges-longer old.classes names (length (classes_of source)) longer old.edges kept.exact.within

  same_uses : map (named_use names) old.usage ≡ map (named_use old.classes) old.usage
  same_uses = uses-longer old.classes names (length (classes_of source)) longer old.usage kept.exact.used_within

  met_edges : AreMet (start_of old.scan).edges (map (named_dependency names) old.edges)
  met_edges = subst (AreMet (start_of old.scan).edges) (sym same_edges) kept.edges

  met_uses : AreMet (start_of old.scan).uses (map (named_use names) old.usage)
  met_uses = subst (AreMet (start_of old.scan).uses) (sym same_uses) kept.usage

  -- what comes to the scan
  adds_edges : AreAdded same_dependency (start_of old.scan).edges (dependencies_of source) (start_of new.scan).edges
  adds_edges = record { first = adds.shows.first; once = once-named known adds.shows.distinct new.scan.locks.edges adds.shows.within adds.shows.once; added = adds.shows.edges }

  adds_uses : AreAdded same_use (start_of old.scan).uses (uses_of source) (start_of new.scan).uses
  adds_uses = added_in_turn same_use (start_of old.scan).uses (uses_of source) (start_of new.scan).uses
      (subst (AreOnce same_use) met_uses.same (seen_once same_use Decides-same_use (map (named_use names) old.usage) met_uses.apart)) adds.shows.uses

  -- the batch with the trace
  abbrev joined : PlainBatch
  joined = record {
    sources = sources ++ source ∷ [];
    classes = names;
    edges = old.edges ++ map (edge_of new.numbers source.number) (drop (length old.edges) new.scan.locks.edges);
    usage = old.usage ++ map (use_of new.numbers source.number) (drop (length old.usage) new.scan.uses);
  }

  all_edges : AreMet (start_of new.scan).edges (map (named_dependency names) joined.edges)
  all_edges = are-met same_dependency Decides-same_dependency dependencies_of sources source (named_dependency names)
      (scans.named_dependency known) (edge_of new.numbers source.number) old.edges new.scan.locks.edges
      (named_rows known new.numbers names adds.names source.number (drop (length old.edges) new.scan.locks.edges) adds.own_edges) (start_of old.scan).edges met_edges adds_edges

  all_uses : AreMet (start_of new.scan).uses (map (named_use names) joined.usage)
  all_uses = are-met same_use Decides-same_use uses_of sources source (named_use names) (scans.named_use known) (use_of new.numbers source.number) old.usage new.scan.uses
      (named_use_rows known new.numbers names adds.names source.number (drop (length old.usage) new.scan.uses) adds.own_uses) (start_of old.scan).uses met_uses adds_uses

  exact : IsBatch joined
  exact =
      let was = kept.exact in
      let count = length (classes_of source) in
      record {
        fit = All-push Fits sources source was.fit adds.fits;
        rise = all_pairs_push (λ a b. a.number < b.number) sources source was.rise low;
        classes =
            adds.classes
            ∙ ap (λ all. with_names all (classes_of source)) was.classes
            ∙ with_names-each_once (flat_map classes_of sources) (classes_of source)
            ∙ ap (each_once same_class) (sym (shown-push sources source));
        within = All-append (IsBetween names) old.edges (map (edge_of new.numbers source.number) (drop (length old.edges) new.scan.locks.edges))
            (within-longer old.classes names count longer old.edges was.within)
            (rows_within known new.numbers names adds.names source.number (drop (length old.edges) new.scan.locks.edges) adds.own_edges);
        once = λ i j d before within both. pairs-of (λ m n. m.what ≢ n.what) (named_dependency names) joined.edges all_edges.apart i j d before within
            (λ k. record { from = get_or names (both.0 k) no_class; to = get_or names (both.1 k) no_class });
        edges = witness-new same_dependency Decides-same_dependency dependencies_of sources source (named_dependency names) (scans.named_dependency known) (edge_of new.numbers source.number) old.edges
            new.scan.locks.edges (named_rows known new.numbers names adds.names source.number (drop (length old.edges) new.scan.locks.edges) adds.own_edges)
            (start_of old.scan).edges met_edges adds_edges
            (λ what. ap (λ all. witness_of same_dependency all what) same_edges ∙ was.edges what) (shown-Ascend dependencies_at source) low;
        used_within = All-append (IsUse names) old.usage (map (use_of new.numbers source.number) (drop (length old.usage) new.scan.uses))
            (used-longer old.classes names count longer old.usage was.used_within)
            (use_rows_within known new.numbers names adds.names source.number (drop (length old.usage) new.scan.uses) adds.own_uses
            (All-weaker (scans.IsUse known) (λ f. IsBit f.bit) (λ f is. is.1) (drop (length old.usage) new.scan.uses) (All-drop (scans.IsUse known) (length old.usage) new.scan.uses adds.shows.used)));
        used_once = λ i j d before within both. pairs-of (λ m n. m.what ≢ n.what) (named_use names) joined.usage all_uses.apart i j d before within
            (λ k. record { class = get_or names (both.0 k) no_class; bit = bit_of (both.1 k) });
        usage = witness-new same_use Decides-same_use uses_of sources source (named_use names) (scans.named_use known) (use_of new.numbers source.number) old.usage
            new.scan.uses (named_use_rows known new.numbers names adds.names source.number (drop (length old.usage) new.scan.uses) adds.own_uses)
            (start_of old.scan).uses met_uses adds_uses
            (λ what. ap (λ all. witness_of same_use all what) same_uses ∙ was.usage what) (shown-Ascend uses_at source) low;
      }

  pub kept-added : IsKept new
  kept-added = record {
    exact = subst IsBatch (λ i. record { sources = sym all_sources i; classes = names; edges = sym adds.edges i; usage = sym adds.usage i }) exact;
    outcomes = subst AreOutcomes (sym adds.listed) (All-push (λ (l : Listed). l.outcome ≡ outcome (plain l.source)) old.listed last kept.outcomes adds.outcome);
    few = let more : length (classes_of source) ≤ MOST_CLASSES = adds.shows.few in omega (arith, kept.few, longer.most, more, ap length adds.listed, length_push old.listed last);
    known = let more : length (classes_of source) ≤ MOST_CLASSES = adds.shows.few in omega (arith, kept.known, longer_known.most, more, ap length adds.listed, length_push old.listed last);
    names = adds.names;
    ready = adds.ready;
    begun = adds.begun;
    edges = subst (λ rows. AreMet (start_of new.scan).edges (map (named_dependency names) rows)) (sym adds.edges) all_edges;
    usage = subst (λ rows. AreMet (start_of new.scan).uses (map (named_use names) rows)) (sym adds.usage) all_uses;
  }
