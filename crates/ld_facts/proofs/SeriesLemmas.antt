-- A series: what came since a part was handed on, and one trace more.
use Rattle.std.proofs.Common.{◌≡◌, ◌≢◌, ◌≤◌, ◌++◌, ◌∷◌, [], All, AllPairs, List, ℕ}
use Rattle.std.proofs.Common.{drop, length, map, take, ap, sym, subst, ◌∙◌, arith}
use Rattle.std.proofs.lemmas.List.{drop-append-le, length-map, length_push, length-take, length-take-le, map-append, take-append-drop, take-append-le, take_all}
use Rattle.std.proofs.Math.ListN.{length-append}
use Rattle.std.proofs.lemmas.List.Elements.{All-take}
use Rattle.ld_trace.specs.Sources.{Fits, PlainSource, plain}
use Rattle.ld_rules.specs.declared.outcome.Listed.{Listed}
use Rattle.ld_rules.specs.declared.outcome.TheConstants.{MOST_CLASSES}
use Rattle.ld_rules.specs.Dependency.{Dependency, same_dependency}
use Rattle.ld_rules.specs.Union.{classes_of, dependencies_of, dependency_witness, union_classes, use_witness, uses_of}
use Rattle.ld_rules.specs.Usage.{Use, same_use}
use Rattle.ld_rules.proofs.StepLemmas.{Decides-same_dependency}
use Rattle.ld_rules.proofs.UsageLemmas.{Decides-same_use}
use Rattle.ld_batch.specs.declared.rows.WitnessedEdge.{WitnessedEdge}
use Rattle.ld_batch.specs.declared.rows.WitnessedUse.{WitnessedUse}
use Rattle.ld_batch.specs.Batch.{AreFewClasses, AreRising, IsBatch, IsBetween, IsShown, IsUse, Met, PlainBatch, PlainShown, named_dependency, named_use, sources_of, witness_of}
use Rattle.ld_batch.specs.Inner.Names.{IsLonger}
use Rattle.ld_batch.proofs.NameLemmas.{longer_all}
use Rattle.ld_facts.specs.declared.series.Passed.{Passed}
use Rattle.ld_facts.specs.Inner.Rows.{IsOwnWord, edges_at, use_of}
use Rattle.ld_facts.specs.Inner.Series.{IsSeries, Parts, fields_of, front_of, shown_of}
use Rattle.ld_facts.proofs.BatchLemmas.{IsPushed, kept-added}
use Rattle.ld_facts.proofs.SinceLemmas.{front-stays, pairs-behind, since-witness}
use Rattle.ld_facts.proofs.TraceLemmas.{edges-longer, uses-longer}
use Rattle.ld_facts.proofs.WordRowLemmas.{All-behind, words-append, words-stay}

-- a list is no shorter than its first ones
many-first : {X : Type 0} (old new : List X) → take (length old) new ≡ old → length old ≤ length new
many-first old new front = omega (arith, ap length front, length-take (length old) new)

-- the traces that were handed on, and those behind them
pub sources-split : (n : ℕ) (listed : List Listed) → sources_of (take n listed) ++ sources_of (drop n listed) ≡ sources_of listed
sources-split n listed = sym (map-append (λ (l : Listed). plain l.source) (take n listed) (drop n listed)) ∙ ap sources_of (take-append-drop n listed)

-- where all are handed on, all are behind
pub all-behind : (listed : List Listed) (n passed : ℕ) → n ≡ length listed → sources_of (take n listed) ≡ sources_of (take passed listed) ++ sources_of (drop passed listed)
all-behind listed n passed is = ap sources_of (take_all n listed (omega (arith, is))) ∙ sym (sources-split passed listed)

module _ (parts : Parts) (is : IsSeries parts) where
  abbrev passed : Passed
  passed = parts.passed

  abbrev front : PlainBatch
  front = front_of parts

  abbrev shown : PlainShown
  shown = shown_of parts

  abbrev all_edges : List WitnessedEdge
  all_edges = edges_at parts.numbers parts.words

  sources : shown.behind ++ shown.sources ≡ sources_of parts.listed
  sources = sources-split passed.traces parts.listed

  edges-split : front.edges ++ shown.edges ≡ all_edges
  edges-split =
      sym (words-append parts.numbers (take passed.words parts.words) (drop passed.words parts.words))
      ∙ ap (edges_at parts.numbers) (take-append-drop passed.words parts.words)

  usage-split : front.usage ++ shown.usage ≡ parts.usage
  usage-split = take-append-drop passed.usage parts.usage

  pub classes-behind : passed.classes ≡ length (union_classes shown.behind)
  classes-behind = sym (length-take-le passed.classes parts.classes is.classes) ∙ ap length is.front.classes

  longer : IsLonger front.classes parts.classes (length parts.classes)
  longer =
      let many = length-take-le passed.classes parts.classes is.classes in
      record {
        front = ap (λ n. take n parts.classes) many;
        least = omega (arith, many, is.classes);
        most = omega arith;
      }

  same_edges : map (named_dependency parts.classes) front.edges ≡ map (named_dependency front.classes) front.edges
  same_edges = edges-longer front.classes parts.classes (length parts.classes) longer front.edges is.front.within

  same_uses : map (named_use parts.classes) front.usage ≡ map (named_use front.classes) front.usage
  same_uses = uses-longer front.classes parts.classes (length parts.classes) longer front.usage is.front.used_within

  met_edges : map (named_dependency parts.classes) front.edges ++ map (named_dependency parts.classes) shown.edges ≡ map (named_dependency parts.classes) all_edges
  met_edges = sym (map-append (named_dependency parts.classes) front.edges shown.edges) ∙ ap (map (named_dependency parts.classes)) edges-split

  met_uses : map (named_use parts.classes) front.usage ++ map (named_use parts.classes) shown.usage ≡ map (named_use parts.classes) parts.usage
  met_uses = sym (map-append (named_use parts.classes) front.usage shown.usage) ∙ ap (map (named_use parts.classes)) usage-split

  -- What came since is just what it shows.
  pub series-exact : IsShown (shown_of parts)
  series-exact = record {
    fit = subst (All Fits) (sym sources) is.kept.exact.fit;
    rise = subst AreRising (sym sources) is.kept.exact.rise;
    classes = is.kept.exact.classes ∙ ap union_classes (sym sources);
    within = All-behind (IsBetween parts.classes) front.edges shown.edges (subst (All (IsBetween parts.classes)) (sym edges-split) is.kept.exact.within);
    once = pairs-behind (λ (d e : WitnessedEdge). (d.from ≡ e.from) × (d.to ≡ e.to) → ⊥) front.edges shown.edges
        (subst (AllPairs (λ (d e : WitnessedEdge). (d.from ≡ e.from) × (d.to ≡ e.to) → ⊥)) (sym edges-split) is.kept.exact.once);
    edges = λ what. since-witness same_dependency Decides-same_dependency dependencies_of shown.behind shown.sources
        (map (named_dependency parts.classes) front.edges) (map (named_dependency parts.classes) shown.edges) what
        (subst (AllPairs (λ (m n : Met Dependency). m.what ≢ n.what)) (sym met_edges) is.kept.edges.apart)
        (ap (λ all. witness_of same_dependency all what) same_edges ∙ is.front.edges what)
        (ap (λ all. witness_of same_dependency all what) met_edges ∙ is.kept.exact.edges what ∙ ap (λ all. dependency_witness all what) (sym sources));
    used_within = All-behind (IsUse parts.classes) front.usage shown.usage (subst (All (IsUse parts.classes)) (sym usage-split) is.kept.exact.used_within);
    used_once = pairs-behind (λ (u v : WitnessedUse). (u.class ≡ v.class) × (u.bit ≡ v.bit) → ⊥) front.usage shown.usage
        (subst (AllPairs (λ (u v : WitnessedUse). (u.class ≡ v.class) × (u.bit ≡ v.bit) → ⊥)) (sym usage-split) is.kept.exact.used_once);
    usage = λ what. since-witness same_use Decides-same_use uses_of shown.behind shown.sources
        (map (named_use parts.classes) front.usage) (map (named_use parts.classes) shown.usage) what
        (subst (AllPairs (λ (m n : Met Use). m.what ≢ n.what)) (sym met_uses) is.kept.usage.apart)
        (ap (λ all. witness_of same_use all what) same_uses ∙ is.front.usage what)
        (ap (λ all. witness_of same_use all what) met_uses ∙ is.kept.exact.usage what ∙ ap (λ all. use_witness all what) (sym sources));
  }

  -- Its classes are few.
  pub series-few : AreFewClasses (shown_of parts)
  series-few = record {
    all = omega (arith, is.kept.few, ap length sources, length-map parts.listed (λ (l : Listed). plain l.source));
    since = omega (arith, is.since, classes-behind, length-map (drop passed.traces parts.listed) (λ (l : Listed). plain l.source));
  }

-- One trace more was read.
module _ (old new : Parts) (last : Listed) (is : IsSeries old) (adds : IsPushed (fields_of old) (fields_of new) last) (same : new.passed ≡ old.passed)
    (numbers : take (length old.numbers) new.numbers ≡ old.numbers) (words : take (length old.words) new.words ≡ old.words) where
  abbrev source : PlainSource
  source = plain last.source

  grown : IsLonger old.classes new.classes (length (classes_of source))
  grown = subst (λ all. IsLonger old.classes all (length (classes_of source))) (sym adds.classes) (longer_all old.classes (classes_of source))

  abbrev more_uses : List WitnessedUse
  more_uses = map (use_of new.numbers last.source.number) (drop (length old.usage) new.scan.uses)

  front_listed : take new.passed.traces new.listed ≡ take old.passed.traces old.listed
  front_listed = (λ i. take (same i).traces (adds.listed i)) ∙ take-append-le old.passed.traces old.listed (last ∷ []) is.traces

  since_listed : drop new.passed.traces new.listed ≡ drop old.passed.traces old.listed ++ last ∷ []
  since_listed = (λ i. drop (same i).traces (adds.listed i)) ∙ drop-append-le old.passed.traces old.listed (last ∷ []) is.traces

  front_words : edges_at new.numbers (take new.passed.words new.words) ≡ edges_at old.numbers (take old.passed.words old.words)
  front_words =
      ap (λ (p : Passed). edges_at new.numbers (take p.words new.words)) same
      ∙ ap (edges_at new.numbers) (front-stays old.words new.words old.passed.words words is.words)
      ∙ words-stay old.numbers new.numbers numbers (take old.passed.words old.words) (All-take (IsOwnWord old.numbers) old.passed.words old.words is.own)

  front_same : front_of new ≡ front_of old
  front_same = λ i. record {
    sources = sources_of (front_listed i);
    classes = (ap (λ (p : Passed). take p.classes new.classes) same ∙ front-stays old.classes new.classes old.passed.classes grown.front is.classes) i;
    edges = front_words i;
    usage = ((λ j. take (same j).usage (adds.usage j)) ∙ take-append-le old.passed.usage old.usage more_uses is.usage) i;
  }

  pub series-pushed : All (IsOwnWord new.numbers) new.words → IsSeries new
  series-pushed own =
      let traces = ap (λ (p : Passed). p.traces) same in
      let classes = ap (λ (p : Passed). p.classes) same in
      let told = ap (λ (p : Passed). p.words) same in
      let used = ap (λ (p : Passed). p.usage) same in
      let more : length (classes_of source) ≤ MOST_CLASSES = adds.shows.few in
      record {
        kept = kept-added (fields_of old) (fields_of new) last is.kept adds;
        own = own;
        front = subst IsBatch (sym front_same) is.front;
        traces = omega (arith, traces, is.traces, ap length adds.listed, length_push old.listed last);
        classes = omega (arith, classes, is.classes, grown.least);
        words = omega (arith, told, is.words, many-first old.words new.words words);
        usage = omega (arith, used, is.usage, ap length adds.usage, length-append old.usage more_uses);
        since = omega (arith, is.since, grown.most, more, classes, ap length since_listed, length_push (drop old.passed.traces old.listed) last);
      }
