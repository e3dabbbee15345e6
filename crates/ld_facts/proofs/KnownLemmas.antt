-- From the scan of a trace to what its facts say.
use Rattle.std.proofs.Common.{◌≡◌, ◌+◌, ◌<◌, ◌==◌, ◌++◌, ◌∷◌, [], ◌||◌, List, ℕ, Bool, true, false, fold, length, map, filter_map, get_or, Some, None, Ok, Err}
use Rattle.std.proofs.Common.{refl, ap, sym, subst, ◌∙◌, arith, if◌then◌else◌, append_assoc, length-append}
use Rattle.std.specs.Prelude.{AllPairs, slice_get}
use Rattle.std.specs.List.{cons_option, enumerate_from, list_any}
use Rattle.std.proofs.lemmas.Bool.{and_from, eq-eqb, true≢false}
use Rattle.std.proofs.lemmas.List.{append-nil, get_or-map, length-map}
use Rattle.std.proofs.lemmas.List.Quantifiers.{all_pairs_push}
use Rattle.ld_class.specs.Names.{PlainClass, no_class}
use Rattle.ld_trace.specs.declared.event.Event.{Event}
use Rattle.ld_trace.specs.declared.event.LineFault.{LineFault}
use Rattle.ld_trace.specs.Lines.{lines, text_of}
use Rattle.ld_trace.specs.Sources.{Fits, PlainSource}
use Rattle.ld_trace.specs.Events.{PlainEvent, Position, Said, plain_event, position_of, positions, said_by}
use Rattle.ld_tables.specs.declared.edges.EdgeFact.{EdgeFact}
use Rattle.ld_tables.specs.Inner.Edges.{AreApart}
use Rattle.ld_rules.specs.declared.fault.TraceFault.{TraceFault}
use Rattle.ld_rules.specs.declared.outcome.Outcome.TheVariants.{Read, Refused}
use Rattle.ld_facts.specs.declared.scan.Scan.{Scan}
use Rattle.ld_rules.specs.Outcome.{each_once, classes, event_fault, events, faulty_lines, outcome, outcome_by, of_line, said_fault}
use Rattle.ld_rules.specs.Held.{class_acquired}
use Rattle.ld_rules.specs.Dependency.{Seen, dependencies_at, least_line, same_dependency, seen}
use Rattle.ld_rules.specs.Union.{if_read}
use Rattle.ld_facts.specs.Named.{named_dependency, named_use}
use Rattle.ld_facts.specs.Facts.{IsKnown}
use Rattle.ld_rules.specs.Usage.{Use, bit_of, same_use, uses_at}
use Rattle.ld_rules.specs.Inner.Scanned.{same_dependency_seen, same_use_seen, with_new}
use Rattle.ld_tables.specs.declared.uses.UsageFact.{UsageFact}
use Rattle.ld_facts.specs.Inner.Scan.{IsAt, IsStep, Start, fresh_scan, happens, no_start}
use Rattle.ld_facts.specs.Inner.Reading.{IsReadTo, positions_from}
use Rattle.ld_rules.proofs.OutcomeLemmas.{first_fault}
use Rattle.ld_rules.proofs.PlaceLemmas.{alike_from_decides, by_pushes, each_once-append, each_once-more}
use Rattle.ld_rules.proofs.StepLemmas.{Decides-same_dependency, added_names-once}
use Rattle.ld_rules.proofs.UsageLemmas.{Decides-same_use, same_use_seen-alike}
use Rattle.ld_rules.proofs.LeastLemmas.{least_is_first, least_once, seen-Ascend}
use Rattle.ld_rules.proofs.SameLemmas.{apart-fold}
use Rattle.ld_batch.proofs.LineLemmas.{AreOnce, first_same, least_of_once}
use Rattle.ld_batch.proofs.MetLemmas.{joined}
use Rattle.ld_facts.proofs.NamedLemmas.{once-named}
use Rattle.ld_trace.proofs.PositionLemmas.{positions-ascend}

-- the positions of lines, by the first of them
positions-first : (line : ℕ) (rest first others : List ℕ) (said : Said) → lines rest ≡ first ∷ lines others → said_by (text_of first) ≡ said →
    positions_from line rest ≡ cons_option (position_of line said) (positions_from (line + 1) others)
positions-first line rest first others said cut is =
    ap (λ ls. filter_map (λ p. position_of p.0 (said_by (text_of p.1))) (enumerate_from line ls)) cut
    ∙ ap (λ s. cons_option (position_of line s) (positions_from (line + 1) others)) is

-- no element passes a test that none of them passes
none_passes : {X : Type 0} (p : X → Bool) (xs : List X) → list_any p xs ≡ false → (k : ℕ) (d : X) → k < length xs → p (get_or xs k d) ≡ false
none_passes p [] none k d below = absurd (omega arith)
none_passes p (x ∷ xs) none ℕ.zero d below = first (p x) none
  where
    first : (b : Bool) → (b || list_any p xs) ≡ false → b ≡ false
    first true is = is
    first false is = refl
none_passes p (x ∷ xs) none (ℕ.suc k) d below = none_passes p xs (rest (p x) none) k d (omega arith)
  where
    rest : (b : Bool) → (b || list_any p xs) ≡ false → list_any p xs ≡ false
    rest true is = absurd (true≢false is)
    rest false is = is

-- no two elements of a list with each element once are the same
each_once-pairs : {X : Type 0} (same : X → X → Bool) → ((x y : X) → same x y ≡ true → (z : X) → same x z ≡ same y z) → (xs : List X) → AllPairs (λ a b. same b a ≡ false) (each_once same xs)
each_once-pairs {X} same alike xs = by_pushes (λ ys. AllPairs (λ a b. same b a ≡ false) (each_once same ys)) (λ i j d before below. absurd (omega arith)) step xs
  where
    added : (ys : List X) (y : X) → AllPairs (λ a b. same b a ≡ false) ys → (b : Bool) → list_any (same y) ys ≡ b → AllPairs (λ a b. same b a ≡ false) (ys ++ (if b then [] else y ∷ []))
    added ys y h true is = subst (AllPairs (λ a b. same b a ≡ false)) (sym (append-nil ys)) h
    added ys y h false is = all_pairs_push (λ a b. same b a ≡ false) ys y h (none_passes (same y) ys is)

    step : (ys : List X) (y : X) → AllPairs (λ a b. same b a ≡ false) (each_once same ys) → AllPairs (λ a b. same b a ≡ false) (each_once same (ys ++ y ∷ []))
    step ys y h = subst (AllPairs (λ a b. same b a ≡ false)) (sym (each_once-more same alike ys y)) (added (each_once same ys) y h (list_any (same y) (each_once same ys)) refl)

-- no two of these dependencies are of the same numbers
once_apart : (edges : List EdgeFact) → AreApart edges → AllPairs (λ d e. (d.from ≡ e.from) × (d.to ≡ e.to) → ⊥) edges
once_apart edges apart i j d before below both =
    let a = get_or edges i d in
    let b = get_or edges j d in
    true≢false (sym (and_from (b.from == a.from) (b.to == a.to) (eq-eqb b.from a.from (sym both.0)) (eq-eqb b.to a.to (sym both.1))) ∙ apart i j d before below)

-- numbered usage bits that are these by name, each once
once_used : (names : List PlainClass) (uses : List UsageFact) (shown : List (Seen Use)) → map (named_use names) uses ≡ each_once same_use_seen shown →
    AllPairs (λ u v. (u.class ≡ v.class) × (u.bit ≡ v.bit) → ⊥) uses
once_used names uses shown is i j d before below both =
    let apart : AllPairs (λ a b. same_use_seen b a ≡ false) (map (named_use names) uses) = subst (AllPairs (λ a b. same_use_seen b a ≡ false)) (sym is)
    (each_once-pairs same_use_seen same_use_seen-alike shown) in
    let differ : same_use_seen (get_or (map (named_use names) uses) j (named_use names d)) (get_or (map (named_use names) uses) i (named_use names d)) ≡
    false = apart i j (named_use names d) before (omega (arith, below, length-map uses (named_use names))) in
    let here : get_or (map (named_use names) uses) i (named_use names d) ≡ named_use names (get_or uses i d) = get_or-map (named_use names) uses i d (named_use names d) (omega arith) in
    let there : get_or (map (named_use names) uses) j (named_use names d) ≡ named_use names (get_or uses j d) = get_or-map (named_use names) uses j d (named_use names d) below in
    let alike : (named_use names (get_or uses j d)).what ≡ (named_use names (get_or uses i d)).what = (λ k. record { class = get_or names (sym both.0 k) no_class; bit = bit_of (sym both.1 k) }) in
    true≢false (sym ((Decides-same_use (named_use names (get_or uses j d)).what (named_use names (get_or uses i d)).what).1 alike) ∙ (λ k. same_use_seen (sym there k) (sym here k)) ∙ differ)

-- the same scan and count by other names
pub moved : (source : PlainSource) (line : ℕ) (rest : List ℕ) (first scan old : Scan) (count before : ℕ) → scan ≡ old → count ≡ before → IsReadTo source
    line rest first old before → IsReadTo source line rest first scan count
moved source line rest first scan old count before is many read = subst (λ s. IsReadTo source line rest first s count) (sym is) (subst (IsReadTo source line rest first old) (sym many) read)

-- the scan of a source, one line further on
module _ (source : PlainSource) (line : ℕ) (rest : List ℕ) (old scan : Scan) (count : ℕ) (read : IsReadTo source line rest old scan count)
    (first others : List ℕ) (cut : lines rest ≡ first ∷ lines others) where
  -- a line that says nothing
  pub read-nothing : said_by (text_of first) ≡ Ok None → IsReadTo source (line + 1) others old scan count
  read-nothing is = record {
    before = read.before;
    whole = read.whole ∙ ap (λ ps. read.before ++ ps) (positions-first line rest first others (Ok None) cut is);
    scanned = read.scanned;
    counted = read.counted;
  }

  -- an event without a fault, which leaves another scan
  pub read-event : (text : List ℕ) (event : Event) (next : Scan) → text ≡ text_of first → IsStep scan line (plain_event event) next → said_by text ≡ Ok
      (Some (plain_event event)) → IsReadTo source (line + 1) others old next (count + 1)
  read-event text event next shown scanned says = record {
    before = read.before ++ happens line (plain_event event) ∷ [];
    whole =
        read.whole ∙ ap (λ ps. read.before ++ ps) (positions-first line rest first others (Ok (Some (plain_event event))) cut (ap said_by (sym shown) ∙ says))
        ∙ sym (append_assoc read.before (happens line (plain_event event) ∷ []) (positions_from (line + 1) others));
    scanned = λ start is. scanned start read.before (read.scanned start is);
    counted = ap (λ n. n + 1) read.counted ∙ sym (length-append read.before (happens line (plain_event event) ∷ []));
  }

  -- a position with a fault: the trace is refused
  module _ (start : Start) (is_at : IsAt start [] old) where
    refused : (said : Said) (p : Position) (fault : TraceFault) → said_by (text_of first) ≡ said → position_of line said ≡ Some p → said_fault
        (events read.before) p.says ≡ Some fault → outcome source ≡ Refused p.line fault
    refused said p fault is at faulty =
        let whole : positions source ≡ read.before ++ p ∷ positions_from (line + 1) others =
        read.whole ∙ ap (λ ps. read.before ++ ps) (positions-first line rest first others said cut is ∙ ap (λ o. cons_option o (positions_from (line + 1) others)) at) in
        ap (outcome_by (length (positions source)))
        (ap (λ ps. slice_get (faulty_lines ps) 0) whole ∙ first_fault read.before p (positions_from (line + 1) others) fault (read.scanned start is_at).clean faulty)

    pub refused-event : (event : PlainEvent) (fault : TraceFault) → said_by (text_of first) ≡ Ok (Some event) →
        ((start : Start) (all : List Position) → IsAt start all scan → event_fault (events all) event ≡ Some fault) → outcome source ≡ Refused line fault
    refused-event event fault is faulty = refused (Ok (Some event)) (happens line event) fault is refl (faulty start read.before (read.scanned start is_at))

    pub refused-line : (fault : LineFault) → said_by (text_of first) ≡ Err fault → outcome source ≡ Refused line (of_line fault)
    refused-line fault is = refused (Err fault) (record { line = line; says = Err fault }) (of_line fault) is refl refl

-- a scan that is read to the end
module _ (source : PlainSource) (line : ℕ) (rest : List ℕ) (old scan : Scan) (count : ℕ) (read : IsReadTo source line rest old scan count) (ended : rest ≡ [])
    (start : Start) (is_at : IsAt start [] old) where
  all : positions source ≡ read.before
  all = read.whole ∙ ap (λ bytes. read.before ++ positions_from line bytes) ended ∙ append-nil read.before

  pub read-at : IsAt start (positions source) scan
  read-at = subst (λ ps. IsAt start ps scan) (sym all) (read.scanned start is_at)

  pub read-outcome : outcome source ≡ Read count
  read-outcome = (λ i. outcome_by (length (all i)) (slice_get (faulty_lines (all i)) 0)) ∙ (λ i. outcome_by (sym read.counted i) (slice_get ((read.scanned start is_at).clean i) 0))

-- a scan that began with nothing has the facts of its trace
pub read-known : (source : PlainSource) (scan : Scan) (count : ℕ) → Fits source → IsAt no_start (positions source) scan → outcome source ≡ Read count →
    IsKnown (record { source = source; outcome = Read count; classes = scan.classes; edges = scan.locks.edges; usage = scan.uses })
read-known source scan count fits at is =
    let names : scan.classes ≡ classes (events (positions source)) = at.names ∙ added_names-once (filter_map class_acquired (events (positions source))) in
    let shown = seen dependencies_at (positions source) in
    let edges = map (named_dependency scan.classes) scan.locks.edges in
    let once : AreOnce same_dependency edges = once-named scan.classes at.distinct scan.locks.edges at.within at.once in
    let uses : map (named_use scan.classes) scan.uses ≡ each_once same_use_seen (seen uses_at (positions source)) =
    at.uses ∙ sym (each_once-append same_use_seen same_use_seen-alike [] (seen uses_at (positions source))) in
    record {
      fits = fits;
      outcome = sym is;
      few = omega (arith, at.few_classes, length-map scan.own (λ n. get_or scan.classes n no_class), ap length at.own, ap length names);
      classes = names ∙ (λ i. if_read (sym is i) (classes (events (positions source))));
      within = at.within;
      once = once_apart scan.locks.edges at.once;
      edges = λ what.
          least_of_once same_dependency Decides-same_dependency edges once what
          ∙ first_same same_dependency Decides-same_dependency edges (fold (with_new same_dependency_seen) [] shown) once
          (apart-fold same_dependency_seen [] shown (λ i j d before below. absurd (omega arith))) at.edges what
          ∙ joined same_dependency Decides-same_dependency [] shown what
          ∙ sym (least_is_first same_dependency shown (seen-Ascend dependencies_at (positions source) (positions-ascend source)) what)
          ∙ (λ i. least_line same_dependency (if_read (sym is i) shown) what);
      used_within = at.used;
      used_once = once_used scan.classes scan.uses (seen uses_at (positions source)) uses;
      usage = λ what.
          ap (λ us. least_line same_use us what) uses
          ∙ least_once same_use (alike_from_decides same_use Decides-same_use) (seen uses_at (positions source))
          (seen-Ascend uses_at (positions source) (positions-ascend source)) what
          ∙ (λ i. least_line same_use (if_read (sym is i) (seen uses_at (positions source))) what);
    }

-- before the first line
pub read-none : (source : PlainSource) (scan : Scan) → IsReadTo source source.first_line source.bytes scan scan 0
read-none source scan = record { before = []; whole = refl; scanned = λ start is. is; counted = refl }

-- a new scan
pub none-at : (scan : Scan) → scan ≡ fresh_scan [] → IsAt no_start [] scan
none-at scan new = subst (λ s. IsAt no_start [] s) (sym new) (record {
  clean = refl;
  tasks = refl;
  names = refl;
  distinct = λ i j name at_i at_j. absurd (omega (arith, at_i.0));
  own = refl;
  few_tasks = omega arith;
  few_classes = omega arith;
  many = (refl, refl, λ k d below. absurd (omega arith), omega arith);
  each = λ id name at. absurd (omega (arith, at.0));
  shallow = λ id. omega arith;
  edges = λ test. refl;
  first = refl;
  once = λ i j d before below. absurd (omega arith);
  within = λ k d below. absurd (omega arith);
  uses = refl;
  used = λ k d below. absurd (omega arith);
})
