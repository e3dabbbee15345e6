-- A stream that was written of some traces is cut into just these.
use Rattle.std.proofs.Common.{◌≡◌, ◌∙◌, ◌+◌, ℕ, ◌≤◌, Bool, true, false, not, IfSome, List, map, [], ◌∷◌, ◌++◌, length, take, drop, filter_map, Option, Some, None, All, refl, ap, sym, subst, append_assoc, arith, codes, cond}
use Rattle.std.specs.Prelude.{◌||◌, if◌then◌else◌}
use Rattle.std.specs.Prelude.{is_some, nat_lt}
use Rattle.std.proofs.lemmas.Bool.{false_from_ne_true, ltb-true}
use Rattle.std.proofs.Math.Seq.{drop-append_seam, take-append_seam}
use Rattle.std.proofs.lemmas.List.Elements.{All-cons, All-head, All-nil, All-tail}
use Rattle.std.proofs.lemmas.List.Sums.{take_while-cons}
use Rattle.std.specs.List.{concat, cons_option, enumerate_from, list_any, onto_first, prefix_len, take_while}
use Rattle.ld_trace.specs.Lines.{fields, is_word, lines, text_of}
use Rattle.ld_trace.specs.Sources.{PlainSource, fault_at, line_faults, stream_fault, begins_trace, fields_of, headers_before, is_header, is_other, label_of, opened_at, section_at, sources}
use Rattle.ld_trace.specs.declared.source.TheConstants.{LONGEST_STREAM, MOST_TRACES}
use Rattle.ld_trace.specs.Inner.Splitting.{given_from}
use Rattle.ld_trace.proofs.PlainLemmas.{run-word}
use Rattle.ld_trace.proofs.HeadLemmas.{head-is, head-label, head-line}
use Rattle.ld_trace.proofs.SectionLemmas.{Opens, faults-section, given_from-next, headers-section, left-section, section-is, sections-skip}
use Rattle.ld_reduce.specs.Written.{IsTrace, counted_anew, counted_from, ended, header, trace_text, written}
use Rattle.ld_reduce.proofs.LineLemmas.{concat-lines, ended-IsEnded, lines-behind, lines-drop, lines-take}
use Rattle.ld_reduce.proofs.TextLemmas.{texts-ended}
use Rattle.ld_trace.proofs.SplitLemmas.{drop-next}
use Rattle.ld_class.proofs.Mapped.{list_any-map}

-- A header.

module _ (label : List ℕ) (word : is_word label ≡ true) where
  -- it is a line
  pub header-line : (rest : List ℕ) → lines (header label ++ rest) ≡ header label ∷ lines rest
  header-line rest = ap (λ o. lines (codes "trace " ++ o)) (append_assoc label (10 ∷ []) rest) ∙ head-line label (run-word label word) rest

  -- and a header
  pub header-is : is_header (header label) ≡ true
  header-is = head-is label (run-word label word)

-- Lines that are no headers.

-- those at the front of some lines are none
no_header-front : (xs : List (List ℕ)) → list_any is_header (take_while is_other xs) ≡ false
no_header-front [] = refl
no_header-front (x ∷ xs) = ap (list_any is_header) (take_while-cons is_other x xs) ∙ by (is_header x) refl (no_header-front xs)
  where
    by : (test : Bool) → is_header x ≡ test → list_any is_header (take_while is_other xs) ≡ false → list_any is_header (cond (not test) (x ∷ take_while is_other xs) []) ≡ false
    by true is others = refl
    by false is others = rw is others

-- before a header, or the end, they are all of those at the front
own-lines : (xs ys : List (List ℕ)) → list_any is_header xs ≡ false → prefix_len is_other ys ≡ 0 → prefix_len is_other (xs ++ ys) ≡ length xs
own-lines [] ys none first = first
own-lines (x ∷ xs) ys none first = by (is_header x) refl none (own-lines xs ys)
  where
    by : (test : Bool) → is_header x ≡ test → (test || list_any is_header xs) ≡ false
        → (list_any is_header xs ≡ false → prefix_len is_other ys ≡ 0 → prefix_len is_other (xs ++ ys) ≡ length xs)
        → prefix_len is_other (x ∷ (xs ++ ys)) ≡ length (x ∷ xs)
    by true is none others = absurd (cc)
    by false is none others = let rest = others none first in rw is (omega (arith, rest))

-- Each trace of a stream has none among its lines.

abbrev HasNone : PlainSource → Type 0
HasNone source = list_any is_header (lines source.bytes) ≡ false

section-none : (bytes : List ℕ) (i : ℕ) → HasNone (section_at (lines bytes) i)
section-none bytes i =
    let left = drop (i + 1) (lines bytes) in
    let same : lines (concat left) ≡ left = lines-drop (i + 1) bytes in
    let n = prefix_len is_other left in
    let own : lines (concat (take n left)) ≡ take n left = subst (λ o. lines (concat (take n o)) ≡ take n o) same (lines-take n (concat left)) in
    ap (list_any is_header) own ∙ no_header-front left

pub all_given : {X Y : Type 0} (P : Y → Type 0) (f : ℕ → X → Option Y) (n : ℕ) (xs : List X) → ((i : ℕ) (x : X) → IfSome (f i x) P) → All P (filter_map (λ p. f p.0 p.1) (enumerate_from n xs))
all_given P f n [] each = All-nil P
all_given {X} {Y} P f n (x ∷ xs) each = by (f n x) (each n x) (all_given P f (n + 1) xs each)
  where
    by : (one : Option Y) → IfSome one P → All P (filter_map (λ p. f p.0 p.1) (enumerate_from (n + 1) xs)) → All P (cons_option one (filter_map (λ p. f p.0 p.1) (enumerate_from (n + 1) xs)))
    by None own rest = rest
    by (Some y) own rest = All-cons P y _ own rest

pub sources-none : (bytes : List ℕ) → All HasNone (sources bytes)
sources-none bytes = all_given HasNone (opened_at (lines bytes)) 0 (lines bytes) (λ i x. by i (is_header x))
  where
    by : (i : ℕ) (test : Bool) → IfSome (if test then Some (section_at (lines bytes) i) else None) HasNone
    by i true = section-none bytes i
    by i false = tt

-- What is written.

module _ (source : PlainSource) (is : IsTrace source) (rest : List ℕ) where
  -- the lines of a trace that is written before the rest
  trace-lines : lines (trace_text source ++ rest) ≡ header source.label ∷ (lines (ended source.bytes) ++ lines rest)
  trace-lines =
      ap lines (append_assoc (header source.label) (ended source.bytes) rest)
      ∙ header-line source.label is.label (ended source.bytes ++ rest)
      ∙ ap (λ o. header source.label ∷ o) (lines-behind (ended source.bytes) rest (ended-IsEnded source.bytes))

-- what is written begins with a header, if there is any
first-header : (all : List PlainSource) → All IsTrace all → prefix_len is_other (lines (written all)) ≡ 0
first-header [] are = refl
first-header (source ∷ others) are =
    let is = All-head IsTrace source others are in
    rw (trace-lines source is (written others), header-is source.label is.label) refl

-- what a line is shows by its text
headers-by-text : (xs ys : List (List ℕ)) → map text_of xs ≡ map text_of ys → list_any is_header xs ≡ list_any is_header ys
headers-by-text xs ys same =
    sym (list_any-map text_of (λ text. begins_trace (fields text)) xs) ∙ ap (list_any (λ text. begins_trace (fields text))) same ∙ list_any-map text_of (λ text. begins_trace (fields text)) ys

none-ended : (bytes : List ℕ) → list_any is_header (lines bytes) ≡ false → list_any is_header (lines (ended bytes)) ≡ false
none-ended bytes none = headers-by-text (lines (ended bytes)) (lines bytes) (texts-ended bytes) ∙ none

-- Some lines, where what was written of a trace and of others stands from place k on.
module _ (all : List (List ℕ)) (k : ℕ) (source : PlainSource) (others : List PlainSource) (here : drop k all ≡ lines (written (source ∷ others))) (are : All IsTrace (source ∷ others)) where
  abbrev own : List (List ℕ)
  own = lines (ended source.bytes)

  abbrev more : List (List ℕ)
  more = own ++ lines (written others)

  is : IsTrace source
  is = All-head IsTrace source others are

  own-count : prefix_len is_other more ≡ length own
  own-count = own-lines own (lines (written others)) (none-ended source.bytes is.lines) (first-header others (All-tail IsTrace source others are))

  pub opens-here : Opens all k (length own) (header source.label) more
  opens-here = record { is = here ∙ trace-lines source is (written others); header = header-is source.label is.label; own = sym own-count }

  -- behind it stand the others
  pub left-here : drop (k + 1 + length own) all ≡ lines (written others)
  left-here = sym (left-section all k (length own) (header source.label) more opens-here) ∙ drop-append_seam own (lines (written others))

  behind-lines : length own ≤ prefix_len is_other (drop (k + 1) all)
  behind-lines = rw (drop-next all k (header source.label) more opens-here.is) (omega (arith, opens-here.own))

  -- its section, and those behind it
  pub section-here : given_from (opened_at all) all k
      ≡ record { number = headers_before all k; label = source.label; first_line = k + 2; bytes = ended source.bytes } ∷ given_from (opened_at all) all (k + 1 + length own)
  section-here =
      let bytes : ended source.bytes ≡ concat (take_while is_other more) =
      sym (concat-lines (ended source.bytes)) ∙ ap concat (sym (take-append_seam own (lines (written others))) ∙ ap (λ n. take n more) (sym own-count)) in
      let section = section-is all k (length own) (headers_before all k) (header source.label) more source.label (ended source.bytes) opens-here refl (head-label source.label is.label) bytes in
      let opened : opened_at all k (header source.label) ≡ Some (section_at all k) = rw (header-is source.label is.label) refl in
      given_from-next (opened_at all) all k (header source.label) more opens-here.is
      ∙ (λ i. cons_option (opened i) (sections-skip all (k + 1) (length own) behind-lines i))
      ∙ (λ i. sym section i ∷ given_from (opened_at all) all (k + 1 + length own))

module _ (all : List (List ℕ)) where
  -- the sections of what was written from place k on
  sections-written : (k : ℕ) (rest : List PlainSource) → drop k all ≡ lines (written rest) → All IsTrace rest → given_from (opened_at all) all k ≡ counted_from (headers_before all k) k rest
  sections-written k [] here are = rw here refl
  sections-written k (source ∷ others) here are =
      let m = length (lines (ended source.bytes)) in
      let first : PlainSource = record { number = headers_before all k; label = source.label; first_line = k + 2; bytes = ended source.bytes } in
      section-here all k source others here are
      ∙ ap (λ o. first ∷ o) (sections-written (k + 1 + m) others (left-here all k source others here are) (All-tail IsTrace source others are))
      ∙ ap (λ n. first ∷ counted_from n (k + 1 + m) others) (headers-section all k m _ _ (opens-here all k source others here are))

  -- it has no fault, where there aren't too many headers
  faults-written : (k : ℕ) (rest : List PlainSource) → drop k all ≡ lines (written rest) → All IsTrace rest → headers_before all k + length rest ≤ MOST_TRACES
      → line_faults all ≡ given_from (fault_at all) all k → line_faults all ≡ []
  faults-written k [] here are few before = before ∙ rw here refl
  faults-written k (source ∷ others) here are few before =
      let m = length (lines (ended source.bytes)) in
      let word = (All-head IsTrace source others are).label in
      let opens = opens-here all k source others here are in
      let next = headers-section all k m _ _ opens in
      faults-written (k + 1 + m) others (left-here all k source others here are) (All-tail IsTrace source others are) (omega (arith, few, next))
      (faults-section all k m (headers_before all k) _ _ opens refl (λ most. omega (arith, few, most)) (ap is_some (head-label source.label word)) before)

-- what is written has just these traces, counted anew
pub sources-written : (all : List PlainSource) → All IsTrace all → sources (written all) ≡ counted_anew all
sources-written all are = sections-written (lines (written all)) 0 all refl are

-- and is a stream without fault, if it isn't too long
pub written-sound : (all : List PlainSource) → All IsTrace all → length all ≤ MOST_TRACES → length (written all) ≤ LONGEST_STREAM → stream_fault (written all) ≡ None
written-sound all are few short =
    let fits : nat_lt LONGEST_STREAM (length (written all)) ≡ false = false_from_ne_true _ (λ h. absurd (let long = ltb-true LONGEST_STREAM (length (written all)) h in omega (arith, long, short))) in
    rw (fits, faults-written (lines (written all)) 0 all refl are (omega (arith, few)) refl) refl
