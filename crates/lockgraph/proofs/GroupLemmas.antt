-- A group of files stands for all that was read.
use Rattle.std.proofs.Common.{◌≡◌, ◌∙◌, ◌+◌, ◌-◌, ◌<◌, ◌≤◌, ◌==◌, ◌&&◌, ◌||◌, ◌⊎◌, inl, inr, ℕ, zero, suc, Bool, true, false, not, cond, count_by, List, [], ◌∷◌, ◌++◌, filter, filter_map, length, map, Option, Some, None, Result, Ok, Err, IfSome, All, slice_get, refl, ap, sym, subst, append_assoc, append-nil, arith}
use Rattle.std.specs.Prelude.{if◌then◌else◌}
use Rattle.std.proofs.lemmas.Bool.{ne_eqb}
use Rattle.std.proofs.lemmas.List.{length-append, length-map, map-append}
use Rattle.std.proofs.lemmas.List.Elements.{All-append, All-cons, All-head, All-nil, All-tail}
use Rattle.std.proofs.lemmas.List.Sums.{sum_by-append}
use Rattle.std.specs.List.{cons_option, enumerate_from, prefix_len}
use Rattle.ld_trace.specs.declared.source.StreamFault.{StreamFault}
use Rattle.ld_trace.specs.Events.{Position}
use Rattle.ld_trace.specs.Lines.{lines}
use Rattle.ld_trace.specs.Sources.{PlainSource, is_header, is_other, opened_at, plain, section_at, sources, stream_fault}
use Rattle.ld_trace.proofs.NumberLemmas.{numbered}
use Rattle.ld_reduce.specs.Outcome.{faulty_lines, outcome, outcome_by}
use Rattle.ld_check.specs.OfReport.OfBook.Totals.{is_refused, refused_count}
use Rattle.ld_trace.specs.declared.source.Source.{Source}
use Rattle.ld_origin.specs.declared.origin.Home.{Home}
use Rattle.ld_reduce.specs.Kept.{keeps}
use Rattle.ld_reduce.specs.Left.{AreKnown, BeginsWithHeader, further}
use Rattle.ld_origin.specs.Origin.{PlainHome, lacking, marked, marked_with, origin_of, plain_home}
use Rattle.ld_reduce.specs.Reduced.{HaveHomes, IsReduced}
use Rattle.ld_reduce.specs.Reduction.{IsReductionOf}
use Rattle.ld_reduce.specs.Written.{IsTrace, counted_from, ended}
use Rattle.ld_reduce.proofs.BookLemmas.{reduction-is}
use Rattle.ld_reduce.proofs.LawLemmas.{further-marked, further-traces, written-ended}
use Rattle.ld_reduce.proofs.LineLemmas.{ended-IsEnded, lines-behind}
use Rattle.ld_reduce.proofs.MarkedLemmas.{HasHead, positions-marked, rising-marked, traces-marked}
use Rattle.ld_reduce.proofs.MovedLemmas.{refused-same}
use Rattle.ld_reduce.proofs.ReducedLemmas.{reduced-needed, reduced-sound, reduced-union}
use Rattle.ld_reduce.proofs.SeamLemmas.{sources-append}
use Rattle.ld_reduce.proofs.SettledLemmas.{all-unmarked}
use Rattle.ld_reduce.proofs.StreamLemmas.{sources-heads, sources-rising, sources-traces}
use Rattle.ld_reduce.proofs.TextLemmas.{texts-ended}
use Rattle.ld_check.specs.OfReport.declared.verdict.Verdict.{Verdict}
use Rattle.ld_check.specs.OfReport.declared.verdict.Verdict.TheVariants.{Clean, Refused}
use Rattle.lockgraph.specs.declared.groups.Group.{Group}
use Rattle.lockgraph.specs.declared.reduce.Keeping.{Keeping}
use Rattle.lockgraph.specs.Groups.{AreHomed, BothFollow, EndsLine, Homed, IsClosed, IsReducedAll, MayFollow, Stands, StandsFor, StartsWithHeader, behind, file_read, home_in, homed_of, traces_of, verdict_of_lost}
use Rattle.lockgraph.specs.Reduced.{verdict_of_reduced}

-- where there is an answer, there is no fault
pub no_fault : {A E : Type 0} (fault : Option StreamFault) (result : Result A E) (x : A) (of : StreamFault → E) → result ≡ Ok x → IfSome fault (λ f. result ≡ Err (of f)) → fault ≡ None
no_fault None result x of is told = refl
no_fault (Some f) result x of is told = absurd (cc)

pub none-some : (fault : Option StreamFault) (P : StreamFault → Type 0) → fault ≡ None → IfSome fault P
none-some None P is = tt
none-some (Some f) P is = absurd (cc)

-- Ends.

pub both-end : (a b : List ℕ) → EndsLine a → EndsLine b → EndsLine (a ++ b)
both-end a b one (inr front) = inr (a ++ front.0, ap (λ o. a ++ o) front.1 ∙ sym (append_assoc a front.0 (10 ∷ [])))
both-end a b one (inl none) = subst (λ o. EndsLine (a ++ o)) (sym none) (subst EndsLine (sym (append-nil a)) one)

-- A header that a stream starts with.

pub begins : (bytes : List ℕ) → StartsWithHeader bytes → EndsLine bytes → (more : List ℕ) → BeginsWithHeader (bytes ++ more)
begins bytes (line, (others, (is, header))) end more = ap (prefix_len is_other) (lines-behind bytes more end ∙ ap (λ all. all ++ lines more) is) ∙ first header
  where
    first : is_header line ≡ true → prefix_len is_other (line ∷ (others ++ lines more)) ≡ 0
    first is = rw is refl

-- How many traces.

count-cons : {X : Type 0} (p : X → Bool) (x : X) (xs : List X) → count_by p (x ∷ xs) ≡ cond (p x) 1 0 + count_by p xs
count-cons p x xs = omega (arith, sum_by-append (λ y. cond (p y) 1 0) (x ∷ []) xs)

opened-count : (all : List (List ℕ)) (n : ℕ) (zs : List (List ℕ)) → length (filter_map (λ p. opened_at all p.0 p.1) (enumerate_from n zs)) ≡ count_by is_header zs
opened-count all n [] = refl
opened-count all n (z ∷ zs) = by (is_header z) (opened-count all (n + 1) zs) ∙ sym (count-cons is_header z zs)
  where
    by : (test : Bool) → length (filter_map (λ p. opened_at all p.0 p.1) (enumerate_from (n + 1) zs)) ≡ count_by is_header zs
        → length (cons_option (if test then Some (section_at all n) else None) (filter_map (λ p. opened_at all p.0 p.1) (enumerate_from (n + 1) zs)))
        ≡ cond test 1 0 + count_by is_header zs
    by true rest = omega (arith, rest)
    by false rest = omega (arith, rest)

sources-count : (bytes : List ℕ) → length (sources bytes) ≡ count_by is_header (lines bytes)
sources-count bytes = opened-count (lines bytes) 0 (lines bytes)

sources-both : (front more : List ℕ) → EndsLine front → length (sources (front ++ more)) ≡ length (sources front) + length (sources more)
sources-both front more end =
    let whole = sources-count (front ++ more) in
    let one = sources-count front in
    let two = sources-count more in
    let cut : count_by is_header (lines (front ++ more)) ≡ count_by is_header (lines front) + count_by is_header (lines more) =
    ap (count_by is_header) (lines-behind front more end) ∙ sum_by-append (λ x. cond (is_header x) 1 0) (lines front) (lines more) in
    omega (arith, whole, one, two, cut)

-- Homes.

homed-both : (from : Bool) (a b : Homed) → AreHomed from a → AreHomed from b → EndsLine a.bytes → AreHomed from (behind a b)
homed-both true a b one two end = omega (arith, length-append a.homes b.homes, sources-both a.bytes b.bytes end, one, two)
homed-both false a b one two end = λ i. one i ++ two i

none-homed : (from : Bool) (s : Homed) → AreHomed from s → from ≡ false → s.homes ≡ []
none-homed true s homed never = absurd (cc)
none-homed false s homed never = homed

may-both : (from : Bool) (s : Homed) (homes : List PlainHome) → AreHomed from s → MayFollow from homes → MayFollow from (s.homes ++ homes)
may-both from s homes homed may never = let none = none-homed from s homed never in λ i. none i ++ may never i

get-front : {X : Type 0} (xs ys : List X) (k : ℕ) → k < length xs → slice_get (xs ++ ys) k ≡ slice_get xs k
get-front [] ys k low = absurd (omega (arith, low))
get-front (x ∷ xs) ys zero low = refl
get-front (x ∷ xs) ys (suc k) low = get-front xs ys k (omega (arith, low))

front-marked : (own others : List PlainHome) (all : List PlainSource) → All (λ s. s.number < length own) all → map (marked (own ++ others)) all ≡ map (marked own) all
front-marked own others [] low = refl
front-marked own others (s ∷ rest) low =
    let home = get-front own others s.number (All-head (λ t. t.number < length own) s rest low) in
    λ i. marked_with (lacking (home i) (origin_of s.bytes)) s ∷ front-marked own others rest (All-tail (λ t. t.number < length own) s rest low) i

below : (bytes : List ℕ) (n : ℕ) → n ≡ length (sources bytes) → All (λ s. s.number < n) (sources bytes)
below bytes n is k d within = let number = numbered bytes k d within in omega (arith, number, is, within)

-- the traces of a stream with another one behind it
traces-behind : (from : Bool) (a b : Homed) → AreHomed from a → MayFollow from b.homes → EndsLine a.bytes → BeginsWithHeader b.bytes
    → traces_of (behind a b) ≡ traces_of a ++ map (further (length (sources a.bytes)) (length (lines a.bytes))) (traces_of b)
traces-behind true a b one may end first =
    let n = length (sources a.bytes) in
    let l = length (lines a.bytes) in
    let both = a.homes ++ b.homes in
    let front = front-marked a.homes b.homes (sources a.bytes) (below a.bytes (length a.homes) one) in
    ap (map (marked both)) (sources-append a.bytes b.bytes end first)
    ∙ map-append (marked both) (sources a.bytes) (map (further n l) (sources b.bytes))
    ∙ (λ i. front i ++ map (marked both) (map (further (sym one i) l) (sources b.bytes)))
    ∙ ap (λ o. traces_of a ++ o) (further-marked a.homes b.homes l (sources b.bytes) (sources-heads b.bytes))
    ∙ (λ i. traces_of a ++ map (further (one i) l) (traces_of b))
traces-behind false a b one may end first =
    let n = length (sources a.bytes) in
    let l = length (lines a.bytes) in
    let more = may refl in
    (λ i. map (marked (one i ++ more i)) (sources (a.bytes ++ b.bytes)))
    ∙ all-unmarked (sources (a.bytes ++ b.bytes))
    ∙ sources-append a.bytes b.bytes end first
    ∙ (λ i. sym (all-unmarked (sources a.bytes)) i ++ map (further n l) (sym (all-unmarked (sources b.bytes)) i))
    ∙ (λ i. map (marked (sym one i)) (sources a.bytes) ++ map (further n l) (map (marked (sym more i)) (sources b.bytes)))

-- Well formed traces.

right-of : {X : Type 0} (P : X → Type 0) (xs ys : List X) → All P (xs ++ ys) → All P ys
right-of P [] ys all = all
right-of P (x ∷ xs) ys all = right-of P xs ys (All-tail P x (xs ++ ys) all)

nearer-traces : (n l : ℕ) (all : List PlainSource) → All IsTrace (map (further n l) all) → All IsTrace all
nearer-traces n l [] are = All-nil IsTrace
nearer-traces n l (s ∷ rest) are =
    let is = All-head IsTrace (further n l s) (map (further n l) rest) are in
    All-cons IsTrace s rest (record { label = is.label; lines = is.lines }) (nearer-traces n l rest (All-tail IsTrace (further n l s) (map (further n l) rest) are))

module _ (front more : List ℕ) (end : EndsLine front) (first : BeginsWithHeader more) where
  abbrev n : ℕ
  n = length (sources front)

  abbrev l : ℕ
  l = length (lines front)

  behind-traces : All IsTrace (sources (front ++ more)) → All IsTrace (sources more)
  behind-traces are = nearer-traces n l (sources more) (right-of IsTrace (sources front) (map (further n l) (sources more)) (subst (λ all. All IsTrace all) (sources-append front more end first) are))

  both-traces : All IsTrace (sources front) → All IsTrace (sources more) → All IsTrace (sources (front ++ more))
  both-traces one two =
      subst (λ all. All IsTrace all) (sym (sources-append front more end first))
      (All-append IsTrace (sources front) (map (further n l) (sources more)) one (further-traces n l (sources more) two))

-- Refused traces.

refused-further : (n l : ℕ) (all : List PlainSource) → refused_count (map (further n l) all) ≡ refused_count all
refused-further n l [] = refl
refused-further n l (s ∷ rest) =
    count-cons (λ t. is_refused (outcome t)) (further n l s) (map (further n l) rest)
    ∙ (λ i. cond (refused-same (further n l s) s refl i) 1 0 + refused-further n l rest i)
    ∙ sym (count-cons (λ t. is_refused (outcome t)) s rest)

refused-counted : (n line : ℕ) (all : List PlainSource) → refused_count (counted_from n line all) ≡ refused_count all
refused-counted n line [] = refl
refused-counted n line (s ∷ rest) =
    let anew : PlainSource = record { number = n; label = s.label; first_line = line + 2; bytes = ended s.bytes } in
    let more = line + 1 + length (lines (ended s.bytes)) in
    count-cons (λ t. is_refused (outcome t)) anew (counted_from (n + 1) more rest)
    ∙ (λ i. cond (refused-same anew s (texts-ended s.bytes) i) 1 0 + refused-counted (n + 1) more rest i)
    ∙ sym (count-cons (λ t. is_refused (outcome t)) s rest)

refused-marked : (homes : List PlainHome) (all : List PlainSource) → All HasHead all → refused_count (map (marked homes) all) ≡ refused_count all
refused-marked homes [] heads = refl
refused-marked homes (s ∷ rest) heads =
    let same : outcome (marked homes s) ≡ outcome s =
    ap (λ (all : List Position). outcome_by (length all) (slice_get (faulty_lines all) 0)) (positions-marked homes s (All-head HasHead s rest heads)) in
    count-cons (λ t. is_refused (outcome t)) (marked homes s) (map (marked homes) rest)
    ∙ (λ i. cond (is_refused (same i)) 1 0 + refused-marked homes rest (All-tail HasHead s rest heads) i)
    ∙ sym (count-cons (λ t. is_refused (outcome t)) s rest)

fewer : {X : Type 0} (p q : X → Bool) (xs : List X) → count_by p (filter q xs) ≤ count_by p xs
fewer p q [] = omega arith
fewer {X} p q (x ∷ xs) = by (q x) (fewer p q xs)
  where
    by : (test : Bool) → count_by p (filter q xs) ≤ count_by p xs → count_by p (cond test (x ∷ filter q xs) (filter q xs)) ≤ count_by p (x ∷ xs)
    by true rest = omega (arith, rest, count-cons p x xs, count-cons p x (filter q xs))
    by false rest = omega (arith, rest, count-cons p x xs)

refused-both : (front more : List ℕ) → EndsLine front → BeginsWithHeader more → refused_count (sources (front ++ more)) ≡ refused_count (sources front) + refused_count (sources more)
refused-both front more end first =
    let n = length (sources front) in
    let l = length (lines front) in
    ap refused_count (sources-append front more end first)
    ∙ sum_by-append (λ t. cond (is_refused (outcome t)) 1 0) (sources front) (map (further n l) (sources more))
    ∙ ap (λ k. refused_count (sources front) + k) (refused-further n l (sources more))

refused-left : (keep_refused : Bool) (homes : List PlainHome) (bytes text : List ℕ) → IsReduced keep_refused (map (marked homes) (sources bytes)) text → refused_count (sources text) ≤ refused_count (sources bytes)
refused-left keep_refused homes bytes text reduced =
    let marks = refused-marked homes (sources bytes) (sources-heads bytes) in
    let less = fewer (λ t. is_refused (outcome t)) (keeps reduced.are.is_first keep_refused) (map (marked homes) (sources bytes)) in
    let kept = ap refused_count reduced.are.are in
    let anew = ap refused_count reduced.cut ∙ refused-counted 0 0 reduced.kept in
    omega (arith, marks, less, kept, anew)

lost-too : (lost : Bool) (x y z : ℕ) → y ≤ x → (not lost && (x + z == 0)) ≡ (not (lost || not (x == 0)) && (y + z == 0))
lost-too true x y z low = refl
lost-too false zero y z low = let same : 0 + z ≡ y + z = omega (arith, low) in ap (λ k. k == 0) same
lost-too false (suc x) y z low =
    ne_eqb (suc x + z) 0 (λ same. omega (arith, same)) ∙ sym (ap (λ test. not (not test) && (y + z == 0)) (ne_eqb (suc x) 0 (λ same. omega (arith, same))))

-- Groups.

behind-assoc : (a b c : Homed) → behind (behind a b) c ≡ behind a (behind b c)
behind-assoc a b c = λ i. record { bytes = append_assoc a.bytes b.bytes c.bytes i; homes = append_assoc a.homes b.homes c.homes i }

abbrev pub nothing : Homed
nothing = record { bytes = []; homes = [] }

-- nothing stands for nothing
pub stands-start : (keeping : Keeping) → StandsFor keeping false nothing nothing
stands-start keeping = record {
  left = λ more again may well is. is;
  traces = λ more well. well;
  refused = λ never more. refl;
  homed = empty keeping.from;
  all_homed = empty keeping.from;
  ends = inl refl;
  all_ends = inl refl;
}
  where
    empty : (from : Bool) → AreHomed from nothing
    empty true = refl
    empty false = refl

-- a group stands for all with a file behind both
pub stands-behind : (keeping : Keeping) (lost : Bool) (group all file : Homed) → StandsFor keeping lost group all → AreHomed keeping.from file → EndsLine file.bytes
    → StandsFor keeping lost (behind group file) (behind all file)
stands-behind keeping lost group all file stands homed end = record {
  left = λ more again may well is.
      subst (λ s. IsReduced keeping.refused (traces_of s) again) (sym (behind-assoc all file more))
      (stands.left (behind file more) again (may-both keeping.from file more.homes homed may)
      (subst (λ o. All IsTrace (sources o)) (append_assoc group.bytes file.bytes more.bytes) well)
      (subst (λ s. IsReduced keeping.refused (traces_of s) again) (behind-assoc group file more) is));
  traces = λ more well.
      subst (λ o. All IsTrace (sources o)) (sym (append_assoc all.bytes file.bytes more))
      (stands.traces (file.bytes ++ more) (subst (λ o. All IsTrace (sources o)) (append_assoc group.bytes file.bytes more) well));
  refused = λ never more.
      ap (λ o. refused_count (sources o) == 0) (append_assoc all.bytes file.bytes more)
      ∙ stands.refused never (file.bytes ++ more)
      ∙ ap (λ o. not lost && (refused_count (sources o) == 0)) (sym (append_assoc group.bytes file.bytes more));
  homed = homed-both keeping.from group file stands.homed homed stands.ends;
  all_homed = homed-both keeping.from all file stands.all_homed homed stands.all_ends;
  ends = both-end group.bytes file.bytes stands.ends end;
  all_ends = both-end all.bytes file.bytes stands.all_ends end;
}

module _ (keeping : Keeping) (lost : Bool) (group all : Homed) (stands : StandsFor keeping lost group all) (sound : stream_fault group.bytes ≡ None)
    (text : List ℕ) (reduction : IsReductionOf keeping.refused group.homes (sources group.bytes) text) where
  text-ends : EndsLine text
  text-ends = subst EndsLine (sym reduction.reduced.text_is) (written-ended reduction.reduced.kept)

  -- What is left of a group stands for all with a file behind both, if the file begins with a header.
  module _ (own : List PlainHome) (own_homed : AreHomed keeping.from (record { bytes = text; homes = own })) (later : Bool)
      (losing : keeping.refused ≡ false → later ≡ (lost || not (refused_count (sources group.bytes) == 0)))
      (file : Homed) (homed : AreHomed keeping.from file) (end : EndsLine file.bytes) (first : (more : List ℕ) → BeginsWithHeader (file.bytes ++ more)) where
    abbrev short : Homed
    short = record { bytes = text; homes = own }

    known : (from : Bool) → AreHomed from group → AreHomed from short → (more : List PlainHome) → MayFollow from more → AreKnown group.homes (sources group.bytes) own text more
    known true one two more may = inr (below group.bytes (length group.homes) one, two)
    known false one two more may = inl (one, two, may refl)

    well_all : (more : List ℕ) → All IsTrace (sources (text ++ (file.bytes ++ more))) → All IsTrace (sources (group.bytes ++ (file.bytes ++ more)))
    well_all more well =
        both-traces group.bytes (file.bytes ++ more) stands.ends (first more) (sources-traces group.bytes sound)
        (behind-traces text (file.bytes ++ more) text-ends (first more) well)

    pub stands-closed : StandsFor keeping later (behind short file) (behind all file)
    stands-closed = record {
      left = λ more again may well is.
          let rest = behind file more in
          let may_rest = may-both keeping.from file more.homes homed may in
          let well_text = subst (λ o. All IsTrace (sources o)) (append_assoc text file.bytes more.bytes) well in
          let well_rest = behind-traces text rest.bytes text-ends (first more.bytes) well_text in
          let law = reduction.left own rest.homes rest.bytes again (length (sources group.bytes)) (length (lines group.bytes)) well_rest (first more.bytes)
          (known keeping.from stands.homed own_homed rest.homes may_rest) (below group.bytes (length (sources group.bytes)) refl)
          (subst (λ s. IsReduced keeping.refused (traces_of s) again) (behind-assoc short file more) is) in
          subst (λ s. IsReduced keeping.refused (traces_of s) again) (sym (behind-assoc all file more))
          (stands.left rest again may_rest (well_all more.bytes well_text)
          (subst (λ them. IsReduced keeping.refused them again) (sym (traces-behind keeping.from group rest stands.homed may_rest stands.ends (first more.bytes))) law));
      traces = λ more well.
          subst (λ o. All IsTrace (sources o)) (sym (append_assoc all.bytes file.bytes more))
          (stands.traces (file.bytes ++ more) (well_all more (subst (λ o. All IsTrace (sources o)) (append_assoc text file.bytes more) well)));
      refused = λ never more.
          ap (λ o. refused_count (sources o) == 0) (append_assoc all.bytes file.bytes more)
          ∙ stands.refused never (file.bytes ++ more)
          ∙ ap (λ k. not lost && (k == 0)) (refused-both group.bytes (file.bytes ++ more) stands.ends (first more))
          ∙ lost-too lost (refused_count (sources group.bytes)) (refused_count (sources text)) (refused_count (sources (file.bytes ++ more)))
          (refused-left keeping.refused group.homes group.bytes text reduction.reduced)
          ∙ (λ i. not (sym (losing never) i) && (sym (refused-both text (file.bytes ++ more) text-ends (first more)) i == 0))
          ∙ ap (λ o. not later && (refused_count (sources o) == 0)) (sym (append_assoc text file.bytes more));
      homed = homed-both keeping.from short file own_homed homed text-ends;
      all_homed = homed-both keeping.from all file stands.all_homed homed stands.all_ends;
      ends = both-end text file.bytes text-ends end;
      all_ends = both-end all.bytes file.bytes stands.all_ends end;
    }

  -- What the group is reduced to is what all is reduced to.

  all_traces : All IsTrace (sources all.bytes)
  all_traces =
      subst (λ o. All IsTrace (sources o)) (append-nil all.bytes)
      (stands.traces [] (subst (λ o. All IsTrace (sources o)) (sym (append-nil group.bytes)) (sources-traces group.bytes sound)))

  nothing-behind : (s : Homed) → behind s nothing ≡ s
  nothing-behind s = λ i. record { bytes = append-nil s.bytes i; homes = append-nil s.homes i }

  reduced_all : IsReduced keeping.refused (traces_of all) text
  reduced_all =
      subst (λ s. IsReduced keeping.refused (traces_of s) text) (nothing-behind all)
      (stands.left nothing text (λ never. refl) (subst (λ o. All IsTrace (sources o)) (sym (append-nil group.bytes)) (sources-traces group.bytes sound))
      (subst (λ s. IsReduced keeping.refused (traces_of s) text) (sym (nothing-behind group)) reduction.reduced))

  pub stands-done : IsReductionOf keeping.refused all.homes (sources all.bytes) text
  stands-done =
      let them = traces_of all in
      let kept = reduced_all.kept in
      let are = reduced_all.are in
      let marks = traces-marked all.homes (sources all.bytes) all_traces in
      let rise = rising-marked all.homes (sources all.bytes) (sources-rising all.bytes) in
      let long : length them ≡ length (sources all.bytes) = length-map (sources all.bytes) (marked all.homes) in
      reduction-is keeping.refused all.homes (sources all.bytes) text all_traces (sources-rising all.bytes) (sources-heads all.bytes) reduced_all
      (λ few short. reduced-sound keeping.refused them kept are text reduced_all.text_is marks (omega (arith, few, long)) short)
      (reduced-union keeping.refused them kept are text reduced_all.text_is marks rise)
      (reduced-needed keeping.refused them kept are text reduced_all.text_is marks rise)

  pub lost-all : keeping.refused ≡ false → (refused_count (sources all.bytes) == 0) ≡ (not lost && (refused_count (sources group.bytes) == 0))
  lost-all never =
      ap (λ o. refused_count (sources o) == 0) (sym (append-nil all.bytes))
      ∙ stands.refused never []
      ∙ ap (λ o. not lost && (refused_count (sources o) == 0)) (append-nil group.bytes)

-- The same of groups as they lie in memory.

pub file-homed : (from : Bool) (name bytes : List ℕ) → AreHomed from (file_read from name bytes)
file-homed true name bytes = length-map (sources bytes) (home_in name)
file-homed false name bytes = refl

abbrev stream_of : List ℕ → List PlainHome → Homed
stream_of bytes homes = record { bytes = bytes; homes = homes }

follows : (before after : Group) (bytes : List ℕ) (homes : List PlainHome) → BothFollow before bytes homes after → behind (homed_of before) (stream_of bytes homes) ≡ homed_of after
follows before after bytes homes follow = λ i. record { bytes = sym follow.bytes_are i; homes = sym follow.homes_are i }

-- a file was put behind a group
pub stands-followed : (keeping : Keeping) (before after : Group) (all : Homed) (bytes : List ℕ) (homes : List PlainHome) → BothFollow before bytes homes after
    → AreHomed keeping.from (stream_of bytes homes) → EndsLine bytes → Stands keeping before all → Stands keeping after (behind all (stream_of bytes homes))
stands-followed keeping before after all bytes homes follow homed end stands =
    subst (λ lost. StandsFor keeping lost (homed_of after) (behind all (stream_of bytes homes))) (sym follow.lost_is)
    (subst (λ group. StandsFor keeping before.lost group (behind all (stream_of bytes homes))) (follows before after bytes homes follow)
    (stands-behind keeping before.lost (homed_of before) all (stream_of bytes homes) stands homed end))

-- the same of a group that was closed before
pub stands-left : (keeping : Keeping) (before left after : Group) (all : Homed) (bytes : List ℕ) (homes : List PlainHome) → IsClosed keeping before left → BothFollow left bytes homes after
    → AreHomed keeping.from (stream_of bytes homes) → EndsLine bytes → ((more : List ℕ) → BeginsWithHeader (bytes ++ more)) → Stands keeping before all → Stands keeping after (behind all (stream_of bytes homes))
stands-left keeping before left after all bytes homes closed follow homed end first stands =
    subst (λ lost. StandsFor keeping lost (homed_of after) (behind all (stream_of bytes homes))) (sym follow.lost_is)
    (subst (λ group. StandsFor keeping left.lost group (behind all (stream_of bytes homes))) (follows left after bytes homes follow)
    (stands-closed keeping before.lost (homed_of before) all stands closed.sound left.bytes.items closed.left
    (map plain_home left.homes.items) closed.homed left.lost (λ never. closed.lost) (stream_of bytes homes) homed end first))

-- What all was reduced to.

same-verdict : (keep_refused lost : Bool) (x y : ℕ) → (keep_refused ≡ false → (y == 0) ≡ (not lost && (x == 0))) → verdict_of_lost keep_refused lost x ≡ verdict_of_reduced keep_refused y
same-verdict true lost x y same = refl
same-verdict false lost x y same = ap (λ test. if test then Clean else Refused) (sym (same refl))

homed-true : (from : Bool) (s : Homed) → AreHomed from s → from ≡ true → length s.homes ≡ length (sources s.bytes)
homed-true true s homed is = homed
homed-true false s homed is = absurd (cc)

pub all-reduced : (keeping : Keeping) (group : Group) (text : List ℕ) (refused : ℕ) → stream_fault group.bytes.items ≡ None
    → IsReductionOf keeping.refused (map plain_home group.homes.items) (sources group.bytes.items) text → refused ≡ refused_count (sources group.bytes.items)
    → (all : Homed) → Stands keeping group all → IsReducedAll keeping all text (verdict_of_lost keeping.refused group.lost refused)
all-reduced keeping group text refused sound reduction count all stands =
    let whole = stands-done keeping group.lost (homed_of group) all stands sound text reduction in
    record {
      written = record {
        reduced = whole;
        verdict_is = same-verdict keeping.refused group.lost refused (refused_count (sources all.bytes))
            (λ never. lost-all keeping group.lost (homed_of group) all stands sound text reduction never ∙ ap (λ k. not group.lost && (k == 0)) (sym count));
      };
      again = λ others more fine is. whole.settled others more (known fine) is;
    }
  where
    known : {others : List PlainHome} → (others ≡ []) ⊎ (keeping.from ≡ true) → (others ≡ []) ⊎ HaveHomes all.homes (sources all.bytes)
    known (inl none) = inl none
    known (inr is) = inr (below all.bytes (length all.homes) (homed-true keeping.from all stands.all_homed is))

-- A file that was read.

pub homes-read : (from : Bool) (name bytes : List ℕ) (homes : List Home) (found : List Source) → map plain found ≡ sources bytes
    → (from ≡ true → map plain_home homes ≡ map (home_in name) (map plain found)) → (from ≡ false → homes ≡ []) → map plain_home homes ≡ (file_read from name bytes).homes
homes-read true name bytes homes found same wanted unwanted = wanted refl ∙ ap (map (home_in name)) same
homes-read false name bytes homes found same wanted unwanted = ap (map plain_home) (unwanted refl)

pub homes-homed : (from : Bool) (name bytes : List ℕ) (homes : List Home) (found : List Source) → map plain found ≡ sources bytes
    → (from ≡ true → map plain_home homes ≡ map (home_in name) (map plain found)) → (from ≡ false → homes ≡ []) → AreHomed from (record { bytes = bytes; homes = map plain_home homes })
homes-homed true name bytes homes found same wanted unwanted =
    ap length (wanted refl ∙ ap (map (home_in name)) same) ∙ length-map (sources bytes) (home_in name)
homes-homed false name bytes homes found same wanted unwanted = ap (map plain_home) (unwanted refl)

-- it was put behind a group
pub added : (keeping : Keeping) (before after : Group) (name bytes own : List ℕ) (homes : List PlainHome) → own ≡ ended bytes → homes ≡ (file_read keeping.from name (ended bytes)).homes
    → BothFollow before own homes after → (all : Homed) → Stands keeping before all → Stands keeping after (behind all (file_read keeping.from name (ended bytes)))
added keeping before after name bytes own homes same same_homes follow all stands =
    let file = file_read keeping.from name (ended bytes) in
    stands-followed keeping before after all (ended bytes) file.homes
    (subst (λ o. BothFollow before (ended bytes) o after) same_homes (subst (λ o. BothFollow before o homes after) same follow))
    (file-homed keeping.from name (ended bytes)) (ended-IsEnded bytes) stands

-- or behind what is left of it
pub added-left : (keeping : Keeping) (before left after : Group) (name bytes own : List ℕ) (homes : List PlainHome) → own ≡ ended bytes → homes ≡ (file_read keeping.from name (ended bytes)).homes
    → StartsWithHeader own → IsClosed keeping before left → BothFollow left own homes after → (all : Homed) → Stands keeping before all
    → Stands keeping after (behind all (file_read keeping.from name (ended bytes)))
added-left keeping before left after name bytes own homes same same_homes starts closed follow all stands =
    let file = file_read keeping.from name (ended bytes) in
    stands-left keeping before left after all (ended bytes) file.homes closed
    (subst (λ o. BothFollow left (ended bytes) o after) same_homes (subst (λ o. BothFollow left o homes after) same follow))
    (file-homed keeping.from name (ended bytes)) (ended-IsEnded bytes)
    (begins (ended bytes) (subst StartsWithHeader same starts) (ended-IsEnded bytes)) stands
