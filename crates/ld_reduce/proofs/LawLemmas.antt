-- The same of streams: a text with another stream behind it.
use Rattle.std.proofs.Common.{◌≡◌, ◌∙◌, ◌+◌, ◌-◌, ◌<◌, ◌≤◌, ◌⊎◌, inl, inr, ℕ, zero, suc, Bool, List, [], ◌∷◌, ◌++◌, get_or, length, map, Option, Some, None, All, slice_get, refl, ap, sym, subst, append_assoc, append-nil, arith, codes}
use Rattle.std.proofs.lemmas.List.{get_or-map, length-map, map-append}
use Rattle.std.proofs.lemmas.List.Elements.{All-append, All-cons, All-filter, All-head, All-map, All-nil, All-tail}
use Rattle.std.proofs.lemmas.List.Kept.{AllPairs-cons}
use Rattle.ld_trace.specs.Lines.{lines}
use Rattle.ld_trace.specs.Sources.{PlainSource, sources}
use Rattle.ld_batch.specs.Batch.{AreRising}
use Rattle.ld_reduce.specs.Kept.{AreKept, keeps}
use Rattle.ld_reduce.specs.Left.{AreKnown, BeginsWithHeader, IsLeft, further}
use Rattle.ld_origin.specs.Origin.{PlainHome, PlainOrigin, lacking, marked, marked_with, origin_from, origin_line, origin_of}
use Rattle.ld_reduce.specs.Reduced.{HaveHomes, IsReduced}
use Rattle.ld_reduce.specs.Written.{IsTrace, counted_anew, counted_from, ended, header, trace_text, written}
use Rattle.ld_reduce.proofs.LeftLemmas.{are-left, left-written, left_of_both}
use Rattle.ld_reduce.proofs.LineLemmas.{IsEnded, ended-IsEnded}
use Rattle.ld_reduce.proofs.MarkedLemmas.{HasHead, number-marked, rising-marked, traces-marked}
use Rattle.ld_reduce.proofs.ReducedLemmas.{reduced-is}
use Rattle.ld_reduce.proofs.SeamLemmas.{sources-append}
use Rattle.ld_reduce.proofs.SettledLemmas.{HasOrigin, all-unchanged, all-unmarked, have-counted, have-marked}
use Rattle.ld_reduce.proofs.StreamLemmas.{sources-heads, sources-rising}
use Rattle.ld_reduce.proofs.WitnessLemmas.{rising-later, rising-tail}

-- What is written ends with an LF.

both-ended : (a b : List ℕ) → IsEnded a → IsEnded b → IsEnded (a ++ b)
both-ended a b one (inr front) = inr (a ++ front.0, ap (λ o. a ++ o) front.1 ∙ sym (append_assoc a front.0 (10 ∷ [])))
both-ended a b one (inl none) = subst (λ o. IsEnded (a ++ o)) (sym none) (subst IsEnded (sym (append-nil a)) one)

header-ended : (label : List ℕ) → IsEnded (header label)
header-ended label = inr (codes "trace " ++ label, sym (append_assoc (codes "trace ") label (10 ∷ [])))

pub written-ended : (all : List PlainSource) → IsEnded (written all)
written-ended [] = inl refl
written-ended (s ∷ others) = both-ended (trace_text s) (written others) (both-ended (header s.label) (ended s.bytes) (header-ended s.label) (ended-IsEnded s.bytes)) (written-ended others)

-- Numbers of traces that stand further.

rising-append : (n : ℕ) (xs ys : List PlainSource) → AreRising xs → AreRising ys → All (λ s. s.number < n) xs → All (λ s. n ≤ s.number) ys → AreRising (xs ++ ys)
rising-append n [] ys one two low high = two
rising-append n (x ∷ xs) ys one two low high =
    let least = All-head (λ s. s.number < n) x xs low in
    AllPairs-cons (λ a b. a.number < b.number) x (xs ++ ys)
    (All-append (λ s. x.number < s.number) xs ys (rising-later x xs one) (λ k d within. let above = high k d within in omega (arith, least, above)))
    (rising-append n xs ys (rising-tail x xs one) two (All-tail (λ s. s.number < n) x xs low) high)

further-rising : (n l : ℕ) (all : List PlainSource) → AreRising all → AreRising (map (further n l) all)
further-rising n l all rise i j d before within =
    let long = length-map all (further n l) in
    let inside : j < length all = omega (arith, within, long) in
    let low = rise i j d before inside in
    let one = ap (λ (s : PlainSource). s.number) (get_or-map (further n l) all i d d (omega (arith, before, inside))) in
    let two = ap (λ (s : PlainSource). s.number) (get_or-map (further n l) all j d d inside) in
    omega (arith, low, one, two)

further-above : (n l : ℕ) (all : List PlainSource) → All (λ s. n ≤ s.number) (map (further n l) all)
further-above n l all = All-map (λ s. n ≤ s.number) (further n l) all (λ k d within. omega arith)

pub further-traces : (n l : ℕ) (all : List PlainSource) → All IsTrace all → All IsTrace (map (further n l) all)
further-traces n l all are = All-map IsTrace (further n l) all (λ k d within. let is = are k d within in record { label = is.label; lines = is.lines })

marked-below : (homes : List PlainHome) (n : ℕ) (all : List PlainSource) → All (λ s. s.number < n) all → All (λ s. s.number < n) (map (marked homes) all)
marked-below homes n all low = All-map (λ s. s.number < n) (marked homes) all (λ k d within. subst (λ m. m < n) (sym (number-marked homes (get_or all k d))) (low k d within))

-- The homes of two streams.

pub get-behind : {X : Type 0} (xs ys : List X) (k : ℕ) → slice_get (xs ++ ys) (k + length xs) ≡ slice_get ys k
get-behind [] ys k = let same : k + 0 ≡ k = omega arith in ap (slice_get ys) same
get-behind (x ∷ xs) ys k = let next : k + length (x ∷ xs) ≡ suc (k + length xs) = omega arith in ap (slice_get (x ∷ (xs ++ ys))) next ∙ get-behind xs ys k

with-further : (n l : ℕ) (home : Option PlainHome) (s : PlainSource) → HasHead s → marked_with home (further n l s) ≡ further n l (marked_with home s)
with-further n l None s head = refl
with-further n l (Some home) s head =
    let line : s.first_line + l - 1 ≡ s.first_line - 1 + l = omega (arith, head) in
    λ i. record { number = s.number + n; label = s.label; first_line = line i; bytes = origin_line (origin_from home) ++ s.bytes }

pub further-marked : (own others : List PlainHome) (l : ℕ) (all : List PlainSource) → All HasHead all
    → map (marked (own ++ others)) (map (further (length own) l) all) ≡ map (further (length own) l) (map (marked others) all)
further-marked own others l [] heads = refl
further-marked own others l (s ∷ rest) heads =
    let home : slice_get (own ++ others) (s.number + length own) ≡ slice_get others s.number = get-behind own others s.number in
    let here = ap (λ o. marked_with (lacking o (origin_of s.bytes)) (further (length own) l s)) home
    ∙ with-further (length own) l (lacking (slice_get others s.number) (origin_of s.bytes)) s (All-head HasHead s rest heads) in
    λ i. here i ∷ further-marked own others l rest (All-tail HasHead s rest heads) i

counted-length : (n line : ℕ) (all : List PlainSource) → length (counted_from n line all) ≡ length all
counted-length n line [] = refl
counted-length n line (s ∷ rest) = ap suc (counted-length (n + 1) (line + 1 + length (lines (ended s.bytes))) rest)

module _ (keep_refused : Bool) (homes : List PlainHome) (all : List PlainSource) (text : List ℕ) (reduced : IsReduced keep_refused (map (marked homes) all) text)
    (traces : All IsTrace all) (rise : AreRising all) where
  abbrev these : List PlainSource
  these = map (marked homes) all

  abbrev kept : List PlainSource
  kept = reduced.kept

  text-ended : IsEnded text
  text-ended = subst IsEnded (sym reduced.text_is) (written-ended kept)

  -- the traces of the text with another stream behind it
  short-is : (own others : List PlainHome) (more : List ℕ) → BeginsWithHeader more → AreKnown homes all own text others
      → (k m : ℕ) × (k ≡ length kept) × (map (marked (own ++ others)) (sources (text ++ more)) ≡ counted_anew kept ++ map (further k m) (map (marked others) (sources more)))
  short-is own others more first known = (length (sources text), length (lines text), as_many, by known)
    where
      as_many : length (sources text) ≡ length kept
      as_many = ap length reduced.cut ∙ counted-length 0 0 kept

      cut : sources (text ++ more) ≡ sources text ++ map (further (length (sources text)) (length (lines text))) (sources more)
      cut = sources-append text more text-ended first

      by : AreKnown homes all own text others → map (marked (own ++ others)) (sources (text ++ more)) ≡ counted_anew kept ++ map (further (length (sources text)) (length (lines text))) (map (marked others) (sources more))
      by (inl none) =
          (λ i. map (marked (none.1 i ++ none.2 i)) (sources (text ++ more)))
          ∙ all-unmarked (sources (text ++ more))
          ∙ cut
          ∙ (λ i. reduced.cut i ++ map (further (length (sources text)) (length (lines text))) (sym (all-unmarked (sources more)) i))
          ∙ (λ i. counted_anew kept ++ map (further (length (sources text)) (length (lines text))) (map (marked (sym none.2 i)) (sources more)))
      by (inr have) =
          let origins : All HasOrigin kept =
          subst (λ them. All HasOrigin them) (sym reduced.are.are) (All-filter (keeps reduced.are.is_first keep_refused) HasOrigin these (have-marked homes all have.0)) in
          let anew : All HasOrigin (sources text) = subst (λ them. All HasOrigin them) (sym reduced.cut) (have-counted 0 0 kept origins) in
          ap (map (marked (own ++ others))) cut
          ∙ map-append (marked (own ++ others)) (sources text) (map (further (length (sources text)) (length (lines text))) (sources more))
          ∙ (λ i. all-unchanged (own ++ others) (sources text) anew i ++ map (marked (own ++ others)) (map (further (sym have.1 i) (length (lines text))) (sources more)))
          ∙ ap (λ o. sources text ++ o) (further-marked own others (length (lines text)) (sources more) (sources-heads more))
          ∙ (λ i. reduced.cut i ++ map (further (have.1 i) (length (lines text))) (map (marked others) (sources more)))

  pub reduced-left : IsLeft keep_refused homes all text
  reduced-left own others more again number line sound first known low again_is =
      let found = short-is own others more first known in
      let n = found.0 in
      let m = found.1 in
      let rest = map (marked others) (sources more) in
      let same = found.3 ∙ ap (λ k. counted_anew kept ++ map (further k m) rest) found.2 in
      let is = subst (λ them. IsReduced keep_refused them again) same again_is in
      let own_rise = rising-marked homes all rise in
      let own_low = marked-below homes number all low in
      let rest_rise = rising-marked others (sources more) (sources-rising more) in
      let whole_rise = rising-append number these (map (further number line) rest) own_rise (further-rising number line rest rest_rise) own_low (further-above number line rest) in
      let short_rise = subst AreRising same (rising-marked (own ++ others) (sources (text ++ more)) (sources-rising (text ++ more))) in
      let whole = these ++ map (further number line) rest in
      let left = left_of_both keep_refused these kept reduced.are own_rise number own_low rest line m whole_rise short_rise is.kept is.are in
      reduced-is keep_refused whole left
      (are-left keep_refused these kept reduced.are own_rise number own_low rest line m whole_rise short_rise is.kept is.are) again
      (is.text_is ∙ sym (left-written keep_refused these kept reduced.are own_rise number own_low rest line m whole_rise short_rise is.kept is.are))
      (All-append IsTrace these (map (further number line) rest) (traces-marked homes all traces) (further-traces number line rest (traces-marked others (sources more) sound)))
