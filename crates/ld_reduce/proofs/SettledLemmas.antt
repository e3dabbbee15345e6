-- What is reduced again stays as it is.
use Rattle.std.proofs.Common.{◌≡◌, ◌∙◌, ◌+◌, ◌<◌, ◌&&◌, ◌⊎◌, inl, inr, ℕ, zero, suc, Bool, true, List, [], ◌∷◌, ◌++◌, cond, filter, get_or, length, map, Option, Some, None, is_some, All, slice_get, refl, ap, sym, subst, arith}
use Rattle.std.specs.Prelude.{IsTrue}
use Rattle.std.proofs.lemmas.Bool.{and_from, or_left, or_right}
use Rattle.std.proofs.lemmas.List.Elements.{All-cons, All-filter, All-head, All-nil, All-tail}
use Rattle.ld_trace.specs.Lines.{lines, text_of}
use Rattle.ld_trace.specs.Sources.{PlainSource, sources}
use Rattle.ld_rules.specs.Outcome.{outcome}
use Rattle.ld_book.specs.Totals.{is_refused}
use Rattle.ld_reduce.specs.Kept.{AreKept, IsFirst, keeps}
use Rattle.ld_origin.specs.Origin.{PlainHome, PlainOrigin, lacking, marked, marked_with, origin_by, origin_from, origin_of}
use Rattle.ld_reduce.specs.Reduced.{AreNeeded, AreSaid, HaveHomes, IsReduced, IsSettled}
use Rattle.ld_reduce.specs.Written.{counted_from, ended, header, written}
use Rattle.ld_origin.proofs.OriginLemmas.{home-said, origin-line, origin-said}
use Rattle.ld_reduce.proofs.TextLemmas.{ended-twice, texts-ended}

-- the trace says where it comes from
abbrev pub HasOrigin : PlainSource → Type 0
HasOrigin s = is_some (origin_of s.bytes) ≡ true

some_there : {X : Type 0} (xs : List X) (k : ℕ) → k < length xs → slice_get xs k ≡ None → zero ≡ suc zero
some_there [] k within none = absurd (omega (arith, within))
some_there (x ∷ xs) zero within none = absurd (cc)
some_there (x ∷ xs) (suc k) within none = some_there xs k (omega (arith, within)) none

module _ (homes : List PlainHome) where
  -- a trace without it says its home
  pub says-home : (s : PlainSource) (home : PlainHome) → slice_get homes s.number ≡ Some home → origin_of s.bytes ≡ None → origin_of (marked homes s).bytes ≡ Some (origin_from home)
  says-home s home has none =
      (λ i. origin_of (marked_with (lacking (has i) (none i)) s).bytes)
      ∙ ap (λ all. origin_by (map text_of all)) (origin-line (origin_from home) (home-said home) s.bytes)
      ∙ origin-said (origin_from home) (home-said home)

  pub says-homes : (all : List PlainSource) → AreSaid homes all
  says-homes all k d within home has none = says-home (get_or all k d) home has none

  has-marked : (s : PlainSource) → s.number < length homes → HasOrigin (marked homes s)
  has-marked s within = by (origin_of s.bytes) refl (slice_get homes s.number) refl
    where
      by : (origin : Option PlainOrigin) → origin_of s.bytes ≡ origin → (home : Option PlainHome) → slice_get homes s.number ≡ home → HasOrigin (marked homes s)
      by (Some origin) is home has = (λ i. is_some (origin_of (marked_with (lacking (slice_get homes s.number) (is i)) s).bytes)) ∙ ap is_some is
      by None is (Some home) has = ap is_some (says-home s home has is)
      by None is None has = absurd (let wrong = some_there homes s.number within has in cc)

  pub have-marked : (all : List PlainSource) → HaveHomes homes all → All HasOrigin (map (marked homes) all)
  have-marked [] have = All-nil HasOrigin
  have-marked (s ∷ others) have =
      All-cons HasOrigin (marked homes s) (map (marked homes) others)
      (has-marked s (All-head (λ (source : PlainSource). source.number < length homes) s others have))
      (have-marked others (All-tail (λ (source : PlainSource). source.number < length homes) s others have))

  -- a trace that says it stays as it is
  unchanged : (s : PlainSource) → HasOrigin s → marked homes s ≡ s
  unchanged s has = by (origin_of s.bytes) refl has
    where
      by : (origin : Option PlainOrigin) → origin_of s.bytes ≡ origin → is_some origin ≡ true → marked homes s ≡ s
      by (Some origin) is has = λ i. marked_with (lacking (slice_get homes s.number) (is i)) s
      by None is has = absurd (cc)

  pub all-unchanged : (all : List PlainSource) → All HasOrigin all → map (marked homes) all ≡ all
  all-unchanged [] have = refl
  all-unchanged (s ∷ others) have = λ i. unchanged s (All-head HasOrigin s others have) i ∷ all-unchanged others (All-tail HasOrigin s others have) i

-- and so does each where there are no homes
unmarked : (s : PlainSource) → marked [] s ≡ s
unmarked s = by (origin_of s.bytes) refl
  where
    by : (origin : Option PlainOrigin) → origin_of s.bytes ≡ origin → marked [] s ≡ s
    by (Some origin) is = λ i. marked_with (lacking (slice_get [] s.number) (is i)) s
    by None is = λ i. marked_with (lacking (slice_get [] s.number) (is i)) s

pub all-unmarked : (all : List PlainSource) → map (marked []) all ≡ all
all-unmarked [] = refl
all-unmarked (s ∷ others) = λ i. unmarked s i ∷ all-unmarked others i

-- Traces counted anew.

pub have-counted : (n line : ℕ) (all : List PlainSource) → All HasOrigin all → All HasOrigin (counted_from n line all)
have-counted n line [] have = All-nil HasOrigin
have-counted n line (s ∷ others) have =
    All-cons HasOrigin _ _ (ap (λ texts. is_some (origin_by texts)) (texts-ended s.bytes) ∙ All-head HasOrigin s others have)
    (have-counted (n + 1) (line + 1 + length (lines (ended s.bytes))) others (All-tail HasOrigin s others have))

pub written-counted : (n line : ℕ) (all : List PlainSource) → written (counted_from n line all) ≡ written all
written-counted n line [] = refl
written-counted n line (s ∷ others) =
    λ i. (header s.label ++ ended-twice s.bytes i) ++ written-counted (n + 1) (line + 1 + length (lines (ended s.bytes))) others i

-- Each of the traces that are needed is kept.

pub all-kept : (pass : PlainSource → Bool) (all : List PlainSource) → All (λ s. pass s ≡ true) all → filter pass all ≡ all
all-kept pass [] each = refl
all-kept pass (s ∷ others) each =
    (λ i. cond (All-head (λ s. pass s ≡ true) s others each i) (s ∷ filter pass others) (filter pass others))
    ∙ ap (λ o. s ∷ o) (all-kept pass others (All-tail (λ s. pass s ≡ true) s others each))

kept-again : (refused : Bool) (all kept : List PlainSource) → AreNeeded refused all → AreKept refused all kept → kept ≡ all
kept-again refused all kept needed are = are.are ∙ all-kept (keeps are.is_first refused) all (λ k d within. by (get_or all k d) (needed k d within))
  where
    by : (s : PlainSource) → IsFirst all s.number ⊎ (IsTrue refused × IsTrue (is_refused (outcome s))) → keeps are.is_first refused s ≡ true
    by s (inl first) = or_left (are.is_first s.number) (refused && is_refused (outcome s)) ((are.exact s.number).1 first)
    by s (inr both) = or_right (are.is_first s.number) (refused && is_refused (outcome s)) (and_from refused (is_refused (outcome s)) both.0 both.1)

-- so the text is the same
pub reduced-settled : (refused : Bool) (homes : List PlainHome) (all : List PlainSource) (text : List ℕ) → IsReduced refused (map (marked homes) all) text
    → AreNeeded refused (sources text) → IsSettled refused homes all text
reduced-settled refused homes all text reduced needed others again fine is =
    let kept = kept-again refused (sources text) is.kept needed (subst (λ these. AreKept refused these is.kept) (same fine) is.are) in
    is.text_is ∙ ap written (kept ∙ reduced.cut) ∙ written-counted 0 0 reduced.kept ∙ sym reduced.text_is
  where
    same : (others ≡ []) ⊎ HaveHomes homes all → map (marked others) (sources text) ≡ sources text
    same (inl none) = ap (λ homes. map (marked homes) (sources text)) none ∙ all-unmarked (sources text)
    same (inr have) =
        let kept : All HasOrigin reduced.kept =
        subst (λ these. All HasOrigin these) (sym reduced.are.are) (All-filter (keeps reduced.are.is_first refused) HasOrigin (map (marked homes) all) (have-marked homes all have)) in
        all-unchanged others (sources text) (subst (λ these. All HasOrigin these) (sym reduced.cut) (have-counted 0 0 reduced.kept kept))
