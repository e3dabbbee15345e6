-- Each trace that is kept is the first to show something among those that are kept, counted anew.
use Rattle.std.proofs.Common.{◌≡◌, ◌∙◌, ◌+◌, ◌-◌, ◌<◌, ◌&&◌, ◌||◌, ◌⊎◌, inl, inr, ℕ, zero, suc, Bool, true, false, IfSome, List, [], ◌∷◌, filter, get_or, length, Option, Some, None, option_map, refl, ap, sym, subst, arith}
use Rattle.std.specs.Prelude.{IsTrue}
use Rattle.std.specs.Option.{option_or}
use Rattle.std.proofs.lemmas.Bool.{and_parts, or_left}
use Rattle.std.proofs.lemmas.List.Elements.{filter_passes}
use Rattle.std.proofs.lemmas.List.Kept.{AllPairs-filter}
use Rattle.ld_trace.specs.Lines.{lines}
use Rattle.ld_trace.specs.Sources.{PlainSource}
use Rattle.ld_trace.specs.Events.{PlainEvent}
use Rattle.ld_rules.specs.declared.outcome.Witness.{Witness}
use Rattle.ld_rules.specs.Dependency.{dependencies_at, least_line, same_dependency}
use Rattle.ld_rules.specs.Outcome.{outcome}
use Rattle.ld_rules.specs.Union.{first_witness}
use Rattle.ld_rules.specs.Usage.{same_use, uses_at}
use Rattle.ld_batch.specs.Batch.{AreRising}
use Rattle.ld_reduce.specs.Written.{counted_anew, counted_from, ended}
use Rattle.ld_book.specs.Totals.{is_refused}
use Rattle.ld_reduce.specs.Kept.{AreKept, IsAt, IsFirst, keeps, kept_by}
use Rattle.ld_reduce.specs.Reduced.{AreNeeded}
use Rattle.ld_reduce.proofs.MovedLemmas.{line_within, refused-same, shown_by, within-same}
use Rattle.ld_reduce.proofs.TextLemmas.{texts-ended}
use Rattle.ld_reduce.proofs.WitnessLemmas.{as_witness, first-kept, first-later, first_in-cons, rising-tail, rising-later, witness-is}
use Rattle.ld_reduce.proofs.UnionLemmas.{counted, counted-rising}

module _ {A : Type 0} (same : A → A → Bool) (at : List PlainEvent → PlainEvent → List A) (what : A) where
  abbrev first : List PlainSource → Option Witness
  first sources = first_witness same (shown_by same at) sources what

  -- a trace shows it at some line, or at none, however it is counted
  shows_too : (number first_line : ℕ) (s : PlainSource) (line : ℕ) → least_line same (shown_by same at s) what ≡ Some line
      → (other : ℕ) × (least_line same (shown_by same at (counted number first_line s)) what ≡ Some other)
  shows_too number first_line s line is = by (least_line same (shown_by same at (counted number first_line s)) what) refl
    where
      within : line_within same at what (counted number first_line s) ≡ line_within same at what s
      within = within-same same at what (counted number first_line s) s (texts-ended s.bytes)

      by : (o : Option ℕ) → least_line same (shown_by same at (counted number first_line s)) what ≡ o
          → (other : ℕ) × (least_line same (shown_by same at (counted number first_line s)) what ≡ Some other)
      by None none = absurd (let e : None ≡ Some (line - s.first_line) = sym (ap (option_map (λ l. l - first_line)) none) ∙ within ∙ ap (option_map (λ l. l - s.first_line)) is in cc)
      by (Some other) some = (other, some)

  shows_none : (number first_line : ℕ) (s : PlainSource) → least_line same (shown_by same at s) what ≡ None
      → least_line same (shown_by same at (counted number first_line s)) what ≡ None
  shows_none number first_line s is = by (least_line same (shown_by same at (counted number first_line s)) what) refl
    where
      within : line_within same at what (counted number first_line s) ≡ line_within same at what s
      within = within-same same at what (counted number first_line s) s (texts-ended s.bytes)

      by : (o : Option ℕ) → least_line same (shown_by same at (counted number first_line s)) what ≡ o
          → least_line same (shown_by same at (counted number first_line s)) what ≡ None
      by None none = none
      by (Some other) some = absurd (let e : Some (other - first_line) ≡ None = sym (ap (option_map (λ l. l - first_line)) some) ∙ within ∙ ap (option_map (λ l. l - s.first_line)) is in cc)

  -- the trace that shows it first shows it first when it is counted anew
  first-counted : (n more : ℕ) (all : List PlainSource) → AreRising all → (k : ℕ) (d : PlainSource) → k < length all
      → (line : ℕ) → first all ≡ Some (record { number = (get_or all k d).number; line = line }) → IsAt (n + k) (first (counted_from n more all))
  first-counted n more [] rise k d within line there = absurd (omega arith)
  first-counted n more (s ∷ others) rise k d within line there =
      by k within there (least_line same (shown_by same at s) what) refl (first_in-cons same (shown_by same at) what s others rise)
      (λ j low is. first-counted (n + 1) (more + 1 + length (lines (ended s.bytes))) others (rising-tail s others rise) j d low line is)
    where
      rest : List PlainSource
      rest = counted_from (n + 1) (more + 1 + length (lines (ended s.bytes))) others

      by : (k : ℕ) → k < length (s ∷ others) → first (s ∷ others) ≡ Some (record { number = (get_or (s ∷ others) k d).number; line = line })
          → (one : Option ℕ) → least_line same (shown_by same at s) what ≡ one
          → first (s ∷ others) ≡ option_or (option_map (as_witness same (shown_by same at) what s) (least_line same (shown_by same at s) what)) (first others)
          → ((j : ℕ) → j < length others → first others ≡ Some (record { number = (get_or others j d).number; line = line }) → IsAt (n + 1 + j) (first rest))
          → IsAt (n + k) (first (counted n (more + 2) s ∷ rest))
      by k within there None is whole later =
          let less = whole ∙ ap (λ o. option_or (option_map (as_witness same (shown_by same at) what s) o) (first others)) is in
          let anew : first (counted n (more + 2) s ∷ rest) ≡ first rest =
          first_in-cons same (shown_by same at) what (counted n (more + 2) s) rest (counted-rising n more (s ∷ others))
          ∙ ap (λ o. option_or (option_map (λ l. record { number = n; line = l }) o) (first rest)) (shows_none n (more + 2) s is) in
          none k within (sym less ∙ there) anew later
        where
          none : (k : ℕ) → k < length (s ∷ others) → first others ≡ Some (record { number = (get_or (s ∷ others) k d).number; line = line })
              → first (counted n (more + 2) s ∷ rest) ≡ first rest
              → ((j : ℕ) → j < length others → first others ≡ Some (record { number = (get_or others j d).number; line = line }) → IsAt (n + 1 + j) (first rest))
              → IsAt (n + k) (first (counted n (more + 2) s ∷ rest))
          none zero within there anew later =
              let low : s.number < s.number = subst (λ o. IfSome o (λ v. s.number < v.number)) there (first-later same (shown_by same at) what s others rise) in
              absurd (omega (arith, low))
          none (suc j) within there anew later =
              let found = later j (omega (arith, within)) there in
              let next : n + 1 + j ≡ n + suc j = omega arith in
              (found.0, anew ∙ found.1 ∙ ap (λ m. Some (record { number = m; line = found.0 })) next)
      by k within there (Some x) is whole later =
          let own = whole ∙ ap (λ o. option_or (option_map (as_witness same (shown_by same at) what s) o) (first others)) is in
          let shown = shows_too n (more + 2) s x is in
          let anew : first (counted n (more + 2) s ∷ rest) ≡ Some (record { number = n; line = shown.0 }) =
          first_in-cons same (shown_by same at) what (counted n (more + 2) s) rest (counted-rising n more (s ∷ others))
          ∙ ap (λ o. option_or (option_map (λ l. record { number = n; line = l }) o) (first rest)) shown.1 in
          some k within (sym own ∙ there) shown.0 anew
        where
          number_of : Option Witness → ℕ
          number_of None = 0
          number_of (Some w) = w.number

          some : (k : ℕ) → k < length (s ∷ others) → Some (as_witness same (shown_by same at) what s x) ≡ Some (record { number = (get_or (s ∷ others) k d).number; line = line })
              → (o : ℕ) → first (counted n (more + 2) s ∷ rest) ≡ Some (record { number = n; line = o }) → IsAt (n + k) (first (counted n (more + 2) s ∷ rest))
          some zero within there o anew = let here : n ≡ n + 0 = omega arith in (o, anew ∙ ap (λ m. Some (record { number = m; line = o })) here)
          some (suc j) within there o anew =
              let low = rising-later s others rise j d (omega (arith, within)) in
              let same_number : s.number ≡ (get_or others j d).number = ap number_of there in
              absurd (omega (arith, low, same_number))

  -- what is kept shows it first where the whole does
  first-kept-too : (pass : PlainSource → Bool) (sources : List PlainSource) → AreRising sources
      → ((s : PlainSource) (line : ℕ) → first sources ≡ Some (record { number = s.number; line = line }) → pass s ≡ true)
      → first (filter pass sources) ≡ first sources
  first-kept-too pass sources rise kept =
      witness-is same (shown_by same at) what (filter pass sources) (AllPairs-filter (λ a b. a.number < b.number) pass sources rise)
      ∙ first-kept same (shown_by same at) what (as_witness same (shown_by same at) what) pass sources rise kept
      ∙ sym (witness-is same (shown_by same at) what sources rise)

  pub needed : (pass : PlainSource → Bool) (sources : List PlainSource) → AreRising sources
      → ((s : PlainSource) (line : ℕ) → first sources ≡ Some (record { number = s.number; line = line }) → pass s ≡ true)
      → (k : ℕ) (d : PlainSource) → k < length (filter pass sources) → IsAt (get_or (filter pass sources) k d).number (first sources)
      → IsAt k (first (counted_anew (filter pass sources)))
  needed pass sources rise kept k d within here =
      let same_place : 0 + k ≡ k = omega arith in
      subst (λ n. IsAt n (first (counted_anew (filter pass sources)))) same_place
      (first-counted 0 0 (filter pass sources) (AllPairs-filter (λ a b. a.number < b.number) pass sources rise) k d within here.0 (first-kept-too pass sources rise kept ∙ here.1))

-- the trace at a place, counted anew
at-counted : (n more : ℕ) (all : List PlainSource) (k : ℕ) (d e : PlainSource) → k < length all
    → (line : ℕ) × (get_or (counted_from n more all) k d ≡ counted (n + k) line (get_or all k e))
at-counted n more [] k d e within = absurd (omega arith)
at-counted n more (s ∷ others) zero d e within = let here : n ≡ n + 0 = omega arith in (more + 2, ap (λ m. counted m (more + 2) s) here)
at-counted n more (s ∷ others) (suc k) d e within =
    let rest = at-counted (n + 1) (more + 1 + length (lines (ended s.bytes))) others k d e (omega (arith, within)) in
    let next : n + 1 + k ≡ n + suc k = omega arith in
    (rest.0, rest.1 ∙ ap (λ m. counted m rest.0 (get_or others k e)) next)

length-counted : (n more : ℕ) (all : List PlainSource) → length (counted_from n more all) ≡ length all
length-counted n more [] = refl
length-counted n more (s ∷ others) = ap suc (length-counted (n + 1) (more + 1 + length (lines (ended s.bytes))) others)

-- so each of what is kept is needed
pub needed-kept : (refused : Bool) (sources kept : List PlainSource) → AreRising sources → AreKept refused sources kept → AreNeeded refused (counted_anew kept)
needed-kept refused sources kept rise is = subst (λ all. AreNeeded refused (counted_anew all)) (sym is.are) each
  where
    kept_first : (s : PlainSource) → IsFirst sources s.number → keeps is.is_first refused s ≡ true
    kept_first s first_there = or_left (is.is_first s.number) (refused && is_refused (outcome s)) ((is.exact s.number).1 first_there)

    one : (k : ℕ) (d : PlainSource) → k < length (kept_by is.is_first refused sources) → (test : Bool) → is.is_first (get_or (kept_by is.is_first refused sources) k d).number ≡ test
        → (test || (refused && is_refused (outcome (get_or (kept_by is.is_first refused sources) k d)))) ≡ true → (line : ℕ)
        → IsFirst (counted_anew (kept_by is.is_first refused sources)) k ⊎ (IsTrue refused × IsTrue (is_refused (outcome (counted k line (get_or (kept_by is.is_first refused sources) k d)))))
    one k d within true first_there keeps_it line = inl (by ((is.exact (get_or (kept_by is.is_first refused sources) k d).number).0 first_there))
      where
        by : IsFirst sources (get_or (kept_by is.is_first refused sources) k d).number → IsFirst (counted_anew (kept_by is.is_first refused sources)) k
        by (inl what) = inl (what.0, needed same_dependency dependencies_at what.0 (keeps is.is_first refused) sources rise (λ s line there. kept_first s (inl (what.0, (line, there)))) k d within what.1)
        by (inr what) = inr (what.0, needed same_use uses_at what.0 (keeps is.is_first refused) sources rise (λ s line there. kept_first s (inr (what.0, (line, there)))) k d within what.1)
    one k d within false later keeps_it line =
        let s = get_or (kept_by is.is_first refused sources) k d in
        let both = and_parts refused (is_refused (outcome s)) keeps_it in
        inr (both.0, refused-same (counted k line s) s (texts-ended s.bytes) ∙ both.1)

    each : AreNeeded refused (counted_anew (kept_by is.is_first refused sources))
    each k d within =
        let all = kept_by is.is_first refused sources in
        let low : k < length all = omega (arith, within, length-counted 0 0 all) in
        let found = at-counted 0 0 all k d d low in
        let zero_more : 0 + k ≡ k = omega arith in
        let here : get_or (counted_anew all) k d ≡ counted k found.0 (get_or all k d) = found.1 ∙ ap (λ m. counted m found.0 (get_or all k d)) zero_more in
        subst (λ s. IsFirst (counted_anew all) s.number ⊎ (IsTrue refused × IsTrue (is_refused (outcome s)))) (sym here)
        (one k d low (is.is_first (get_or all k d).number) refl (filter_passes (keeps is.is_first refused) sources k d low) found.0)
