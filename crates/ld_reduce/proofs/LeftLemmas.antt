-- What is left of what was left of some traces, together with others, is left of both.
use Rattle.std.proofs.Common.{◌≡◌, ◌∙◌, ◌+◌, ◌-◌, ◌<◌, ◌≤◌, ◌&&◌, ◌||◌, ◌⊎◌, inl, inr, ℕ, Bool, true, false, cond, List, [], ◌∷◌, ◌++◌, filter, get_or, length, map, Option, Some, None, option_map, is_some, All, nat_lt, refl, ap, sym, subst, arith, if◌then◌else◌}
use Rattle.std.specs.Prelude.{IsTrue}
use Rattle.std.specs.Bool.{Decides}
use Rattle.std.specs.Option.{option_or}
use Rattle.std.proofs.lemmas.Bool.{and_from, or_left, or_right}
use Rattle.std.proofs.lemmas.Bool.Decides.{nat_tests}
use Rattle.std.proofs.lemmas.List.Elements.{All-cons, All-head, All-nil, All-tail, filter-append}
use Rattle.ld_trace.specs.Lines.{lines}
use Rattle.ld_trace.specs.Sources.{PlainSource}
use Rattle.ld_trace.specs.Events.{PlainEvent}
use Rattle.ld_rules.specs.declared.outcome.Witness.{Witness}
use Rattle.ld_rules.specs.Dependency.{Dependency, dependencies_at, least_line, same_dependency}
use Rattle.ld_rules.specs.Outcome.{outcome}
use Rattle.ld_rules.specs.Union.{first_witness}
use Rattle.ld_rules.specs.Usage.{Use, same_use, uses_at}
use Rattle.ld_rules.proofs.PlaceLemmas.{flat_map-append}
use Rattle.ld_batch.specs.Batch.{AreRising}
use Rattle.ld_book.specs.Totals.{is_refused}
use Rattle.ld_reduce.specs.Kept.{AreKept, IsAt, IsFirst, keeps, kept_by}
use Rattle.ld_reduce.specs.Left.{further}
use Rattle.ld_reduce.specs.Same.{ShowSame}
use Rattle.ld_reduce.specs.Written.{counted_anew, counted_from, ended, header, trace_text, written}
use Rattle.ld_reduce.proofs.JoinLemmas.{show_same-from_union, some-map}
use Rattle.ld_reduce.proofs.MovedLemmas.{refused-same, shown_by, within-same}
use Rattle.ld_reduce.proofs.NeededLemmas.{needed-kept}
use Rattle.ld_reduce.proofs.SettledLemmas.{all-kept, written-counted}
use Rattle.ld_reduce.proofs.UnionLemmas.{union-kept, counted-rising}
use Rattle.ld_reduce.proofs.WitnessLemmas.{as_witness, first_said, said_in, witness-is}

-- The number of the first trace that shows something.

module _ {A : Type 0} (same : A → A → Bool) (at : List PlainEvent → PlainEvent → List A) (what : A) where
  abbrev number_of : PlainSource → ℕ → ℕ
  number_of s line = s.number

  abbrev who_in : PlainSource → Option ℕ
  who_in s = said_in same (shown_by same at) what number_of s

  abbrev pub who : List PlainSource → Option ℕ
  who all = first_said same (shown_by same at) what number_of all

  abbrev first : List PlainSource → Option Witness
  first all = first_witness same (shown_by same at) all what

  numbers-said : (all : List PlainSource) → option_map (λ (w : Witness). w.number) (first_said same (shown_by same at) what (as_witness same (shown_by same at) what) all) ≡ who all
  numbers-said [] = refl
  numbers-said (s ∷ others) = by (least_line same (shown_by same at s) what) (numbers-said others)
    where
      by : (line : Option ℕ) → option_map (λ (w : Witness). w.number) (first_said same (shown_by same at) what (as_witness same (shown_by same at) what) others) ≡ who others
          → option_map (λ (w : Witness). w.number) (option_or (option_map (as_witness same (shown_by same at) what s) line) (first_said same (shown_by same at) what (as_witness same (shown_by same at) what) others))
          ≡ option_or (option_map (number_of s) line) (who others)
      by None rest = rest
      by (Some line) rest = refl

  who-first : (all : List PlainSource) → AreRising all → option_map (λ (w : Witness). w.number) (first all) ≡ who all
  who-first all rise = ap (option_map (λ (w : Witness). w.number)) (witness-is same (shown_by same at) what all rise) ∙ numbers-said all

  pub at-from_who : (all : List PlainSource) → AreRising all → (number : ℕ) → who all ≡ Some number → IsAt number (first all)
  at-from_who all rise number is = by (first all) (who-first all rise ∙ is)
    where
      by : (one : Option Witness) → option_map (λ (w : Witness). w.number) one ≡ Some number → IsAt number one
      by None none = absurd (cc)
      by (Some w) some = let own : w.number ≡ number = cc in (w.line, ap (λ n. Some (record { number = n; line = w.line })) own)

  pub who-from_at : (all : List PlainSource) → AreRising all → (number : ℕ) → IsAt number (first all) → who all ≡ Some number
  who-from_at all rise number there = sym (who-first all rise) ∙ ap (option_map (λ (w : Witness). w.number)) there.1

  who-some : (all : List PlainSource) → AreRising all → is_some (who all) ≡ is_some (first all)
  who-some all rise = ap is_some (sym (who-first all rise)) ∙ some-map (λ (w : Witness). w.number) (first all)

  who-append : (xs ys : List PlainSource) → who (xs ++ ys) ≡ option_or (who xs) (who ys)
  who-append [] ys = refl
  who-append (x ∷ xs) ys = by (who_in x) (who-append xs ys)
    where
      by : (one : Option ℕ) → who (xs ++ ys) ≡ option_or (who xs) (who ys) → option_or one (who (xs ++ ys)) ≡ option_or (option_or one (who xs)) (who ys)
      by None rest = rest
      by (Some n) rest = refl

  who-further : (n l : ℕ) (all : List PlainSource) → who (map (further n l) all) ≡ option_map (λ m. m + n) (who all)
  who-further n l [] = refl
  who-further n l (s ∷ others) =
      (λ i. option_or (by_number (further n l s) i) (who-further n l others i))
      ∙ (λ i. option_or (if shows i then Some (s.number + n) else None) (option_map (λ m. m + n) (who others)))
      ∙ by (is_some (least_line same (shown_by same at s) what))
      ∙ sym (ap (λ one. option_map (λ m. m + n) (option_or one (who others))) (by_number s))
    where
      by_number : (t : PlainSource) → who_in t ≡ (if is_some (least_line same (shown_by same at t) what) then Some t.number else None)
      by_number t = at_line (least_line same (shown_by same at t) what)
        where
          at_line : (line : Option ℕ) → option_map (number_of t) line ≡ (if is_some line then Some t.number else None)
          at_line None = refl
          at_line (Some line) = refl

      shows : is_some (least_line same (shown_by same at (further n l s)) what) ≡ is_some (least_line same (shown_by same at s) what)
      shows =
          sym (some-map (λ k. k - (s.first_line + l)) (least_line same (shown_by same at (further n l s)) what))
          ∙ ap is_some (within-same same at what (further n l s) s refl)
          ∙ some-map (λ k. k - s.first_line) (least_line same (shown_by same at s) what)

      by : (test : Bool) → option_or (if test then Some (s.number + n) else None) (option_map (λ m. m + n) (who others))
          ≡ option_map (λ m. m + n) (option_or (if test then Some s.number else None) (who others))
      by true = refl
      by false = refl

  who-below : (n : ℕ) (all : List PlainSource) → All (λ s. s.number < n) all → (number : ℕ) → who all ≡ Some number → number < n
  who-below n [] low number is = absurd (cc)
  who-below n (s ∷ others) low number is =
      by (least_line same (shown_by same at s) what) is (λ later. who-below n others (All-tail (λ t. t.number < n) s others low) number later)
    where
      by : (line : Option ℕ) → option_or (option_map (number_of s) line) (who others) ≡ Some number → (who others ≡ Some number → number < n) → number < n
      by None is later = later is
      by (Some line) is later =
          let own : s.number ≡ number = cc in
          let least = All-head (λ t. t.number < n) s others low in
          omega (arith, own, least)

  -- Some traces, and those that are left of them; and others behind both.
  module _ (n k l m : ℕ) (all left others : List PlainSource) (low : All (λ s. s.number < n) all) (left_low : All (λ s. s.number < k) left) (alike : is_some (who all) ≡ is_some (who left)) where
    abbrev both : Option ℕ
    both = option_or (who all) (option_map (λ j. j + n) (who others))

    abbrev less : Option ℕ
    less = option_or (who left) (option_map (λ j. j + k) (who others))

    -- what the first ones show, they show in both
    own-to : (number : ℕ) → who all ≡ Some number → both ≡ Some number
    own-to number is = ap (λ one. option_or one (option_map (λ j. j + n) (who others))) is

    left-to : (number : ℕ) → who left ≡ Some number → less ≡ Some number
    left-to number is = ap (λ one. option_or one (option_map (λ j. j + k) (who others))) is

    own-from : (number : ℕ) → number < n → both ≡ Some number → who all ≡ Some number
    own-from number below is = by (who all) refl (who others) is
      where
        by : (one : Option ℕ) → who all ≡ one → (two : Option ℕ) → option_or one (option_map (λ j. j + n) two) ≡ Some number → who all ≡ Some number
        by None none None is = absurd (cc)
        by None none (Some j) is = absurd (let same : j + n ≡ number = cc in omega (arith, same, below))
        by (Some x) some two is = some ∙ is

    -- what they don't show, the others show in both
    others-to : (number : ℕ) → n ≤ number → both ≡ Some number → less ≡ Some (number - n + k)
    others-to number above is = by (who all) refl (who left) refl (who others) alike is
      where
        by : (one : Option ℕ) → who all ≡ one → (two : Option ℕ) → who left ≡ two → (three : Option ℕ) → is_some (who all) ≡ is_some (who left)
            → option_or one (option_map (λ j. j + n) three) ≡ Some number → option_or two (option_map (λ j. j + k) three) ≡ Some (number - n + k)
        by None none (Some y) some three alike is = absurd (let wrong : false ≡ true = sym (ap is_some none) ∙ alike ∙ ap is_some some in cc)
        by None none None also None alike is = absurd (cc)
        by None none None also (Some j) alike is = let same : j + n ≡ number = cc in let next : j + k ≡ number - n + k = omega (arith, same) in ap Some next
        by (Some x) some two also three alike is =
            let own : x ≡ number = cc in
            let least = who-below n all low x some in
            absurd (omega (arith, own, least, above))

    others-from : (number : ℕ) → n ≤ number → less ≡ Some (number - n + k) → both ≡ Some number
    others-from number above is = by (who all) refl (who left) refl (who others) alike is
      where
        by : (one : Option ℕ) → who all ≡ one → (two : Option ℕ) → who left ≡ two → (three : Option ℕ) → is_some (who all) ≡ is_some (who left)
            → option_or two (option_map (λ j. j + k) three) ≡ Some (number - n + k) → option_or one (option_map (λ j. j + n) three) ≡ Some number
        by one also (Some y) some three alike is =
            let own : y ≡ number - n + k = cc in
            let least = who-below k left left_low y some in
            absurd (omega (arith, own, least))
        by (Some x) some None none three alike is = absurd (let wrong : true ≡ false = sym (ap is_some some) ∙ alike ∙ ap is_some none in cc)
        by None none None also None alike is = absurd (cc)
        by None none None also (Some j) alike is = let same : j + k ≡ number - n + k = cc in let next : j + n ≡ number = omega (arith, same, above) in ap Some next

-- Lists of traces.

filter-agree : {X : Type 0} (p q : X → Bool) (xs : List X) → All (λ x. p x ≡ q x) xs → filter p xs ≡ filter q xs
filter-agree p q [] agree = refl
filter-agree p q (x ∷ xs) agree =
    let rest = filter-agree p q xs (All-tail (λ x. p x ≡ q x) x xs agree) in
    let here = All-head (λ x. p x ≡ q x) x xs agree in
    λ i. cond (here i) (x ∷ rest i) (rest i)

counted-below : (n line : ℕ) (all : List PlainSource) → All (λ s. s.number < n + length all) (counted_from n line all)
counted-below n line [] = All-nil (λ s. s.number < n + 0)
counted-below n line (s ∷ others) =
    let next : n + 1 + length others ≡ n + length (s ∷ others) = omega arith in
    All-cons (λ t. t.number < n + length (s ∷ others)) _ _ (omega arith)
    (subst (λ most. All (λ t. t.number < most) (counted_from (n + 1) (line + 1 + length (lines (ended s.bytes))) others)) next
    (counted-below (n + 1) (line + 1 + length (lines (ended s.bytes))) others))

-- Of these traces some are left; others stand behind both.
module _ (refused : Bool) (all left : List PlainSource) (are : AreKept refused all left) (rise : AreRising all) (n : ℕ) (low : All (λ s. s.number < n) all)
    (others : List PlainSource) (l m : ℕ) where
  abbrev k : ℕ
  k = length left

  abbrev anew : List PlainSource
  anew = counted_anew left

  abbrev whole : List PlainSource
  whole = all ++ map (further n l) others

  abbrev short : List PlainSource
  short = anew ++ map (further k m) others

  alike : ShowSame all anew
  alike = show_same-from_union all anew (union-kept refused all left rise are)

  anew-rising : AreRising anew
  anew-rising = counted-rising 0 0 left

  anew-low : All (λ s. s.number < k) anew
  anew-low = let same : 0 + k ≡ k = omega arith in subst (λ most. All (λ s. s.number < most) anew) same (counted-below 0 0 left)

  module _ (whole_rise : AreRising whole) (short_rise : AreRising short) where
    module _ {A : Type 0} (same : A → A → Bool) (at : List PlainEvent → PlainEvent → List A) (what : A)
        (some : is_some (first_witness same (shown_by same at) all what) ≡ is_some (first_witness same (shown_by same at) anew what)) where
      alike-who : is_some (who same at what all) ≡ is_some (who same at what anew)
      alike-who = who-some same at what all rise ∙ some ∙ sym (who-some same at what anew anew-rising)

      who-whole : who same at what whole ≡ option_or (who same at what all) (option_map (λ j. j + n) (who same at what others))
      who-whole = who-append same at what all (map (further n l) others) ∙ ap (option_or (who same at what all)) (who-further same at what n l others)

      who-short : who same at what short ≡ option_or (who same at what anew) (option_map (λ j. j + k) (who same at what others))
      who-short = who-append same at what anew (map (further k m) others) ∙ ap (option_or (who same at what anew)) (who-further same at what k m others)

      front-to : (number : ℕ) → IsAt number (first_witness same (shown_by same at) all what) → IsAt number (first_witness same (shown_by same at) whole what)
      front-to number there =
          at-from_who same at what whole whole_rise number
          (who-whole ∙ own-to same at what n k l m all anew others low anew-low alike-who number (who-from_at same at what all rise number there))

      front-from : (number : ℕ) → number < n → IsAt number (first_witness same (shown_by same at) whole what) → IsAt number (first_witness same (shown_by same at) all what)
      front-from number below there =
          at-from_who same at what all rise number
          (own-from same at what n k l m all anew others low anew-low alike-who number below (sym who-whole ∙ who-from_at same at what whole whole_rise number there))

      back-to : (number : ℕ) → n ≤ number → IsAt number (first_witness same (shown_by same at) whole what) → IsAt (number - n + k) (first_witness same (shown_by same at) short what)
      back-to number above there =
          at-from_who same at what short short_rise (number - n + k)
          (who-short ∙ others-to same at what n k l m all anew others low anew-low alike-who number above (sym who-whole ∙ who-from_at same at what whole whole_rise number there))

      back-from : (number : ℕ) → n ≤ number → IsAt (number - n + k) (first_witness same (shown_by same at) short what) → IsAt number (first_witness same (shown_by same at) whole what)
      back-from number above there =
          at-from_who same at what whole whole_rise number
          (who-whole ∙ others-from same at what n k l m all anew others low anew-low alike-who number above (sym who-short ∙ who-from_at same at what short short_rise (number - n + k) there))

      anew-to : (number : ℕ) → IsAt number (first_witness same (shown_by same at) anew what) → IsAt number (first_witness same (shown_by same at) short what)
      anew-to number there =
          at-from_who same at what short short_rise number
          (who-short ∙ left-to same at what n k l m all anew others low anew-low alike-who number (who-from_at same at what anew anew-rising number there))

    first-front : (number : ℕ) → IsFirst all number → IsFirst whole number
    first-front number (inl what) = inl (what.0, front-to same_dependency dependencies_at what.0 (alike.dependencies what.0) number what.1)
    first-front number (inr what) = inr (what.0, front-to same_use uses_at what.0 (alike.uses what.0) number what.1)

    front-first : (number : ℕ) → number < n → IsFirst whole number → IsFirst all number
    front-first number below (inl what) = inl (what.0, front-from same_dependency dependencies_at what.0 (alike.dependencies what.0) number below what.1)
    front-first number below (inr what) = inr (what.0, front-from same_use uses_at what.0 (alike.uses what.0) number below what.1)

    back-first : (number : ℕ) → n ≤ number → IsFirst whole number → IsFirst short (number - n + k)
    back-first number above (inl what) = inl (what.0, back-to same_dependency dependencies_at what.0 (alike.dependencies what.0) number above what.1)
    back-first number above (inr what) = inr (what.0, back-to same_use uses_at what.0 (alike.uses what.0) number above what.1)

    first-back : (number : ℕ) → n ≤ number → IsFirst short (number - n + k) → IsFirst whole number
    first-back number above (inl what) = inl (what.0, back-from same_dependency dependencies_at what.0 (alike.dependencies what.0) number above what.1)
    first-back number above (inr what) = inr (what.0, back-from same_use uses_at what.0 (alike.uses what.0) number above what.1)

    first-anew : (number : ℕ) → IsFirst anew number → IsFirst short number
    first-anew number (inl what) = inl (what.0, anew-to same_dependency dependencies_at what.0 (alike.dependencies what.0) number what.1)
    first-anew number (inr what) = inr (what.0, anew-to same_use uses_at what.0 (alike.uses what.0) number what.1)

    -- What is left of the second list.
    module _ (rest : List PlainSource) (rest_are : AreKept refused short rest) where
      pub is_first : ℕ → Bool
      is_first number = if nat_lt number n then are.is_first number else rest_are.is_first (number - n + k)

      exact : (number : ℕ) → Decides (is_first number) (IsFirst whole number)
      unfolding is_first
      exact number = by (nat_lt number n) refl
        where
          by : (test : Bool) → nat_lt number n ≡ test → Decides (if test then are.is_first number else rest_are.is_first (number - n + k)) (IsFirst whole number)
          by true is =
              let below : number < n = grind (arith, nat_tests, is) in
              (λ there. first-front number ((are.exact number).0 there), λ there. (are.exact number).1 (front-first number below there))
          by false is =
              let above : n ≤ number = grind (arith, nat_tests, is) in
              (λ there. first-back number above ((rest_are.exact (number - n + k)).0 there), λ there. (rest_are.exact (number - n + k)).1 (back-first number above there))

      -- those of the first traces that are left are those
      front-left : filter (keeps is_first refused) all ≡ left
      unfolding is_first
      front-left =
          filter-agree (keeps is_first refused) (keeps are.is_first refused) all
          (λ at d within.
          let below : (get_or all at d).number < n = low at d within in
          let yes : nat_lt (get_or all at d).number n ≡ true = grind (arith, nat_tests, below) in
          ap (λ test. (if test then are.is_first (get_or all at d).number else rest_are.is_first ((get_or all at d).number - n + k)) || (refused && is_refused (outcome (get_or all at d)))) yes)
          ∙ sym are.are

      -- which all stay
      anew-left : filter (keeps rest_are.is_first refused) anew ≡ anew
      anew-left = all-kept (keeps rest_are.is_first refused) anew (λ at d within. by (get_or anew at d) (needed-kept refused all left rise are at d within))
        where
          by : (s : PlainSource) → IsFirst anew s.number ⊎ (IsTrue refused × IsTrue (is_refused (outcome s))) → keeps rest_are.is_first refused s ≡ true
          by s (inl first) = or_left (rest_are.is_first s.number) (refused && is_refused (outcome s)) ((rest_are.exact s.number).1 (first-anew s.number first))
          by s (inr both) = or_right (rest_are.is_first s.number) (refused && is_refused (outcome s)) (and_from refused (is_refused (outcome s)) both.0 both.1)

      -- and of the others the same are left, whatever their numbers
      keeps-alike : (s : PlainSource) → keeps is_first refused (further n l s) ≡ keeps rest_are.is_first refused (further k m s)
      unfolding is_first
      keeps-alike s =
          let no : nat_lt (s.number + n) n ≡ false = grind (arith, nat_tests) in
          let number : s.number + n - n + k ≡ s.number + k = omega arith in
          (λ i. (if no i then are.is_first (s.number + n) else rest_are.is_first (number i)) || (refused && is_refused (outcome (further n l s))))
          ∙ ap (λ test. rest_are.is_first (s.number + k) || (refused && test)) (refused-same (further n l s) (further k m s) refl)

      back-left : (these : List PlainSource) → written (filter (keeps is_first refused) (map (further n l) these)) ≡ written (filter (keeps rest_are.is_first refused) (map (further k m) these))
      back-left [] = refl
      back-left (s ∷ these) = ap (λ test. written (cond test (further n l s ∷ filter (keeps is_first refused) (map (further n l) these)) (filter (keeps is_first refused) (map (further n l) these)))) (keeps-alike s)
          ∙ by (keeps rest_are.is_first refused (further k m s)) (back-left these)
        where
          by : (test : Bool) → written (filter (keeps is_first refused) (map (further n l) these)) ≡ written (filter (keeps rest_are.is_first refused) (map (further k m) these))
              → written (cond test (further n l s ∷ filter (keeps is_first refused) (map (further n l) these)) (filter (keeps is_first refused) (map (further n l) these)))
              ≡ written (cond test (further k m s ∷ filter (keeps rest_are.is_first refused) (map (further k m) these)) (filter (keeps rest_are.is_first refused) (map (further k m) these)))
          by true rest = ap (λ o. trace_text s ++ o) rest
          by false rest = rest

      abbrev pub left_of_both : List PlainSource
      left_of_both = kept_by is_first refused whole

      pub are-left : AreKept refused whole left_of_both
      are-left = record { is_first = is_first; exact = exact; are = refl }

      pub left-written : written left_of_both ≡ written rest
      left-written =
          ap written (filter-append (keeps is_first refused) all (map (further n l) others))
          ∙ ap (λ front. written (front ++ filter (keeps is_first refused) (map (further n l) others))) front-left
          ∙ flat_map-append trace_text left (filter (keeps is_first refused) (map (further n l) others))
          ∙ (λ i. sym (written-counted 0 0 left) i ++ back-left others i)
          ∙ sym (flat_map-append trace_text anew (filter (keeps rest_are.is_first refused) (map (further k m) others)))
          ∙ ap (λ front. written (front ++ filter (keeps rest_are.is_first refused) (map (further k m) others))) (sym anew-left)
          ∙ sym (ap written (rest_are.are ∙ filter-append (keeps rest_are.is_first refused) anew (map (further k m) others)))
