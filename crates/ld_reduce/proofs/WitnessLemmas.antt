-- First witnesses, over traces in the order of their numbers.
use Rattle.std.proofs.Common.{◌≡◌, ◌∙◌, ◌-◌, ◌<◌, ◌==◌, ◌||◌, ◌&&◌, ℕ, suc, Bool, true, false, cond, IfSome, List, [], ◌∷◌, filter, filter_map, fold, Option, Some, None, option_map, All, nat_lt, refl, ap, sym, arith, if◌then◌else◌}
use Rattle.std.proofs.lemmas.Bool.{eqb-true, false_from_ne_true, ltb-true}
use Rattle.std.proofs.lemmas.Bool.Decides.{Decides-eqb}
use Rattle.std.proofs.lemmas.List.Elements.{All-cons, All-head, All-nil, All-tail}
use Rattle.std.specs.List.{cons_option}
use Rattle.std.specs.Option.{option_or}
use Rattle.ld_trace.specs.Sources.{PlainSource}
use Rattle.ld_rules.specs.declared.outcome.Witness.{Witness}
use Rattle.ld_rules.specs.Dependency.{Seen, least_line}
use Rattle.ld_rules.specs.Union.{earlier, first_of, first_witness, is_before}
use Rattle.ld_batch.specs.Batch.{AreRising}
use Rattle.ld_origin.specs.Origin.{origin_of}
use Rattle.ld_reduce.specs.Same.{Place, place_of}

pub rising-later : (s : PlainSource) (others : List PlainSource) → AreRising (s ∷ others) → All (λ t. s.number < t.number) others
rising-later s others rise k d within = rise 0 (suc k) d (omega arith) (omega arith)

pub rising-tail : (s : PlainSource) (others : List PlainSource) → AreRising (s ∷ others) → AreRising others
rising-tail s others rise i j d before within = rise (suc i) (suc j) d (omega arith) (omega arith)

-- the first of witnesses stays, where the others have greater numbers
first-stays : (w : Witness) (others : List Witness) → All (λ v. w.number < v.number) others → fold earlier w others ≡ w
first-stays w [] above = refl
first-stays w (v ∷ others) above =
    let low = All-head (λ u. w.number < u.number) v others above in
    let less : nat_lt v.number w.number ≡ false = false_from_ne_true _ (λ h. absurd (let more = ltb-true v.number w.number h in omega (arith, low, more))) in
    let other : (v.number == w.number) ≡ false = false_from_ne_true _ (λ h. absurd (let same = eqb-true v.number w.number h in omega (arith, low, same))) in
    (λ i. fold earlier (if less i || (other i && nat_lt v.line w.line) then v else w) others) ∙ first-stays w others (All-tail (λ u. w.number < u.number) v others above)

module _ {A : Type 0} (same : A → A → Bool) (shown : PlainSource → List (Seen A)) (what : A) where
  -- where a source shows it
  abbrev at : PlainSource → Option Witness
  at s = option_map (λ line. record { number = s.number; line = line }) (least_line same (shown s) what)

  above : (n : ℕ) (sources : List PlainSource) → All (λ t. n < t.number) sources → All (λ v. n < v.number) (filter_map at sources)
  above n [] low = All-nil (λ v. n < v.number)
  above n (s ∷ sources) low = by (least_line same (shown s) what) (above n sources (All-tail (λ t. n < t.number) s sources low))
    where
      by : (line : Option ℕ) → All (λ v. n < v.number) (filter_map at sources)
          → All (λ v. n < v.number) (cons_option (option_map (λ line. record { number = s.number; line = line }) line) (filter_map at sources))
      by None rest = rest
      by (Some line) rest = All-cons (λ v. n < v.number) (record { number = s.number; line = line }) (filter_map at sources) (All-head (λ t. n < t.number) s sources low) rest

  -- the first of the sources that shows it has the first witness
  pub first_in-cons : (s : PlainSource) (others : List PlainSource) → AreRising (s ∷ others)
      → first_witness same shown (s ∷ others) what ≡ option_or (at s) (first_witness same shown others what)
  first_in-cons s others rise = by (least_line same (shown s) what)
    where
      later : All (λ v. s.number < v.number) (filter_map at others)
      later = above s.number others (rising-later s others rise)

      by : (line : Option ℕ) → first_of (cons_option (option_map (λ line. record { number = s.number; line = line }) line) (filter_map at others))
          ≡ option_or (option_map (λ line. record { number = s.number; line = line }) line) (first_of (filter_map at others))
      by None = refl
      by (Some line) = ap Some (first-stays (record { number = s.number; line = line }) (filter_map at others) later)

  first-above : (n : ℕ) (witnesses : List Witness) → All (λ v. n < v.number) witnesses → IfSome (first_of witnesses) (λ v. n < v.number)
  first-above n [] low = tt
  first-above n (w ∷ others) low = from w others (All-head (λ v. n < v.number) w others low) (All-tail (λ v. n < v.number) w others low)
    where
      from : (w : Witness) (others : List Witness) → n < w.number → All (λ v. n < v.number) others → n < (fold earlier w others).number
      from w [] own low = own
      from w (v ∷ others) own low = from (earlier w v) others (by (is_before v w)) (All-tail (λ u. n < u.number) v others low)
        where
          by : (test : Bool) → n < (if test then v else w).number
          by true = All-head (λ u. n < u.number) v others low
          by false = own

  -- Where it was first seen, said in some way of a source and a line of it.

  module _ {X : Type 0} (say : PlainSource → ℕ → X) where
    abbrev pub said_in : PlainSource → Option X
    said_in s = option_map (say s) (least_line same (shown s) what)

    -- by the first source that shows it
    abbrev pub first_said : List PlainSource → Option X
    first_said [] = None
    first_said (s ∷ others) = option_or (said_in s) (first_said others)

    -- it is the same of those that are kept, if what shows it first is kept
    pub first-kept : (keeps : PlainSource → Bool) (sources : List PlainSource) → AreRising sources
        → ((s : PlainSource) (line : ℕ) → first_witness same shown sources what ≡ Some (record { number = s.number; line = line }) → keeps s ≡ true)
        → first_said (filter keeps sources) ≡ first_said sources
    first-kept keeps [] rise first = refl
    first-kept keeps (s ∷ others) rise first =
        by (least_line same (shown s) what) refl (first_in-cons s others rise) (λ kept. first-kept keeps others (rising-tail s others rise) kept)
      where
        either : (test : Bool) → said_in s ≡ None → first_said (cond test (s ∷ filter keeps others) (filter keeps others)) ≡ first_said (filter keeps others)
        either true none = ap (λ o. option_or o (first_said (filter keeps others))) none
        either false none = refl

        by : (line : Option ℕ) → least_line same (shown s) what ≡ line
            → first_witness same shown (s ∷ others) what ≡ option_or (at s) (first_witness same shown others what)
            → (((t : PlainSource) (line : ℕ) → first_witness same shown others what ≡ Some (record { number = t.number; line = line }) → keeps t ≡ true)
            → first_said (filter keeps others) ≡ first_said others)
            → first_said (filter keeps (s ∷ others)) ≡ first_said (s ∷ others)
        by None is whole later =
            let none : said_in s ≡ None = ap (option_map (say s)) is in
            let less : first_witness same shown (s ∷ others) what ≡ first_witness same shown others what =
            whole ∙ ap (λ o. option_or (option_map (λ line. record { number = s.number; line = line }) o) (first_witness same shown others what)) is in
            either (keeps s) none ∙ later (λ t line there. first t line (less ∙ there)) ∙ sym (ap (λ o. option_or o (first_said others)) none)
        by (Some line) is whole later =
            let there : first_witness same shown (s ∷ others) what ≡ Some (record { number = s.number; line = line }) =
            whole ∙ ap (λ o. option_or (option_map (λ line. record { number = s.number; line = line }) o) (first_witness same shown others what)) is in
            let some : said_in s ≡ Some (say s line) = ap (option_map (say s)) is in
            ap (λ test. first_said (cond test (s ∷ filter keeps others) (filter keeps others))) (first s line there)
            ∙ ap (λ o. option_or o (first_said (filter keeps others))) some
            ∙ sym (ap (λ o. option_or o (first_said others)) some)

  -- by its number and line
  abbrev pub as_witness : PlainSource → ℕ → Witness
  as_witness s line = record { number = s.number; line = line }

  pub witness-is : (sources : List PlainSource) → AreRising sources → first_witness same shown sources what ≡ first_said as_witness sources
  witness-is [] rise = refl
  witness-is (s ∷ others) rise = first_in-cons s others rise ∙ ap (option_or (at s)) (witness-is others (rising-tail s others rise))

  -- what shows it among the later sources has a greater number
  pub first-later : (s : PlainSource) (others : List PlainSource) → AreRising (s ∷ others) → IfSome (first_witness same shown others what) (λ v. s.number < v.number)
  first-later s others rise = first-above s.number (filter_map at others) (above s.number others (rising-later s others rise))

  -- by its place
  abbrev pub as_place : PlainSource → ℕ → Place
  as_place s line = record { label = s.label; origin = origin_of s.bytes; line = line - s.first_line }

  pub place-is : (sources : List PlainSource) → AreRising sources → option_map (place_of sources) (first_witness same shown sources what) ≡ first_said as_place sources
  place-is [] rise = refl
  place-is (s ∷ others) rise =
      ap (option_map (place_of (s ∷ others))) (first_in-cons s others rise)
      ∙ by (least_line same (shown s) what) (place-is others (rising-tail s others rise))
    where
      skip : (first : Option Witness) → IfSome first (λ v. s.number < v.number) → option_map (place_of (s ∷ others)) first ≡ option_map (place_of others) first
      skip None low = refl
      skip (Some w) low =
          let other : (s.number == w.number) ≡ false = false_from_ne_true _ (λ h. absurd (let same = eqb-true s.number w.number h in omega (arith, low, same))) in
          λ i. Some (if other i then as_place s w.line else place_of others w)

      by : (line : Option ℕ) → option_map (place_of others) (first_witness same shown others what) ≡ first_said as_place others
          → option_map (place_of (s ∷ others)) (option_or (option_map (as_witness s) line) (first_witness same shown others what))
          ≡ option_or (option_map (as_place s) line) (first_said as_place others)
      by None rest = skip (first_witness same shown others what) (first-later s others rise) ∙ rest
      by (Some line) rest =
          let own : (s.number == s.number) ≡ true = (Decides-eqb s.number s.number).1 refl in
          λ i. Some (if own i then as_place s line else place_of others (as_witness s line))
