-- The first witnesses over some sources and one more, whose number is above theirs.
use Rattle.std.proofs.Common.{◌≡◌, ◌<◌, ◌==◌, ◌&&◌, ◌||◌, ◌++◌, ◌∷◌, [], All, AllPairs, Bool, true, false, List, ℕ, Option, Some, None, IfSome, nat_lt, filter_map}
use Rattle.std.proofs.Common.{drop, flat_map, fold, get_or, length, map, take, refl, ap, sym, subst, ◌∙◌, append_assoc, arith, if◌then◌else◌, option_map}
use Rattle.std.proofs.lemmas.Bool.{eqb-true, false_from_ne_true, ltb-true}
use Rattle.std.proofs.lemmas.List.{append-nil, drop-map, get_or-map, length-map, map-append, take-append-drop}
use Rattle.std.proofs.lemmas.List.Elements.{All-cons, All-head, All-nil, All-tail, filter_map-append}
use Rattle.std.proofs.lemmas.List.Sums.{fold-append}
use Rattle.std.proofs.lemmas.Simd.{map-map}
use Rattle.std.specs.Bool.{Decides}
use Rattle.std.specs.List.{cons_option}
use Rattle.std.specs.Option.{option_or}
use Rattle.ld_trace.specs.Sources.{PlainSource}
use Rattle.ld_rules.specs.declared.outcome.Witness.{Witness}
use Rattle.ld_rules.specs.Dependency.{Seen, least_line}
use Rattle.ld_rules.specs.Inner.Scanned.{AreSame, with_new}
use Rattle.ld_rules.specs.Union.{classes_of, earlier, first_of, first_witness, is_before}
use Rattle.ld_rules.proofs.LeastLemmas.{Ascend, first_line, least_is_first}
use Rattle.ld_rules.proofs.SameLemmas.{apart-fold}
use Rattle.ld_batch.specs.Batch.{Met, witness_of}
use Rattle.ld_batch.specs.Inner.Rows.{AreMet, earlier_of, seen_in, seen_of}
use Rattle.ld_batch.proofs.LineLemmas.{AreOnce, first_same}
use Rattle.ld_batch.proofs.MetLemmas.{first_kept, joined, line-append, line-of, met, met_once, same_seen, seen_both, seen_once, witness-append, witness-met}

-- the classes that some sources and one more show
pub shown-push : (sources : List PlainSource) (source : PlainSource) → flat_map classes_of (sources ++ source ∷ []) ≡ flat_map classes_of sources ++ classes_of source
shown-push [] source = append-nil (classes_of source)
shown-push (first ∷ sources) source = ap (λ xs. classes_of first ++ xs) (shown-push sources source) ∙ sym (append_assoc (classes_of first) (flat_map classes_of sources) (classes_of source))

-- an absent witness is no earlier one
pub earlier_of-none : (a : Option Witness) → a ≡ earlier_of a None
earlier_of-none None = refl
earlier_of-none (Some a) = refl

-- the least of some witnesses and one more
pub first_of-push : (witnesses : List Witness) (last : Witness) → first_of (witnesses ++ last ∷ []) ≡ earlier_of (first_of witnesses) (Some last)
first_of-push [] last = refl
first_of-push (first ∷ witnesses) last = ap Some (fold-append earlier first witnesses (last ∷ []))

-- witnesses of lesser numbers
module _ (number : ℕ) where
  abbrev Low : Witness → Type 0
  Low w = w.number < number

  least-low : (w : Witness) (ws : List Witness) → Low w → All Low ws → Low (fold earlier w ws)
  least-low w [] low all = low
  least-low w (v ∷ ws) low all = least-low (earlier w v) ws (by (is_before v w)) (All-tail Low v ws all)
    where
      by : (b : Bool) → Low (if b then v else w)
      by true = All-head Low v ws all
      by false = low

  first-low : (ws : List Witness) → All Low ws → IfSome (first_of ws) Low
  first-low [] all = tt
  first-low (w ∷ ws) all = least-low w ws (All-head Low w ws all) (All-tail Low w ws all)

  -- one of them stays the first
  stays : (before : Option Witness) (line : Option ℕ) → IfSome before Low → earlier_of before (seen_in number line) ≡ option_or before (seen_in number line)
  stays None line low = refl
  stays (Some w) None low = refl
  stays (Some w) (Some line) low =
      let lesser : nat_lt number w.number ≡ false = false_from_ne_true _ (λ h. absurd (omega (arith, low, ltb-true number w.number h))) in
      let other : (number == w.number) ≡ false = false_from_ne_true _ (λ h. absurd (omega (arith, low, eqb-true number w.number h))) in
      λ i. Some (if lesser i || (other i && nat_lt line w.line) then record { number = number; line = line } else w)

module _ {A : Type 0} (same : A → A → Bool) (shown : PlainSource → List (Seen A)) where
  -- where each source shows it
  abbrev pub shown_in : A → PlainSource → Option Witness
  shown_in what source = seen_in source.number (least_line same (shown source) what)

  -- the first witness over some sources and one more
  pub witness-push : (sources : List PlainSource) (source : PlainSource) (what : A)
      → first_witness same shown (sources ++ source ∷ []) what ≡ earlier_of (first_witness same shown sources what) (shown_in what source)
  witness-push sources source what =
      ap first_of (filter_map-append (shown_in what) sources (source ∷ [])) ∙ by (filter_map (shown_in what) sources) (shown_in what source)
    where
      by : (before : List Witness) (more : Option Witness) → first_of (before ++ cons_option more []) ≡ earlier_of (first_of before) more
      by before None = ap first_of (append-nil before) ∙ earlier_of-none (first_of before)
      by before (Some w) = first_of-push before w

  all-low : (number : ℕ) (sources : List PlainSource) (what : A) → All (λ s. s.number < number) sources → All (Low number) (filter_map (shown_in what) sources)
  all-low number [] what low = All-nil (Low number)
  all-low number (s ∷ sources) what low = by (least_line same (shown s) what) (all-low number sources what (All-tail (λ t. t.number < number) s sources low))
    where
      by : (line : Option ℕ) → All (Low number) (filter_map (shown_in what) sources) → All (Low number) (cons_option (seen_in s.number line) (filter_map (shown_in what) sources))
      by None rest = rest
      by (Some line) rest = All-cons (Low number) (record { number = s.number; line = line }) (filter_map (shown_in what) sources) (All-head (λ t. t.number < number) s sources low) rest

  -- where the number is above the others, what was seen before keeps its witness
  pub witness-then : (sources : List PlainSource) (source : PlainSource) (what : A) → All (λ s. s.number < source.number) sources
      → first_witness same shown (sources ++ source ∷ []) what ≡ option_or (first_witness same shown sources what) (shown_in what source)
  witness-then sources source what low =
      witness-push sources source what
      ∙ stays source.number (first_witness same shown sources what) (least_line same (shown source) what)
      (first-low source.number (filter_map (shown_in what) sources) (all-low source.number sources what low))

-- What comes to things that were seen, where these are shown: what was there stands first, and behind it, in whatever
-- order, what is shown and wasn't there; each thing stands once.
pub record AreAdded {A : Type 0} (same : A → A → Bool) (start shown now : List (Seen A)) : Type 0 where
  pub first : take (length start) now ≡ start
  pub once : AreOnce same now
  pub added : AreSame now (fold (with_new (same_seen same)) start shown)

-- what comes in the order in which it is shown
pub added_in_turn : {A : Type 0} (same : A → A → Bool) (start shown now : List (Seen A)) → AreOnce same start → now ≡ fold (with_new (same_seen same)) start shown → AreAdded same start shown now
added_in_turn same start shown now once is = subst (AreAdded same start shown) (sym is) (record {
  first = first_kept (same_seen same) start shown;
  once = apart-fold (same_seen same) start shown once;
  added = λ test. refl;
})

-- Rows with the first witnesses over some sources, to which are added those that a scan of one more
-- adds to what was seen.
module _ {A R F : Type 0} (same : A → A → Bool) (decides : (a b : A) → Decides (same a b) (a ≡ b)) (shown : PlainSource → List (Seen A)) (sources : List PlainSource) (source : PlainSource)
    (name : R → Met A) (seen : F → Seen A) (row : F → R) (old : List R) (facts : List F)
    (rows_of : map (λ f. name (row f)) (drop (length old) facts) ≡ map (λ f. met source.number (seen f)) (drop (length old) facts))
    (start : List (Seen A)) (are : AreMet start (map name old)) (adds : AreAdded same start (shown source) (map seen facts)) where
  abbrev more : List F
  more = drop (length old) facts

  -- what comes, as it is seen
  abbrev come : List (Seen A)
  come = drop (length start) (map seen facts)

  as_many : length old ≡ length start
  as_many = sym (length-map old name) ∙ sym (length-map (map name old) seen_of) ∙ ap length are.same

  all_seen : start ++ come ≡ map seen facts
  all_seen = ap (λ ss. ss ++ come) (sym adds.first) ∙ take-append-drop (length start) (map seen facts)

  met-new : map name (old ++ map row more) ≡ map name old ++ map (met source.number) come
  met-new =
      map-append name old (map row more)
      ∙ ap (λ ms. map name old ++ ms) (map-map name row more ∙ rows_of ∙ sym (map-map (met source.number) seen more))
      ∙ ap (λ ss. map name old ++ map (met source.number) ss) (sym (drop-map seen (length old) facts) ∙ ap (λ n. drop n (map seen facts)) as_many)

  met-seen : map seen_of (map name (old ++ map row more)) ≡ map seen facts
  met-seen = ap (map seen_of) met-new ∙ seen_both source.number (map name old) come ∙ ap (λ ss. ss ++ come) are.same ∙ all_seen

  pub are-met : AreMet (map seen facts) (map name (old ++ map row more))
  are-met = record {
    same = met-seen;
    apart = met_once same decides (map name (old ++ map row more)) (subst (AreOnce same) (sym met-seen) adds.once);
  }

  -- what is in neither order differs in no line
  same-lines : (what : A) → option_or (first_line same start what) (first_line same come what) ≡ option_or (first_line same start what) (first_line same (shown source) what)
  same-lines what =
      sym (line-append same start come what)
      ∙ ap (λ ss. first_line same ss what) all_seen
      ∙ first_same same decides (map seen facts) (fold (with_new (same_seen same)) start (shown source)) adds.once
      (apart-fold (same_seen same) start (shown source) (subst (AreOnce same) are.same (seen_once same decides (map name old) are.apart))) adds.added what
      ∙ joined same decides start (shown source) what

  -- what has no witness yet comes at the line where it is shown first
  same-witness : (what : A) → option_or (witness_of same (map name old) what) (seen_in source.number (first_line same come what))
      ≡ option_or (witness_of same (map name old) what) (seen_in source.number (first_line same (shown source) what))
  same-witness what = by (witness_of same (map name old) what) refl
    where
      by : (was : Option Witness) → witness_of same (map name old) what ≡ was
          → option_or was (seen_in source.number (first_line same come what)) ≡ option_or was (seen_in source.number (first_line same (shown source) what))
      by (Some witness) is = refl
      by None is =
          let none : first_line same start what ≡ None = ap (λ ss. first_line same ss what) (sym are.same) ∙ line-of same (map name old) what ∙ ap (option_map (λ (w : Witness). w.line)) is in
          ap (seen_in source.number) (subst (λ line. option_or line (first_line same come what) ≡ option_or line (first_line same (shown source) what)) none (same-lines what))

  pub witness-new : ((what : A) → witness_of same (map name old) what ≡ first_witness same shown sources what) → Ascend (shown source) → All (λ s. s.number < source.number) sources
      → (what : A) → witness_of same (map name (old ++ map row more)) what ≡ first_witness same shown (sources ++ source ∷ []) what
  witness-new is_old ascend low what =
      ap (λ all. witness_of same all what) met-new
      ∙ witness-append same (map name old) (map (met source.number) come) what
      ∙ ap (option_or (witness_of same (map name old) what)) (witness-met same source.number come what)
      ∙ same-witness what
      ∙ (λ i. option_or (is_old what i) (seen_in source.number (sym (least_is_first same (shown source) ascend what) i)))
      ∙ sym (witness-then same shown sources source what low)

-- what holds of what each two stand for
pub pairs-of : {X Y : Type 0} (R : Y → Y → Type 0) (f : X → Y) (xs : List X) → AllPairs R (map f xs) → AllPairs (λ a b. R (f a) (f b)) xs
pairs-of R f xs pairs i j d before within =
    subst (λ y. R y (f (get_or xs j d))) (get_or-map f xs i d (f d) (omega (arith, before, within)))
    (subst (R (get_or (map f xs) i (f d))) (get_or-map f xs j d (f d) within) (pairs i j (f d) before (omega (arith, within, length-map xs f))))
