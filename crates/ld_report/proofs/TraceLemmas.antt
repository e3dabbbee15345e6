-- Traces in the order of their numbers.
use Rattle.std.proofs.Common.{◌≡◌, ◌≢◌, ◌<◌, ◌≤◌, ◌==◌, ◌⊎◌, inl, inr, true, false, Bool, List, ℕ, zero, suc, [], ◌∷◌, length, get_or, Less, Greater}
use Rattle.std.proofs.Common.{nat_cmp, if◌then◌else◌, arith, refl, sym, ap, subst}
use Rattle.std.proofs.lemmas.Bool.{cases_order}
use Rattle.std.proofs.lemmas.Cmp.{ranked}
use Rattle.std.proofs.lemmas.List.{get_or-map, length-map}
use Rattle.std.proofs.lemmas.Bool.Decides.{nat_tests}
use Rattle.std.specs.List.Sorted.{IsNonDecreasingBy, IsPartitionPoint}
use Rattle.std.specs.Ordering.{ordering_index}
use Rattle.ld_trace.specs.Sources.{plain}
use Rattle.ld_rules.specs.declared.outcome.Listed.{Listed}
use Rattle.ld_batch.specs.Batch.{AreRising, sources_of}
use Rattle.ld_report.specs.Report.{label_of_number}

-- the numbers of all but the first rise
rising-tail : (l : Listed) (listed : List Listed) → AreRising (sources_of (l ∷ listed)) → AreRising (sources_of listed)
rising-tail l listed rising i j d lower within = rising (suc i) (suc j) d (omega (arith, lower)) (omega (arith, within))

-- the label of a source that is there
pub label-found : (listed : List Listed) → AreRising (sources_of listed) → (number at : ℕ) (d : Listed) → at < length listed → (get_or listed at d).source.number ≡ number
    → (get_or listed at d).source.name.now ≡ label_of_number (sources_of listed) number
label-found [] rising number at d within same = absurd (omega (arith, within))
label-found (l ∷ listed) rising number zero d within same = by (l.source.number == number) refl
  where
    by : (b : Bool) → (l.source.number == number) ≡ b → l.source.name.now ≡ (if b then l.source.name.now else label_of_number (sources_of listed) number)
    by true is = refl
    by false is = grind (arith, same, is)
label-found (l ∷ listed) rising number (suc at) d within same = by (l.source.number == number) refl (label-found listed (rising-tail l listed rising) number at d there same)
  where
    there : at < length listed
    there = omega (arith, within)

    higher : l.source.number < number
    higher =
        let first = rising 0 (suc at) (plain d.source) (omega arith) (subst (λ n. suc at < suc n) (sym (length-map listed (λ l. plain l.source))) within) in
        let is = ap (λ s. s.number) (get_or-map (λ l. plain l.source) listed at d (plain d.source) there) in
        omega (arith, first, is, same)

    by : (b : Bool) → (l.source.number == number) ≡ b → (get_or listed at d).source.name.now ≡ label_of_number (sources_of listed) number
        → (get_or listed at d).source.name.now ≡ (if b then l.source.name.now else label_of_number (sources_of listed) number)
    by true is others = grind (arith, higher, is)
    by false is others = others

-- where no source has the number there is no label
label-none : (listed : List Listed) (number : ℕ) → ((k : ℕ) (d : Listed) → k < length listed → (get_or listed k d).source.number ≢ number) → [] ≡ label_of_number (sources_of listed) number
label-none [] number none = refl
label-none (l ∷ listed) number none = by (l.source.number == number) refl (label-none listed number (λ k d within. none (suc k) d (omega (arith, within))))
  where
    by : (b : Bool) → (l.source.number == number) ≡ b → [] ≡ label_of_number (sources_of listed) number → [] ≡ (if b then l.source.name.now else label_of_number (sources_of listed) number)
    by true is others = absurd (none 0 l (omega arith) (grind (arith, is)))
    by false is others = others

-- what a search for a number finds nowhere
pub label-absent : (listed : List Listed) → AreRising (sources_of listed) → (number at : ℕ)
    → (IsNonDecreasingBy (λ l. ordering_index (nat_cmp l.source.number number)) listed → IsPartitionPoint (λ l. nat_cmp l.source.number number ≡ Less)
    (λ l. nat_cmp l.source.number number ≡ Greater) listed at)
    → [] ≡ label_of_number (sources_of listed) number
label-absent listed rising number at parted = label-none listed number none
  where
    in_order : (i j : ℕ) (d : Listed) → i ≤ j → j < length listed → (get_or listed i d).source.number ≤ (get_or listed j d).source.number
    in_order i j d le within = by (cases_order i j)
      where
        by : (i ≡ j) ⊎ ((i < j) ⊎ (j < i)) → (get_or listed i d).source.number ≤ (get_or listed j d).source.number
        by (inl same) = subst (λ k. (get_or listed i d).source.number ≤ (get_or listed k d).source.number) same (omega arith)
        by (inr (inl less)) =
            let rise = rising i j (plain d.source) less (subst (λ n. j < n) (sym (length-map listed (λ l. plain l.source))) within) in
            let at_i = ap (λ s. s.number) (get_or-map (λ l. plain l.source) listed i d (plain d.source) (omega (arith, less, within))) in
            let at_j = ap (λ s. s.number) (get_or-map (λ l. plain l.source) listed j d (plain d.source) within) in
            omega (arith, rise, at_i, at_j)
        by (inr (inr more)) = absurd (omega (arith, le, more))

    comparisons : IsNonDecreasingBy (λ l. ordering_index (nat_cmp l.source.number number)) listed
    comparisons i j d le within =
        let low = in_order i j d le within in
        grind (arith, nat_tests, low)

    none : (k : ℕ) (d : Listed) → k < length listed → (get_or listed k d).source.number ≢ number
    none k d within same = by (cases_order k at)
      where
        low : k < at → ⊥
        low less = let other : (get_or listed k d).source.number < number = ranked _ number _ (sym ((parted comparisons).0 k d (omega arith) less)) in omega (arith, same, other)

        high : at ≤ k → ⊥
        high above = let other : number < (get_or listed k d).source.number = ranked _ number _ (sym ((parted comparisons).1 k d above within)) in omega (arith, same, other)

        by : (k ≡ at) ⊎ ((k < at) ⊎ (at < k)) → ⊥
        by (inl here) = high (omega (arith, here))
        by (inr (inl less)) = low less
        by (inr (inr more)) = high (omega (arith, more))
