-- Rows in order, the shortest trace first.
use Rattle.std.proofs.Common.{◌≡◌, ◌⊎◌, inl, inr, ◌<◌, ◌≤◌, ◌==◌, ℕ, List, Bool, true, false, cond, nat_lt, IsPermutation, IsSortedByKey, Less, Equal, Greater, Ordering, is_lt, filter_map, get_or, map, refl, sym, subst, arith}
use Rattle.std.specs.Cmp.{IsTotalOrder}
use Rattle.std.specs.Ordering.{nat_cmp, ordering_then}
use Rattle.std.proofs.lemmas.Bool.{eqb-false, eqb-true, ltb-false, true≢false}
use Rattle.std.proofs.lemmas.Cmp.{nat_cmp_total, on_total, then_total}
use Rattle.std.proofs.lemmas.List.Sorted.{IsPermutation-map, ranks_by, sorted_far}
use Rattle.ld_trace.specs.Sources.{PlainSource}
use Rattle.ld_rules.specs.Dependency.{Dependency}
use Rattle.ld_occurrences.specs.Occurrences.{AreOccurrences, occurrence_in, plain_occurrence}
use Rattle.ld_occurrences.specs.declared.rows.Occurrence.{Occurrence}

-- what a sort by two numbers compares
abbrev numbers_cmp : ℕ × ℕ → ℕ × ℕ → Ordering
numbers_cmp p q = ordering_then (nat_cmp p.0 q.0) (nat_cmp p.1 q.1)

numbers_cmp_total : IsTotalOrder numbers_cmp
numbers_cmp_total = then_total (on_total (λ p. p.0) nat_cmp_total) (on_total (λ p. p.1) nat_cmp_total)

-- one pair of numbers isn't after another that isn't before it
not_after : (a b c d : ℕ) → is_lt (numbers_cmp (c, d) (a, b)) ≡ false → (a < c) ⊎ ((a ≡ c) × (b ≤ d))
not_after a b c d = by (nat_lt c a) (c == a) (nat_lt d b) refl refl refl
  where
    by : (x y z : Bool) → nat_lt c a ≡ x → (c == a) ≡ y → nat_lt d b ≡ z
        → is_lt (ordering_then (cond x Less (cond y Equal Greater)) (cond z Less (cond (d == b) Equal Greater))) ≡ false
        → (a < c) ⊎ ((a ≡ c) × (b ≤ d))
    by true y z first same second is = absurd (true≢false is)
    by false true true first same second is = absurd (true≢false is)
    by false true false first same second is = inr (sym (eqb-true c a same), ltb-false d b second)
    by false false z first same second is =
        let low : a ≤ c = ltb-false c a first in
        let apart : c ≡ a → ⊥ = eqb-false c a same in
        inl (omega (arith, low, apart))

-- rows that were sorted
pub occurrences-sorted : (sources : List PlainSource) (what : Dependency) (old rows : List Occurrence)
    → map plain_occurrence old ≡ filter_map (occurrence_in what) sources → IsPermutation old rows
    → IsSortedByKey (λ row. (row.lines, row.source.number)) numbers_cmp rows → AreOccurrences sources what rows
occurrences-sorted sources what old rows are moved sorted = record {
  each = subst (λ all. IsPermutation all (map plain_occurrence rows)) are (IsPermutation-map plain_occurrence old rows moved);
  ordered = λ i j d before within.
      not_after (get_or rows i d).lines (get_or rows i d).source.number (get_or rows j d).lines (get_or rows j d).source.number
      (sorted_far (λ x y. is_lt (numbers_cmp (x.lines, x.source.number) (y.lines, y.source.number)))
      (ranks_by numbers_cmp_total (λ (row : Occurrence). (row.lines, row.source.number))) rows sorted i j d (omega (arith, before)) within);
}
