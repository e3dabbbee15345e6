-- Sources can be put in the order of their numbers.
use Rattle.std.proofs.Common.{◌≡◌, ◌<◌, ◌⊎◌, inl, inr, [], ◌∷◌, List, ℕ, Bool, IsPermutation, arith, get_or, ltb}
use Rattle.std.proofs.lemmas.Bool.{cases_order, ltb-true, ltb-false}
use Rattle.std.proofs.lemmas.List.Sorted.{IsNonDecreasingBy-insert, IsNonDecreasingBy-short, IsPermutation-cons, IsPermutation-insert, IsPermutation-refl, IsPermutation-trans}
use Rattle.std.proofs.lemmas.List.Sums.{prefix_len-le-length, prefix_len_passes, prefix_len_stops}
use Rattle.std.specs.List.{insert, prefix_len}
use Rattle.std.specs.List.Sorted.{IsNonDecreasingBy}
use Rattle.ld_trace.specs.Sources.{PlainSource}
use Rattle.ld_batch.specs.Batch.{AreRising}
use Rattle.ld_book.proofs.RisingLemmas.{AreApart, apart-moved}

abbrev number : PlainSource → ℕ
number s = s.number

-- how many of these come before a number
abbrev before : ℕ → List PlainSource → ℕ
before n sources = prefix_len (λ s. ltb s.number n) sources

-- the same sources, each put before the first that isn't below it
abbrev placed : List PlainSource → List PlainSource
placed [] = []
placed (s ∷ sources) = insert (placed sources) (before s.number (placed sources)) s

placed-same : (sources : List PlainSource) → IsPermutation sources (placed sources)
placed-same [] = IsPermutation-refl []
placed-same (s ∷ sources) =
    IsPermutation-trans (s ∷ sources) (s ∷ placed sources) (placed (s ∷ sources)) (IsPermutation-cons s sources (placed sources) (placed-same sources))
    (IsPermutation-insert (placed sources) (before s.number (placed sources)) s)

placed-sorted : (sources : List PlainSource) → IsNonDecreasingBy number (placed sources)
placed-sorted [] = IsNonDecreasingBy-short number [] (omega arith)
placed-sorted (s ∷ sources) =
    IsNonDecreasingBy-insert number all at s (placed-sorted sources) (prefix_len-le-length test all)
    (λ k d low. let less = ltb-true (get_or all k d).number s.number (prefix_len_passes test all k d low) in omega (arith, less))
    (λ k d high within. let stop = ltb-false (get_or all at d).number s.number (prefix_len_stops test all d (omega (arith, high, within))) in
    let rise = placed-sorted sources at k d high within in
    omega (arith, stop, rise))
  where
    all : List PlainSource
    all = placed sources

    test : PlainSource → Bool
    test x = ltb x.number s.number

    at : ℕ
    at = before s.number all

-- sources of which no two have one number are those of a list whose numbers rise
pub in_order : (sources : List PlainSource) → AreApart sources → (all : List PlainSource) × (IsPermutation sources all × AreRising all)
in_order sources apart = (placed sources, (placed-same sources, rises))
  where
    rises : AreRising (placed sources)
    rises i j d lower within = by (cases_order (get_or (placed sources) i d).number (get_or (placed sources) j d).number)
      where
        by : ((get_or (placed sources) i d).number ≡ (get_or (placed sources) j d).number) ⊎ (((get_or (placed sources) i d).number < (get_or (placed sources) j d).number) ⊎ ((get_or (placed sources) j d).number < (get_or (placed sources) i d).number))
            → (get_or (placed sources) i d).number < (get_or (placed sources) j d).number
        by (inl same) = absurd (apart-moved sources (placed sources) (placed-same sources) apart i j d lower within same)
        by (inr (inl less)) = less
        by (inr (inr more)) = let low = placed-sorted sources i j d (omega (arith, lower)) within in absurd (omega (arith, low, more))
