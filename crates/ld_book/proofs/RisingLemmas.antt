-- Sources in the order of their numbers.
use Rattle.std.proofs.Common.{◌≡◌, ◌≢◌, ◌<◌, ◌∙◌, ◌⊎◌, inl, inr, List, ℕ, [], ◌∷◌, length, map, get_or, AllPairs, IsPermutation, nat_eq, arith, refl, sym, ap, subst}
use Rattle.std.proofs.lemmas.Bool.{cases_order}
use Rattle.std.proofs.lemmas.Bool.Decides.{Decides-eqb}
use Rattle.std.proofs.lemmas.Cmp.{nat_eq_equiv}
use Rattle.std.proofs.lemmas.List.{get_or-map, length-map}
use Rattle.std.proofs.lemmas.List.Sorted.{IsPermutation-map}
use Rattle.std.proofs.lemmas.Map.Keys.{IsDistinct-IsPermutation}
use Rattle.std.proofs.lemmas.Map.Made.{AllPairs-from_IsDistinct, IsDistinct-from_AllPairs}
use Rattle.std.specs.List.Sorted.{IsNonDecreasingBy}
use Rattle.ld_trace.specs.Sources.{PlainSource, plain}
use Rattle.ld_rules.specs.declared.outcome.Listed.{Listed}
use Rattle.ld_batch.specs.Batch.{AreRising, sources_of}
use Rattle.ld_book.proofs.ListedLemmas.{apart_by}

-- no two have one number
abbrev pub AreApart : List PlainSource → Type 0
AreApart sources = AllPairs (λ a b. a.number ≢ b.number) sources

-- what is apart by a number of its own, has numbers that are apart
apart-numbers : {A : Type 0} (number : A → ℕ) (xs : List A) → A → AllPairs (λ a b. number a ≢ number b) xs → AllPairs (λ m n. m ≢ n) (map number xs)
apart-numbers number xs some apart i j d lower within same =
    let below : j < length xs = subst (λ n. j < n) (length-map xs number) within in
    apart i j some lower below
    (sym (get_or-map number xs i some d (omega (arith, lower, below))) ∙ same ∙ get_or-map number xs j some d below)

-- sources that are apart stay so in another order
pub apart-moved : (old new : List PlainSource) → IsPermutation old new → AreApart old → AreApart new
apart-moved old new moved apart =
    apart_by (λ s. s.number) new
    (AllPairs-from_IsDistinct Decides-eqb (map (λ s. s.number) new)
    (IsDistinct-IsPermutation nat_eq nat_eq_equiv.symm (map (λ s. s.number) old) (map (λ s. s.number) new) (IsPermutation-map (λ s. s.number) old new moved)
    (IsDistinct-from_AllPairs Decides-eqb (map (λ s. s.number) old)
    (apart-numbers (λ s. s.number) old (record { number = 0; label = []; first_line = 0; bytes = [] }) apart))))

-- of these, numbers that don't fall rise
pub rising_from_sorted : (old : List PlainSource) (listed : List Listed) → IsPermutation old (sources_of listed) → AreApart old → IsNonDecreasingBy
    (λ l. l.source.number) listed → AreRising (sources_of listed)
rising_from_sorted old listed moved apart sorted i j d lower within = by (cases_order (number i) (number j))
  where
    number : ℕ → ℕ
    number k = (get_or (sources_of listed) k d).number

    below : j < length listed
    below = subst (λ n. j < n) (length-map listed (λ l. plain l.source)) within

    number_at : (k : ℕ) (l : Listed) → k < length listed → number k ≡ (get_or listed k l).source.number
    number_at k l there = ap (λ s. s.number) (get_or-map (λ l. plain l.source) listed k l d there)

    by : (number i ≡ number j) ⊎ ((number i < number j) ⊎ (number j < number i)) → number i < number j
    by (inl same) = absurd (apart-moved old (sources_of listed) moved apart i j d lower within same)
    by (inr (inl less)) = less
    by (inr (inr more)) = absurd (some listed refl)
      where
        some : (all : List Listed) → all ≡ listed → ⊥
        some [] none = omega (arith, below, ap length none)
        some (l ∷ others) is =
            let low = sorted i j l (omega (arith, lower)) below in
            let at_i = number_at i l (omega (arith, lower, below)) in
            let at_j = number_at j l below in
            omega (arith, low, more, at_i, at_j)
