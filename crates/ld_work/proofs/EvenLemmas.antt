-- Which number tells that sources aren't listed, each once.
use Rattle.std.proofs.Common.{◌≡◌, ◌≢◌, ◌<◌, ◌≤◌, ◌⊎◌, ◌∙◌, inl, inr, List, ℕ, zero, suc, [], ◌∷◌, length, map, take, get_or, remove, All, AllPairs, IsPermutation, Option, None, Some, IfNone, arith, ap, refl, sym, subst}
use Rattle.std.proofs.lemmas.Bool.{cases_order}
use Rattle.std.proofs.lemmas.List.{get_or-map, get_or-take, get_or_default, nil_from_length, take_all}
use Rattle.std.proofs.lemmas.List.Sorted.{Contains-permutation, IsPermutation-cons, IsPermutation-map, IsPermutation-refl, IsPermutation-remove, IsPermutation-sym}
use Rattle.std.proofs.lemmas.List.Sorted.{IsPermutation-trans, length_permutation}
use Rattle.std.specs.List.{Contains}
use Rattle.ld_trace.specs.Sources.{AreNumbered, PlainSource, plain}
use Rattle.ld_rules.specs.declared.outcome.Listed.{Listed}
use Rattle.ld_batch.specs.Batch.{sources_of}
use Rattle.ld_batch.specs.Batch.{AreRising}
use Rattle.ld_work.specs.Inner.Uneven.{IsMissing, IsUneven}

-- the source that is listed at a place
pub listed_at : (listed : List Listed) (k : ℕ) (trace : Listed) (d : PlainSource) → k < length listed → trace ≡ get_or listed k trace → get_or (sources_of listed) k d ≡ plain trace.source
listed_at listed k trace d within is = get_or-map (λ l. plain l.source) listed k trace d within ∙ sym (ap (λ l. plain l.source) is)

-- numbers that rise are at least their places
rising_above : (listed : List PlainSource) → AreRising listed → (k : ℕ) (d : PlainSource) → k < length listed → k ≤ (get_or listed k d).number
rising_above listed rising zero d within = omega arith
rising_above listed rising (suc k) d within =
    let before = rising_above listed rising k d (omega (arith, within)) in
    let step = rising k (suc k) d (omega arith) within in
    omega (arith, before, step)

-- some source, for reads that may be past an end
pub any : PlainSource
any = record { number = 0; label = []; first_line = 0; bytes = [] }

-- the first n sources are listed, each at its place
module _ (sources listed : List PlainSource) (n : ℕ) (numbered : AreNumbered sources) (rising : AreRising listed) (few : n ≤ length sources)
    (there : n ≤ length listed) (same : take n listed ≡ take n sources) where
  same_at : (k : ℕ) (d : PlainSource) → k < n → get_or listed k d ≡ get_or sources k d
  same_at k d below = sym (get_or-take n listed k d below) ∙ ap (λ xs. get_or xs k d) same ∙ get_or-take n sources k d below

  number_at : (k : ℕ) (d : PlainSource) → k < n → (get_or listed k d).number ≡ k
  number_at k d below = ap (λ s. s.number) (same_at k d below) ∙ numbered k d (omega (arith, below, few))

  -- none of them is missing
  missing_above : (m : ℕ) → IsMissing sources listed m → n ≤ m
  missing_above m missing = by (cases_order m n)
    where
      early : m < n → ⊥
      early below =
          let source = get_or sources m any in
          missing.1 any (m, omega (arith, below, there), same_at m source below ∙ get_or_default sources m source any missing.0)

      by : (m ≡ n) ⊎ ((m < n) ⊎ (n < m)) → n ≤ m
      by (inl is) = omega (arith, is)
      by (inr (inl below)) = absurd (early below)
      by (inr (inr above)) = omega (arith, above)

  -- what is listed with a number from n on, stands from place n on
  place_above : (p : ℕ) (d : PlainSource) → n ≤ (get_or listed p d).number → n ≤ p
  place_above p d high = by (cases_order p n)
    where
      by : (p ≡ n) ⊎ ((p < n) ⊎ (n < p)) → n ≤ p
      by (inl is) = omega (arith, is)
      by (inr (inl below)) = absurd (let number = number_at p d below in omega (arith, number, below, high))
      by (inr (inr above)) = omega (arith, above)

  -- where the next source isn't listed at its place, it is missing
  pub uneven_from_other : n < length sources → ((d : PlainSource) → n < length listed → get_or listed n d ≡ get_or sources n d → ⊥) → IsUneven sources listed n
  uneven_from_other within other = record { missing = (within, absent); least = missing_above }
    where
      absent : (d : PlainSource) → Contains listed (get_or sources n d) → ⊥
      absent d (p, inside, is) =
          let source = get_or sources n d in
          let number : (get_or listed p source).number ≡ n = ap (λ s. s.number) is ∙ numbered n d within in
          let low = rising_above listed rising p source inside in
          let high = place_above p source (omega (arith, number)) in
          let here : p ≡ n = omega (arith, low, high, number) in
          other source (subst (λ k. k < length listed) here inside)
          (subst (λ k. get_or listed k source ≡ source) here is ∙ get_or_default sources n d source within)

-- of a list in another order the same number tells
pub uneven_moved : (sources old new : List PlainSource) (n : ℕ) → IsPermutation old new → IsUneven sources old n → IsUneven sources new n
uneven_moved sources old new n moved uneven =
    record { missing = missing old new (IsPermutation-sym old new moved) n uneven.missing; least = λ m is. uneven.least m (missing new old moved m is) }
  where
    missing : (from to : List PlainSource) → IsPermutation to from → (m : ℕ) → IsMissing sources from m → IsMissing sources to m
    missing from to back m (within, absent) = (within, λ d has. absent d (Contains-permutation to from (get_or sources m d) back has))

-- what follows from what a clause says of no value
pub IfNone_then : {X P Q : Type 0} (r : Option X) → IfNone r P → (P → Q) → IfNone r Q
IfNone_then None h f = f h
IfNone_then (Some x) h f = h

-- distinct things that all stand in a list, as many as it has, are that list in another order
pub permuted_from_within : {X : Type 0} (ys xs : List X) → AllPairs (λ a b. a ≢ b) ys → ((z : X) → Contains ys z → Contains xs z) → length xs ≡ length ys → IsPermutation xs ys
permuted_from_within [] xs apart within same = subst (λ l. IsPermutation l []) (sym (nil_from_length xs same)) (IsPermutation-refl [])
permuted_from_within {X} (y ∷ ys) xs apart within same =
    IsPermutation-trans xs (y ∷ left) (y ∷ ys) moved
    (IsPermutation-cons y left ys
    (permuted_from_within ys left (λ i j d lower inside. apart (suc i) (suc j) d (omega (arith, lower)) (omega (arith, inside))) rest few))
  where
    at : Contains xs y
    at = within y (0, omega arith, refl)

    left : List X
    left = remove xs at.0

    moved : IsPermutation xs (y ∷ left)
    moved = IsPermutation-remove xs at.0 y at.1 (sym at.2)

    few : length left ≡ length ys
    few = let more = length_permutation xs (y ∷ left) moved in omega (arith, more, same)

    rest : (z : X) → Contains ys z → Contains left z
    rest z (p, inside, is) = by (Contains-permutation xs (y ∷ left) z moved (within z (suc p, omega (arith, inside), is)))
      where
        by : Contains (y ∷ left) z → Contains left z
        by (zero, there, first) = absurd (apart 0 (suc p) z (omega arith) (omega (arith, inside)) (first ∙ sym is))
        by (suc q, there, here) = (q, omega (arith, there), here)

-- a source among numbered ones stands at the place of its number
pub own_place : (sources : List PlainSource) (source : PlainSource) → AreNumbered sources → Contains sources source
    → (source.number < length sources) × ((d : PlainSource) → get_or sources source.number d ≡ source)
own_place sources source numbered (p, inside, is) =
    (subst (λ k. k < length sources) here inside, λ d. ap (λ k. get_or sources k d) (sym here) ∙ get_or_default sources p d source inside ∙ is)
  where
    here : p ≡ source.number
    here = sym (numbered p source inside) ∙ ap (λ s. s.number) is

-- a listed source whose number is its place is the source of that number
pub same_by_number : (sources listed : List PlainSource) (k : ℕ) (d : PlainSource) → AreNumbered sources → All (Contains sources) listed
    → k < length listed → (get_or listed k d).number ≡ k → get_or listed k d ≡ get_or sources k d
same_by_number sources listed k d numbered among within is =
    sym ((own_place sources (get_or listed k d) numbered (among k d within)).1 d) ∙ ap (λ n. get_or sources n d) is

-- where the first n are the sources at their places, and there are no more sources, nothing else is listed
pub all_in_place : (sources listed : List PlainSource) (n : ℕ) → AreNumbered sources → AreRising listed → All (Contains sources) listed
    → n ≡ length sources → n ≤ length listed → take n listed ≡ take n sources → listed ≡ sources
all_in_place sources listed n numbered rising among all there same = sym (take_all n listed few) ∙ (same ∙ take_all n sources (omega (arith, all)))
  where
    few : length listed ≤ n
    few = by (cases_order n (length listed))
      where
        by : (n ≡ length listed) ⊎ ((n < length listed) ⊎ (length listed < n)) → length listed ≤ n
        by (inl is) = omega (arith, is)
        by (inr (inl more)) = absurd (let low = rising_above listed rising n any more in
            let high = (own_place sources (get_or listed n any) numbered (among n any more)).0 in
            omega (arith, low, high, all))
        by (inr (inr less)) = omega (arith, less)
