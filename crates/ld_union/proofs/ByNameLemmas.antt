-- The order of names, and the places of the classes in it.
use Rattle.std.proofs.Common.{◌≡◌, ◌≢◌, ◌<◌, ◌+◌, ◌∙◌, ◌⊎◌, inl, inr, List, ℕ, [], ◌∷◌, ◌++◌, length, map, get_or, All, AllPairs, Contains, IsPermutation, IsSortedByKey}
use Rattle.std.proofs.Common.{arith, sym, ap, subst}
use Rattle.std.proofs.lemmas.Bool.{cases_order}
use Rattle.std.proofs.lemmas.List.{get_or_default, get_or-map, length-map, map-id}
use Rattle.std.proofs.lemmas.List.Elements.{All-map}
use Rattle.std.proofs.lemmas.List.FromFn.{get_or-range_with_len, length-range_with_len, map-range_with_len_more}
use Rattle.std.proofs.lemmas.List.Sorted.{All-permutation, Contains-permutation, IsPermutation-map, length_permutation}
use Rattle.std.specs.List.{range_with_len}
use Rattle.ld_class.specs.declared.names.ClassName.{ClassName}
use Rattle.ld_class.specs.Names.{AreDistinct, IsNameAt, PlainClass, plain_class}
use Rattle.ld_graph.specs.Edges.{ComesBefore}
use Rattle.ld_union.specs.Findings.{IsBefore}
use Rattle.ld_union.specs.Inner.ByName.{AreByName, AreRising, class_at, class_name, name_at, place_of_class}
use Rattle.ld_union.proofs.NameOrderLemmas.{before_from_less, class_cmp, class_cmp-Decides, class_cmp_total, not_before_both, not_before_itself}
use Rattle.ld_union.proofs.SortedLemmas.{rising}

module _ (classes : List PlainClass) (numbers places : List ℕ) (is : AreByName classes numbers places) where
  -- a class's place in the order
  abbrev place_in_order : ℕ → ℕ
  place_in_order c = place_of_class places c

  -- the names come one after the other
  pub names-rise : AreRising (name_at classes numbers) (length numbers)
  names-rise = is.rising

  -- two classes have two places
  pub place-once : (c d : ℕ) → c < length classes → d < length classes → place_in_order c ≡ place_in_order d → c ≡ d
  place-once c d at_c at_d same =
      sym (is.every c at_c).1 ∙ ap (λ k. get_or numbers k 0) same ∙ (is.every d at_d).1

  -- the class whose place is first has the name that comes first
  pub before_from_place : (c d : ℕ) → c < length classes → d < length classes → place_in_order c < place_in_order d → IsBefore (class_name classes c) (class_name classes d)
  before_from_place c d at_c at_d lower =
      let p = is.every c at_c in
      let q = is.every d at_d in
      subst (λ k. IsBefore (class_name classes k) (class_name classes d)) p.1
      (subst (λ k. IsBefore (class_name classes (get_or numbers (place_in_order c) 0)) (class_name classes k)) q.1 (names-rise (place_in_order c) (place_in_order d) lower q.0))

  -- and the other way round
  pub place_from_before : (c d : ℕ) → c < length classes → d < length classes → IsBefore (class_name classes c) (class_name classes d) → place_in_order c < place_in_order d
  place_from_before c d at_c at_d before = by (cases_order (place_in_order c) (place_in_order d))
    where
      by : (place_in_order c ≡ place_in_order d) ⊎ ((place_in_order c < place_in_order d) ⊎ (place_in_order d < place_in_order c)) → place_in_order c < place_in_order d
      by (inl same) = absurd (not_before_itself (class_name classes d) (subst (λ k. IsBefore (class_name classes k) (class_name classes d)) (place-once c d at_c at_d same) before))
      by (inr (inl lower)) = lower
      by (inr (inr higher)) = absurd (not_before_both (class_name classes c) (class_name classes d) before (before_from_place d c at_d at_c higher))

  pub comes_before_from_before : (c d : ℕ) → c < length classes → d < length classes → IsBefore (class_name classes c) (class_name classes d) → ComesBefore places c d
  comes_before_from_before c d at_c at_d before = inl (place_from_before c d at_c at_d before)

-- numbers whose names rise are apart
pub apart_from_rising : (classes : List PlainClass) (numbers : List ℕ)
    → ((i j : ℕ) → i < j → j < length numbers → IsBefore (class_name classes (get_or numbers i 0)) (class_name classes (get_or numbers j 0)))
    → AllPairs (λ c d. c ≢ d) numbers
apart_from_rising classes numbers rising i j d lower within same =
    let at_i : i < length numbers = omega (arith, lower, within) in
    let equal : get_or numbers i 0 ≡ get_or numbers j 0 = get_or_default numbers i 0 d at_i ∙ same ∙ get_or_default numbers j d 0 within in
    not_before_itself (class_name classes (get_or numbers j 0)) (subst (λ k. IsBefore (class_name classes k) (class_name classes (get_or numbers j 0))) equal (rising i j lower within))

-- the order by numbers whose names rise, and places of these
pub by_name : (classes : List PlainClass) (numbers places : List ℕ) → length numbers ≡ length classes → All (λ c. c < length classes) numbers
    → ((c : ℕ) → c < length classes → Contains numbers c) → AreRising (name_at classes numbers) (length numbers)
    → length places ≡ length classes → ((i : ℕ) → i < length numbers → place_of_class places (class_at numbers i) ≡ i) → AreByName classes numbers places
by_name classes numbers places count within every rising placed place = record {
  count = count;
  within = within;
  rising = rising;
  placed = placed;
  place = place;
  every = back;
}
  where
    back : (c : ℕ) → c < length classes → (place_of_class places c < length numbers) × (class_at numbers (place_of_class places c) ≡ c)
    back c inside =
        let there = every c inside in
        let number : class_at numbers there.0 ≡ c = get_or_default numbers there.0 0 c there.1 ∙ there.2 in
        let at : place_of_class places c ≡ there.0 = ap (place_of_class places) (sym number) ∙ place there.0 there.1 in
        (subst (λ k. k < length numbers) (sym at) there.1, ap (class_at numbers) at ∙ number)

-- an element of a list that has one
pub element : {X : Type 0} (xs : List X) (k : ℕ) → k < length xs → X
element [] k within = absurd (omega (arith, within))
element (x ∷ xs) k within = x

-- the numbers from 0 on, and one more
pub range_with_len-more : (n : ℕ) → range_with_len 0 (n + 1) ≡ range_with_len 0 n ++ n ∷ []
range_with_len-more n =
    sym (map-id (range_with_len 0 (n + 1))) ∙ map-range_with_len_more (λ k. k) 0 n n (omega arith) ∙ ap (λ l. l ++ n ∷ []) (map-id (range_with_len 0 n))

-- names with the numbers from 0 on, and the same in another order
module _ (classes : List PlainClass) (old named : List (ClassName × ℕ)) (old_names : All (λ p. IsNameAt classes p.1 (plain_class p.0)) old)
    (old_numbers : map (λ p. p.1) old ≡ range_with_len 0 (length classes)) (moved : IsPermutation old named) where
  abbrev numbers_of : List ℕ
  numbers_of = map (λ p. p.1) named

  names : All (λ p. IsNameAt classes p.1 (plain_class p.0)) named
  names = All-permutation (λ p. IsNameAt classes p.1 (plain_class p.0)) old named moved old_names

  numbers_moved : IsPermutation (range_with_len 0 (length classes)) numbers_of
  numbers_moved = subst (λ l. IsPermutation l numbers_of) old_numbers (IsPermutation-map (λ p. p.1) old named moved)

  pub numbers-count : length numbers_of ≡ length classes
  numbers-count = length_permutation (range_with_len 0 (length classes)) numbers_of numbers_moved ∙ length-range_with_len 0 (length classes)

  -- the number at a place
  number_at : (i : ℕ) (p : ClassName × ℕ) → i < length named → get_or numbers_of i 0 ≡ (get_or named i p).1
  number_at i p within = get_or-map (λ p. p.1) named i p 0 within

  pub numbers-within : All (λ c. c < length classes) numbers_of
  numbers-within = All-map (λ c. c < length classes) (λ p. p.1) named (λ i p within. (names i p within).0)

  pub numbers-every : (c : ℕ) → c < length classes → Contains numbers_of c
  numbers-every c within =
      let zero_before : 0 + c ≡ c = omega arith in
      Contains-permutation (range_with_len 0 (length classes)) numbers_of c numbers_moved
      (c, subst (λ n. c < n) (sym (length-range_with_len 0 (length classes))) within, get_or-range_with_len 0 (length classes) c c within ∙ zero_before)

  -- names differ, since each has the number of its place
  apart : AreDistinct classes → AllPairs (λ p q. plain_class p.0 ≢ plain_class q.0) old
  apart distinct i j d before within same =
      let at_i : i < length old = omega (arith, before, within) in
      let number = distinct (get_or old i d).1 (get_or old j d).1 (plain_class (get_or old j d).0)
      (subst (IsNameAt classes (get_or old i d).1) same (old_names i d at_i)) (old_names j d within) in
      omega (arith, before, place i d at_i, place j d within, number)
    where
      place : (k : ℕ) (p : ClassName × ℕ) → k < length old → (get_or old k p).1 ≡ k
      place k p at_k =
          let count : length old ≡ length classes = sym (length-map old (λ p. p.1)) ∙ ap length old_numbers ∙ length-range_with_len 0 (length classes) in
          let zero_before : 0 + k ≡ k = omega arith in
          sym (get_or-map (λ p. p.1) old k p 0 at_k) ∙ ap (λ numbers. get_or numbers k 0) old_numbers
          ∙ get_or-range_with_len 0 (length classes) k 0 (subst (λ n. k < n) count at_k) ∙ zero_before

  -- after a sort the names rise
  pub numbers-rising : AreDistinct classes → IsSortedByKey (λ p. plain_class p.0) class_cmp named → (i j : ℕ) → i < j → j < length numbers_of
      → IsBefore (class_name classes (get_or numbers_of i 0)) (class_name classes (get_or numbers_of j 0))
  numbers-rising distinct sorted i j lower within =
      subst (λ a. IsBefore a (class_name classes (get_or numbers_of j 0))) (sym (name_at i at_i))
      (subst (IsBefore (plain_class (get_or named i some).0)) (sym (name_at j at_j))
      (before_from_less (plain_class (get_or named i some).0) (plain_class (get_or named j some).0)
      (rising class_cmp class_cmp_total class_cmp-Decides (λ p. plain_class p.0) old named moved (apart distinct) sorted i j some lower at_j)))
    where
      at_j : j < length named
      at_j = subst (λ n. j < n) (length-map named (λ p. p.1)) within

      at_i : i < length named
      at_i = omega (arith, lower, at_j)

      some : ClassName × ℕ
      some = element named j at_j

      name_at : (k : ℕ) → k < length named → class_name classes (get_or numbers_of k 0) ≡ plain_class (get_or named k some).0
      name_at k at_k = ap (class_name classes) (number_at k some at_k) ∙ (names k some at_k).1
