-- Rows that are collected name by name, in the order of the names.
use Rattle.std.proofs.Common.{◌≡◌, ◌⊎◌, inl, inr, ◌+◌, ◌<◌, ◌≤◌, ◌++◌, Contains, List, ℕ, length, sym, ap, subst, ◌∙◌, arith}
use Rattle.std.proofs.lemmas.Bool.{cases_order}
use Rattle.std.proofs.lemmas.List.{get_or_default}
use Rattle.ld_class.specs.Names.{IsNameAt, PlainClass}
use Rattle.ld_union.specs.Findings.{InTurn}
use Rattle.ld_union.specs.Inner.ByName.{AreByName, class_name, name_at, place_of_class}
use Rattle.ld_union.specs.Inner.Rows.{AreRowsOf, IsPassed}
use Rattle.ld_union.proofs.RowLemmas.{rows-append}

-- a class that is one of these is passed at the end
pub passed_in : (classes : List PlainClass) (numbers : List ℕ) (c i : ℕ) (name : PlainClass) → length numbers ≤ i → Contains numbers c → class_name classes c ≡ name
    → IsPassed (name_at classes numbers) i name
passed_in classes numbers c i name past there at =
    let b = there.1 in
    (there.0, (omega (arith, past, b), ap (class_name classes) (get_or_default numbers there.0 0 c b ∙ there.2) ∙ at))

-- and so are all names
pub passed_all : (classes : List PlainClass) (numbers places : List ℕ) → AreByName classes numbers places → (c i : ℕ) (name : PlainClass) → length numbers ≤ i → IsNameAt classes c name
    → IsPassed (name_at classes numbers) i name
passed_all classes numbers places order c i name past at =
    let there = order.every c at.0 in
    let b = there.0 in
    (place_of_class places c, (omega (arith, past, b), ap (class_name classes) there.1 ∙ at.1))

module _ (names : ℕ → PlainClass) where
  passed_more : (i : ℕ) (name : PlainClass) → IsPassed names i name → IsPassed names (i + 1) name
  passed_more i name h = (h.0, (omega (arith, h.1.0), h.1.1))

  passed_last : (i : ℕ) (name : PlainClass) → name ≡ names i → IsPassed names (i + 1) name
  passed_last i name is = (i, (omega arith, sym is))

  passed_cases : (i : ℕ) (name : PlainClass) → IsPassed names (i + 1) name → IsPassed names i name ⊎ (name ≡ names i)
  passed_cases i name h = by (cases_order h.0 i)
    where
      by : (h.0 ≡ i) ⊎ ((h.0 < i) ⊎ (i < h.0)) → IsPassed names i name ⊎ (name ≡ names i)
      by (inl same) = inr (sym h.1.1 ∙ ap names same)
      by (inr (inl low)) = inl (h.0, (low, h.1.1))
      by (inr (inr high)) = absurd (omega (arith, high, h.1.0))

  module _ (R : PlainClass → PlainClass → Type 0) (count : ℕ) (rising : (i j : ℕ) → i < j → j < count → R (names i) (names j)) where
    passed_before : (i : ℕ) (name : PlainClass) → i < count → IsPassed names i name → R name (names i)
    passed_before i name within h = subst (λ n. R n (names i)) h.1.1 (rising h.0 i h.1.0 within)

    module _ {Row A : Type 0} (key : Row → A × PlainClass) (IsRow : Row → Type 0) (IsOwed : A × PlainClass → Type 0) (first : A → A → Type 0) (a : A) where
      -- rows of one more name come after those of the names before it, among keys that begin alike
      pub rows-more : (i : ℕ) (xs ys : List Row) → i < count
          → AreRowsOf key IsRow IsOwed (InTurn first R) (λ k. (k.0 ≡ a) × IsPassed names i k.1) xs
          → AreRowsOf key IsRow IsOwed (InTurn first R) (λ k. k ≡ (a, names i)) ys
          → AreRowsOf key IsRow IsOwed (InTurn first R) (λ k. (k.0 ≡ a) × IsPassed names (i + 1) k.1) (xs ++ ys)
      rows-more i xs ys within =
          rows-append key IsRow IsOwed (InTurn first R) (λ k. (k.0 ≡ a) × IsPassed names i k.1) (λ k. k ≡ (a, names i)) (λ k. (k.0 ≡ a) × IsPassed names (i + 1) k.1) xs ys
          (λ k l here there. inr (here.0 ∙ sym (ap (λ p. p.0) there), subst (R k.1) (sym (ap (λ p. p.1) there)) (passed_before i k.1 within here.1)))
          (λ k here. (here.0, passed_more i k.1 here.1))
          (λ k there. (ap (λ p. p.0) there, passed_last i k.1 (ap (λ p. p.1) there)))
          (λ k owed both. cases k both (passed_cases i k.1 both.1))
        where
          cases : (k : A × PlainClass) → (k.0 ≡ a) × IsPassed names (i + 1) k.1 → IsPassed names i k.1 ⊎ (k.1 ≡ names i) →
              ((k.0 ≡ a) × IsPassed names i k.1) ⊎ (k ≡ (a, names i))
          cases k both (inl passed) = inl (both.0, passed)
          cases k both (inr last) = inr (λ i. (both.0 i, last i))

    module _ {Row B : Type 0} (key : Row → PlainClass × B) (IsRow : Row → Type 0) (IsOwed : PlainClass × B → Type 0) (second : B → B → Type 0) where
      -- the same where keys begin with the names
      pub rows-next : (i : ℕ) (xs ys : List Row) → i < count
          → AreRowsOf key IsRow IsOwed (InTurn R second) (λ k. IsPassed names i k.0) xs
          → AreRowsOf key IsRow IsOwed (InTurn R second) (λ k. k.0 ≡ names i) ys
          → AreRowsOf key IsRow IsOwed (InTurn R second) (λ k. IsPassed names (i + 1) k.0) (xs ++ ys)
      rows-next i xs ys within =
          rows-append key IsRow IsOwed (InTurn R second) (λ k. IsPassed names i k.0) (λ k. k.0 ≡ names i) (λ k. IsPassed names (i + 1) k.0) xs ys
          (λ k l here there. inl (subst (R k.0) (sym there) (passed_before i k.0 within here)))
          (λ k here. passed_more i k.0 here)
          (λ k there. passed_last i k.0 there)
          (λ k owed both. passed_cases i k.0 both)
