-- The number that decimal digits spell, from a number on that those before them spell.
use Rattle.std.proofs.Common.{ℕ, suc, ◌≡◌, ◌+◌, ◌^◌, ◌<◌, ◌≤◌, Bool, true, false, cond, nat_lt, List, [], ◌∷◌, length, drop, get_or, Option, Some, None, refl, add-one, drop-cons, arith}
use Rattle.std.proofs.lemmas.Bool.{ltb-false, ltb-true, lt-ltb, le-ltb}
use Rattle.std.proofs.lemmas.List.{drop_all}
use Rattle.std.specs.List.{fold}
use Rattle.ld_layout.specs.Lines.{fitting, with_digit}

-- the number with more digits, if 32 bits hold it
abbrev pub value_from : ℕ → List ℕ → Option ℕ
value_from n digits = fitting (fold with_digit n digits)

-- no digit makes a number smaller
fold-grows : (n : ℕ) (digits : List ℕ) → n ≤ fold with_digit n digits
fold-grows n [] = omega arith
fold-grows n (d ∷ digits) = omega (arith, fold-grows (with_digit n d) digits)

-- a number that 32 bits don't hold
too_large : (n : ℕ) → 2 ^ 32 ≤ n → fitting n ≡ None
too_large n h = rw (le-ltb n (2 ^ 32) h) refl

fits : (n : ℕ) → n < 2 ^ 32 → fitting n ≡ Some n
fits n h = rw (lt-ltb n (2 ^ 32) h) refl

not_fitting : (n : ℕ) → fitting n ≡ None → 2 ^ 32 ≤ n
not_fitting n h = by (nat_lt n (2 ^ 32)) refl h
  where
    by : (test : Bool) → nat_lt n (2 ^ 32) ≡ test → cond test (Some n) None ≡ None → 2 ^ 32 ≤ n
    by true is h = let no : ⊥ = cc in absurd no
    by false is h = ltb-false n (2 ^ 32) is

pub holds : (n m : ℕ) → fitting n ≡ Some m → m < 2 ^ 32
holds n m h = by (nat_lt n (2 ^ 32)) refl h
  where
    by : (test : Bool) → nat_lt n (2 ^ 32) ≡ test → cond test (Some n) None ≡ Some m → m < 2 ^ 32
    by true is h =
        let one : n ≡ m = cc in
        omega (arith, ltb-true n (2 ^ 32) is)
    by false is h = let no : ⊥ = cc in absurd no

same : (n m : ℕ) → fitting n ≡ Some m → n ≡ m
same n m h = by (nat_lt n (2 ^ 32)) h
  where
    by : (test : Bool) → cond test (Some n) None ≡ Some m → n ≡ m
    by true h = cc
    by false h = let no : ⊥ = cc in absurd no

-- where a digit makes a number too large, all of them do
stop : (n d : ℕ) (digits : List ℕ) → fitting (with_digit n d) ≡ None → value_from n (d ∷ digits) ≡ None
stop n d digits h = too_large (fold with_digit (with_digit n d) digits) (omega (arith, fold-grows (with_digit n d) digits, not_fitting (with_digit n d) h))

pub stuck : (n i : ℕ) (digits : List ℕ) → i < length digits → fitting (with_digit n (get_or digits i 0)) ≡ None → value_from n (drop i digits) ≡ None
stuck n i digits lt h = rw (drop-cons digits i 0) (stop n (get_or digits i 0) (drop (suc i) digits) h)

-- one more digit
pub goes_on : (n i m : ℕ) (digits : List ℕ) → i < length digits → fitting (with_digit n (get_or digits i 0)) ≡ Some m → value_from n (drop i digits) ≡ value_from m (drop (i + 1) digits)
goes_on n i m digits lt h = rw (add-one, ← same (with_digit n (get_or digits i 0)) m h, drop-cons digits i 0) refl

-- no more digits
pub is_done : (n i : ℕ) (digits : List ℕ) → length digits ≤ i → n < 2 ^ 32 → value_from n (drop i digits) ≡ Some n
is_done n i digits le small = rw (drop_all i digits le) (fits n small)
