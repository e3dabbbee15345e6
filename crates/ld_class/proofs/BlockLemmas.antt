-- The places of the bits of a word, and the classes of a block.
use Rattle.std.proofs.Common.{◌≡◌, ◌≢◌, ◌+◌, ◌-◌, ◌*◌, ◌^◌, ◌%◌, ◌/◌, ◌<◌, ◌≤◌, ◌++◌, ◌∷◌, [], ◌||◌, ◌&&◌, ◌==◌, ◌⊎◌, inl, inr, All, Bool, true, false, List, ℕ, suc, zero}
use Rattle.std.proofs.Common.{cond, map, length, not, nat_eq, ltb, refl, ap, sym, subst, ◌∙◌, arith, w64, max, min, get_or}
use Rattle.std.proofs.lemmas.Bool.{and_right, true≢false, cases_lt, eq-eqb, eqb-true, ne_eqb}
use Rattle.std.proofs.lemmas.List.Elements.{All-cons, All-filter, All-nil, All-weaker}
use Rattle.std.proofs.lemmas.List.FromFn.{get_or-range_with_len, length-range_with_len}
use Rattle.std.proofs.lemmas.List.Sums.{count_by-le-length, length-filter}
use Rattle.std.proofs.lemmas.List.Kept.{AllPairs-filter}
use Rattle.std.proofs.lemmas.Nat.Bits.{bit_at-lt, bit_at-suc, bit_at_lowest, bit_at-trailing_zeros, bit_at-zero, bit_at_and, bit_at_or, bit_at_clear_other, bit_at_clear_same, bit_at_not, bit_at_set_other, bit_at_set_same, same_from_bits}
use Rattle.std.proofs.lemmas.Nat.{ones_cat}
use Rattle.std.specs.Int.Count.{ones, ones-ones}
use Rattle.std.specs.Prelude.{bit_and, bit_or}
use Rattle.std.specs.Int.{bit_at, bit_not, trailing_zeros}
use Rattle.std.specs.List.{AllPairs, filter, list_any, range_with_len}
use Rattle.ld_class.specs.Blocks.{bits_on, is_on}
use Rattle.ld_class.proofs.UsageLemmas.{larger_test}

-- What a filter keeps of a run of numbers goes by the test at these numbers alone.
filter-run : (p q : ℕ → Bool) (from count : ℕ) → ((k : ℕ) → from ≤ k → k < from + count → p k ≡ q k) → filter p (range_with_len from count) ≡ filter q (range_with_len from count)
filter-run p q from zero same = refl
filter-run p q from (suc count) same =
    let rest = filter-run p q (from + 1) count (λ k low high. same k (omega (arith, low)) (omega (arith, high))) in
    (λ i. cond (same from (omega arith) (omega arith) i) (from ∷ rest i) (rest i))

-- a run up to the first number that passes, that one, and what follows
filter-first : (p q : ℕ → Bool) (from count place : ℕ) → from ≤ place → place < from + count → ((k : ℕ) → from ≤ k → k < place → p k ≡ false) → p place ≡ true
    → ((k : ℕ) → from ≤ k → k < from + count → k ≢ place → q k ≡ p k) → q place ≡ false
    → filter p (range_with_len from count) ≡ place ∷ filter q (range_with_len from count)
filter-first p q from zero place low high none here others gone = absurd (omega (arith, low, high))
filter-first p q from (suc count) place low high none here others gone =
    by (cases_lt from place)
    (λ before. filter-first p q (from + 1) count place (omega (arith, before)) (omega (arith, high)) (λ k l h. none k (omega (arith, l)) h) here
    (λ k l h apart. others k (omega (arith, l)) (omega (arith, h)) apart) gone)
  where
    left : (ℕ → Bool) → List ℕ
    left r = filter r (range_with_len (from + 1) count)

    by : (from < place) ⊎ (place ≤ from) → (from < place → left p ≡ place ∷ left q) → filter p (range_with_len from (suc count)) ≡ place ∷ filter q (range_with_len from (suc count))
    by (inl before) later =
        let fails : p from ≡ false = none from (omega arith) before in
        let also : q from ≡ false = others from (omega arith) (omega arith) (λ same. omega (arith, same, before)) ∙ fails in
        (λ i. cond (fails i) (from ∷ left p) (left p)) ∙ later before ∙ ap (λ ks. place ∷ ks) (λ i. cond (sym also i) (from ∷ left q) (left q))
    by (inr reached) later =
        let same : from ≡ place = omega (arith, low, reached) in
        let passes : p from ≡ true = ap p same ∙ here in
        let fails : q from ≡ false = ap q same ∙ gone in
        let rest : left p ≡ left q = filter-run p q (from + 1) count (λ k l h. sym (others k (omega (arith, l)) (omega (arith, h)) (λ is. omega (arith, is, l, reached, low)))) in
        (λ i. cond (passes i) (from ∷ left p) (left p)) ∙ (λ i. same i ∷ rest i) ∙ ap (λ ks. place ∷ ks) (λ i. cond (sym fails i) (from ∷ left q) (left q))

-- no bit is on
pub bits_on-zero : bits_on 0 ≡ []
unfolding bits_on
bits_on-zero = none 64 0
  where
    none : (count from : ℕ) → filter (is_on 0) (range_with_len from count) ≡ []
    none zero from = refl
    none (suc count) from =
        (λ i. cond (ne_eqb (bit_at 0 from) 1 (λ is. omega (arith, is, bit_at-zero from)) i) (from ∷ filter (is_on 0) (range_with_len (from + 1) count)) (filter (is_on 0) (range_with_len (from + 1) count)))
        ∙ none count (from + 1)

-- the lowest bit that is on, and the others
pub bits_on-first : (bits : ℕ) → 0 < bits → bits < 2 ^ 64 →
    bits_on bits ≡ trailing_zeros w64 bits ∷ bits_on (bit_and bits (bit_not w64 (1 * 2 ^ trailing_zeros w64 bits % 2 ^ 64)))
unfolding bits_on
bits_on-first bits some low =
    let at = bit_at-trailing_zeros w64 bits some low in
    let lowest = trailing_zeros w64 bits in
    filter-first (is_on bits) (is_on (bit_and bits (bit_not w64 (1 * 2 ^ lowest % 2 ^ 64)))) 0 64 lowest (omega arith) at.0
    (λ k l h. ne_eqb (bit_at bits k) 1 (λ is. omega (arith, is, at.2 k h)))
    (eq-eqb (bit_at bits lowest) 1 at.1)
    (λ k l h apart. ap (λ n. n == 1) (bit_at_clear_other w64 bits lowest at.0 k h apart))
    (ne_eqb (bit_at (bit_and bits (bit_not w64 (1 * 2 ^ lowest % 2 ^ 64))) lowest) 1 (λ is. omega (arith, is, bit_at_clear_same w64 bits lowest at.0)))

-- which bits are on of those that others leave
filter-filter : (p q : ℕ → Bool) (xs : List ℕ) → filter (λ x. p x && q x) xs ≡ filter q (filter p xs)
filter-filter p q [] = refl
filter-filter p q (x ∷ xs) = by (p x) (filter-filter p q xs)
  where
    by : (b : Bool) → filter (λ y. p y && q y) xs ≡ filter q (filter p xs)
        → cond (b && q x) (x ∷ filter (λ y. p y && q y) xs) (filter (λ y. p y && q y) xs) ≡ filter q (cond b (x ∷ filter p xs) (filter p xs))
    by true rest = ap (λ ys. cond (q x) (x ∷ ys) ys) rest
    by false rest = rest

-- a bit of two, one of them turned
on-left : (a b : ℕ) → a < 2 → b < 2 → (min a (1 - b) == 1) ≡ ((a == 1) && not (b == 1))
on-left zero zero _ _ = refl
on-left zero (suc zero) _ _ = refl
on-left (suc zero) zero _ _ = refl
on-left (suc zero) (suc zero) _ _ = refl
on-left (suc (suc a)) b low _ = absurd (omega (arith, low))
on-left zero (suc (suc b)) _ low = absurd (omega (arith, low))
on-left (suc zero) (suc (suc b)) _ low = absurd (omega (arith, low))

pub is_on-left : (bits told place : ℕ) → told < 2 ^ 64 → place < 64 → is_on (bit_and bits (bit_not w64 told)) place ≡ (is_on bits place && not (is_on told place))
is_on-left bits told place low within =
    ap (λ n. n == 1) (bit_at_and bits (bit_not w64 told) place ∙ ap (min (bit_at bits place)) (bit_at_not w64 told place low within))
    ∙ on-left (bit_at bits place) (bit_at told place) (bit_at-lt bits place) (bit_at-lt told place)

pub bits_on-left : (bits told : ℕ) → told < 2 ^ 64 → bits_on (bit_and bits (bit_not w64 told)) ≡ filter (λ place. not (is_on told place)) (bits_on bits)
unfolding bits_on
bits_on-left bits told low =
    filter-run (is_on (bit_and bits (bit_not w64 told))) (λ place. is_on bits place && not (is_on told place)) 0 64 (λ place l h. is_on-left bits told place low h)
    ∙ filter-filter (is_on bits) (λ place. not (is_on told place)) (range_with_len 0 64)

-- what a test finds among the places
any-filter : (p q : ℕ → Bool) (xs : List ℕ) → list_any q (filter p xs) ≡ list_any (λ x. p x && q x) xs
any-filter p q [] = refl
any-filter p q (x ∷ xs) = by (p x) (any-filter p q xs)
  where
    by : (b : Bool) → list_any q (filter p xs) ≡ list_any (λ y. p y && q y) xs → list_any q (cond b (x ∷ filter p xs) (filter p xs)) ≡ ((b && q x) || list_any (λ y. p y && q y) xs)
    by true rest = ap (λ b. q x || b) rest
    by false rest = rest

-- a number is found in a run that has it, where it passes
none-run : (p : ℕ → Bool) (from count place : ℕ) → place < from → list_any (λ k. p k && nat_eq place k) (range_with_len from count) ≡ false
none-run p from zero place below = refl
none-run p from (suc count) place below =
    (λ i. (p from && ne_eqb place from (λ is. omega (arith, is, below)) i) || none-run p (from + 1) count place (omega (arith, below)) i)
    ∙ ap (λ b. b || false) (and_right (p from) false refl)

any-run : (p : ℕ → Bool) (from count place : ℕ) → from ≤ place → place < from + count → list_any (λ k. p k && nat_eq place k) (range_with_len from count) ≡ p place
any-run p from zero place low high = absurd (omega (arith, low, high))
any-run p from (suc count) place low high = by (cases_lt from place) (λ before. any-run p (from + 1) count place (omega (arith, before)) (omega (arith, high)))
  where
    or-false : (b : Bool) → (b && true || false) ≡ b
    or-false true = refl
    or-false false = refl

    left : Bool
    left = list_any (λ k. p k && nat_eq place k) (range_with_len (from + 1) count)

    by : (from < place) ⊎ (place ≤ from) → (from < place → left ≡ p place) → list_any (λ k. p k && nat_eq place k) (range_with_len from (suc count)) ≡ p place
    by (inl before) later = ap (λ b. b || left) (ap (λ b. p from && b) (ne_eqb place from (λ is. omega (arith, is, before))) ∙ and_right (p from) false refl) ∙ later before
    by (inr reached) later =
        let same : place ≡ from = omega (arith, low, reached) in
        (λ i. (p from && eq-eqb place from same i) || none-run p (from + 1) count place (omega (arith, reached)) i)
        ∙ or-false (p from)
        ∙ ap p (sym same)

pub any-bits_on : (bits place : ℕ) → place < 64 → list_any (nat_eq place) (bits_on bits) ≡ is_on bits place
unfolding bits_on
any-bits_on bits place low = any-filter (is_on bits) (nat_eq place) (range_with_len 0 64) ∙ any-run (is_on bits) 0 64 place (omega arith) low

-- all places are below 64
below-run : (p : ℕ → Bool) (from count : ℕ) → All (λ k. k < from + count) (filter p (range_with_len from count))
below-run p from count = All-filter p (λ k. k < from + count) (range_with_len from count) (each from count)
  where
    each : (from count : ℕ) → All (λ k. k < from + count) (range_with_len from count)
    each from zero = All-nil (λ k. k < from + zero)
    each from (suc count) = All-cons (λ k. k < from + suc count) from (range_with_len (from + 1) count) (omega arith)
        (All-weaker (λ k. k < (from + 1) + count) (λ k. k < from + suc count) (λ k low. omega (arith, low)) (range_with_len (from + 1) count) (each (from + 1) count))

pub bits_on-below : (bits : ℕ) → All (λ place. place < 64) (bits_on bits)
unfolding bits_on
bits_on-below bits = below-run (is_on bits) 0 64

-- no two are the same
rising-run : (p : ℕ → Bool) (from count : ℕ) → AllPairs (λ i j. i < j) (filter p (range_with_len from count))
rising-run p from count = AllPairs-filter (λ i j. i < j) p (range_with_len from count) pairs
  where
    pairs : AllPairs (λ i j. i < j) (range_with_len from count)
    pairs i j d before within =
        let low : j < count = omega (arith, within, length-range_with_len from count) in
        let low_i : i < count = omega (arith, low, before) in
        omega (arith, before, get_or-range_with_len from count i d low_i, get_or-range_with_len from count j d low)

pub bits_on-rising : (bits : ℕ) → AllPairs (λ i j. i < j) (bits_on bits)
unfolding bits_on
bits_on-rising bits = rising-run (is_on bits) 0 64

-- setting one bit more
pub is_on-set : (bits more place : ℕ) → more < 64 → is_on (bit_or bits (1 * 2 ^ more % 2 ^ 64)) place ≡ (nat_eq place more || is_on bits place)
is_on-set bits more place low = by (nat_eq place more) refl
  where
    by : (b : Bool) → nat_eq place more ≡ b → is_on (bit_or bits (1 * 2 ^ more % 2 ^ 64)) place ≡ (b || is_on bits place)
    by true is = eq-eqb (bit_at (bit_or bits (1 * 2 ^ more % 2 ^ 64)) place) 1 (ap (bit_at (bit_or bits (1 * 2 ^ more % 2 ^ 64))) (eqb-true place more is) ∙ bit_at_set_same w64 bits more low)
    by false is = ap (λ n. n == 1) (bit_at_set_other w64 bits more low place (λ same. true≢false (sym (eq-eqb place more same) ∙ is)))

-- what either has
pub is_on-or : (a b place : ℕ) → is_on (bit_or a b) place ≡ (is_on a place || is_on b place)
is_on-or a b place = ap (λ n. n == 1) (bit_at_or a b place) ∙ larger_test (bit_at a place) (bit_at b place) (bit_at-lt a place) (bit_at-lt b place)

-- What a test finds among the places once one bit more is on.
or-split : (t is p : Bool) → ((is || p) && t) ≡ ((t && is) || (p && t))
or-split true true p = refl
or-split true false true = refl
or-split true false false = refl
or-split false true true = refl
or-split false true false = refl
or-split false false true = refl
or-split false false false = refl

any-or : (p q : ℕ → Bool) (xs : List ℕ) → list_any (λ x. p x || q x) xs ≡ (list_any p xs || list_any q xs)
any-or p q [] = refl
any-or p q (x ∷ xs) = ap (λ b. (p x || q x) || b) (any-or p q xs) ∙ swap (p x) (q x) (list_any p xs) (list_any q xs)
  where
    swap : (a b c d : Bool) → ((a || b) || (c || d)) ≡ ((a || c) || (b || d))
    swap true b c d = refl
    swap false true true d = refl
    swap false true false d = refl
    swap false false c d = refl

same_either_way : (a b : ℕ) → nat_eq a b ≡ nat_eq b a
same_either_way a b = by (nat_eq a b) refl
  where
    by : (t : Bool) → nat_eq a b ≡ t → t ≡ nat_eq b a
    by true is = sym (eq-eqb b a (sym (eqb-true a b is)))
    by false is = sym (ne_eqb b a (λ same. true≢false (sym (eq-eqb a b (sym same)) ∙ is)))

or-comm : (a b : Bool) → (a || b) ≡ (b || a)
or-comm true true = refl
or-comm true false = refl
or-comm false true = refl
or-comm false false = refl

pub any-bits-set : (t : ℕ → Bool) (bits place : ℕ) → place < 64 → list_any t (bits_on (bit_or bits (1 * 2 ^ place % 2 ^ 64))) ≡ (list_any t (bits_on bits) || t place)
unfolding bits_on
any-bits-set t bits place low =
    any-filter (is_on (bit_or bits (1 * 2 ^ place % 2 ^ 64))) t (range_with_len 0 64)
    ∙ (λ i. list_any (λ k. each k i) (range_with_len 0 64))
    ∙ any-or (λ k. t k && nat_eq place k) (λ k. is_on bits k && t k) (range_with_len 0 64)
    ∙ (λ i. any-run t 0 64 place (omega arith) low i || sym (any-filter (is_on bits) t (range_with_len 0 64)) i)
    ∙ or-comm (t place) (list_any t (filter (is_on bits) (range_with_len 0 64)))
  where
    each : (k : ℕ) → (is_on (bit_or bits (1 * 2 ^ place % 2 ^ 64)) k && t k) ≡ ((t k && nat_eq place k) || (is_on bits k && t k))
    each k =
        ap (λ b. b && t k) (is_on-set bits place k low)
        ∙ or-split (t k) (nat_eq k place) (is_on bits k)
        ∙ ap (λ b. (t k && b) || (is_on bits k && t k)) (same_either_way k place)

-- a word with one bit on
pub any-bit : (t : ℕ → Bool) (place : ℕ) → place < 64 → list_any t (bits_on (1 * 2 ^ place % 2 ^ 64)) ≡ t place
any-bit t place low =
    ap (λ bits. list_any t (bits_on bits)) (sym zero_or)
    ∙ any-bits-set t 0 place low
    ∙ ap (λ ks. list_any t ks || t place) bits_on-zero
  where
    zero_max : (n : ℕ) → max 0 n ≡ n
    zero_max n = omega arith

    zero_or : bit_or 0 (1 * 2 ^ place % 2 ^ 64) ≡ 1 * 2 ^ place % 2 ^ 64
    zero_or = same_from_bits (bit_or 0 (1 * 2 ^ place % 2 ^ 64)) (1 * 2 ^ place % 2 ^ 64)
        (λ i. bit_at_or 0 (1 * 2 ^ place % 2 ^ 64) i ∙ ap (λ n. max n (bit_at (1 * 2 ^ place % 2 ^ 64) i)) (bit_at-zero i) ∙ zero_max (bit_at (1 * 2 ^ place % 2 ^ 64) i))

-- How many bits are on.
shifted : (p : ℕ → Bool) (from count : ℕ) → length (filter p (range_with_len (from + 1) count)) ≡ length (filter (λ k. p (k + 1)) (range_with_len from count))
shifted p from zero = refl
shifted p from (suc count) = by (p (from + 1)) (shifted p (from + 1) count)
  where
    by : (b : Bool) → length (filter p (range_with_len (from + 1 + 1) count)) ≡ length (filter (λ k. p (k + 1)) (range_with_len (from + 1) count))
        → length (cond b ((from + 1) ∷ filter p (range_with_len (from + 1 + 1) count)) (filter p (range_with_len (from + 1 + 1) count)))
        ≡ length (cond b (from ∷ filter (λ k. p (k + 1)) (range_with_len (from + 1) count)) (filter (λ k. p (k + 1)) (range_with_len (from + 1) count)))
    by true rest = ap suc rest
    by false rest = rest

count-on : (width bits : ℕ) → bits < 2 ^ width → length (filter (is_on bits) (range_with_len 0 width)) ≡ ones bits
count-on zero bits low = sym (ones-ones 0) ∙ ap ones (sym none)
  where
    none : bits ≡ 0
    none = omega (arith, low)
count-on (suc width) bits low =
    lowest (bits % 2) (bit_at_lowest bits) (omega arith)
    (shifted (is_on bits) 0 width
    ∙ ap length (filter-run (λ k. is_on bits (k + 1)) (is_on (bits / 2)) 0 width (λ k l h. let next : k + 1 ≡ suc k = omega arith in ap (λ n. n == 1) (ap (bit_at bits) next ∙ bit_at-suc bits k)))
    ∙ count-on width (bits / 2) (omega (arith, low, pow_suc width)))
    ∙ sym (ones_cat 1 (bits / 2) (bits % 2) (omega arith))
    ∙ ap ones (omega arith)
  where
    pow_suc : (w : ℕ) → 2 ^ suc w ≡ 2 * 2 ^ w
    pow_suc w = omega arith

    others : List ℕ
    others = filter (is_on bits) (range_with_len 1 width)

    lowest : (bit : ℕ) → bit_at bits 0 ≡ bit → bit < 2 → length others ≡ ones (bits / 2) → length (cond (bit_at bits 0 == 1) (0 ∷ others) others) ≡ ones (bits / 2) + ones bit
    lowest zero is small rest = ap (λ n. length (cond (n == 1) (0 ∷ others) others)) is ∙ rest ∙ omega (arith, ones-ones 0)
    lowest (suc zero) is small rest = ap (λ n. length (cond (n == 1) (0 ∷ others) others)) is ∙ ap suc rest ∙ omega (arith, ones-ones 1)
    lowest (suc (suc bit)) is small rest = absurd (omega (arith, small))

pub length-bits_on : (bits : ℕ) → bits < 2 ^ 64 → length (bits_on bits) ≡ ones bits
unfolding bits_on
length-bits_on bits low = count-on 64 bits low

pub bits_on-few : (bits : ℕ) → length (bits_on bits) ≤ 64
unfolding bits_on
bits_on-few bits = omega (arith, length-filter (is_on bits) (range_with_len 0 64), count_by-le-length (is_on bits) (range_with_len 0 64), length-range_with_len 0 64)
