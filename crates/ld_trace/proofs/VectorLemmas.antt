-- A run of bytes, by a vector of those at the front and the bits of those that end it.
use Rattle.std.proofs.Common.{◌≡◌, ℕ, ◌+◌, ◌*◌, ◌-◌, ◌/◌, ◌%◌, ◌^◌, ◌<◌, ◌≤◌, Bool, true, false, not, cond, eqb, List, [], ◌∷◌, ◌++◌, map, length, take, drop, replicate, refl, sym, ap, ap₂, ◌∙◌, arith, w8, Fits}
use Rattle.std.proofs.lemmas.Bool.{agree_below, agree_below_at, ne_eqb}
use Rattle.std.proofs.lemmas.Simd.{map-map, mask_l-lt, mask_l-mod, trailing_mask_l, zip2_splat_left}
use Rattle.std.proofs.lemmas.List.{drop-map, drop-take, length-map, take-append-drop}
use Rattle.std.proofs.Math.Nat.{mul_left_comm}
use Rattle.std.proofs.lemmas.Nat.{mod_low, pow-add, shr-shr}
use Rattle.std.proofs.lemmas.List.{map-append}
use Rattle.std.proofs.lemmas.List.Folds.{prefix_len-append}
use Rattle.std.proofs.lemmas.List.Sums.{prefix_len-le-length}
use Rattle.std.specs.List.{prefix_len}
use lib.Bits.{and_mask, bit_and}
use lib.Count.{count_trailing_zeros}
use lib.Lanes.{zip2, mask_l, top, Each1}

-- an operation on a number and what each lane has by f
pub from_splat : (h : ℕ → ℕ → ℕ) (f : ℕ → ℕ) (y n : ℕ) (v : List ℕ) {a : List ℕ} → length v ≡ n → a ≡ map f v → zip2 h (replicate n y) a ≡ map (λ x. h y (f x)) v
from_splat h f y n v long p = ap (zip2 h (replicate n y)) p ∙ zip2_splat_left h y n (map f v) (length-map v f ∙ long) ∙ map-map (h y) f v

each_byte : (f : ℕ → ℕ) (p : ℕ → Bool) → agree_below (λ x. top 7 (f x)) p 256 ≡ true → (v : List ℕ) → Each1 (Fits w8) v → map (top 7) (map f v) ≡ map p v
each_byte f p all [] fits = refl
each_byte f p all (x ∷ xs) fits = ap₂ (λ a b. a ∷ b) (agree_below_at (λ y. top 7 (f y)) p 256 x all fits.0.fits) (each_byte f p all xs fits.1)

-- the bits of the lanes whose top bit says of each byte what the test says of it
pub masked : (f : ℕ → ℕ) (p : ℕ → Bool) (v z : List ℕ) → length v ≤ 64 → Each1 (Fits w8) v → z ≡ map f v → agree_below (λ x. top 7 (f x)) p 256 ≡ true
    → mask_l (map (top 7) z) % 2 ^ 64 ≡ mask_l (map p v)
masked f p v z short fits e all =
    ap (λ l. mask_l l % 2 ^ 64) (ap (map (top 7)) e ∙ each_byte f p all v fits) ∙ mask_l-mod (map p v) 64 (omega (arith, length-map v p))

-- where all bytes pass, no bit is set
none_fails : (b : Bool) (n l m : ℕ) → n ≤ l → cond (not (not b)) (1 + n) 0 ≡ 1 + l → (n ≡ l → m ≡ 0) → cond (not b) 1 0 + 2 * m ≡ 0
none_fails false n l m le e ih = let no : ⊥ = omega arith in absurd no
none_fails true n l m le e ih = let z = ih (omega arith) in omega arith

same : (b : Bool) → not (not b) ≡ b
same true = refl
same false = refl

module _ (p : ℕ → Bool) where
  same_run : (xs : List ℕ) → prefix_len (λ x. not (not (p x))) xs ≡ prefix_len p xs
  same_run [] = refl
  same_run (x ∷ xs) = ap₂ (λ b n. cond b (1 + n) 0) (same (p x)) (same_run xs)

  all_pass : (xs : List ℕ) → prefix_len (λ x. not (not (p x))) xs ≡ length xs → mask_l (map (λ x. not (p x)) xs) ≡ 0
  all_pass [] e = refl
  all_pass (x ∷ xs) e = none_fails (p x) _ (length xs) _ (prefix_len-le-length (λ y. not (not (p y))) xs) (omega arith) (all_pass xs)

  -- the lowest bit that is set is where the run ends
  pub run-ends : (xs : List ℕ) (n : ℕ) → n ≤ 64 → length (take n xs) ≡ n → 0 < mask_l (map (λ x. not (p x)) (take n xs))
      → count_trailing_zeros 64 (mask_l (map (λ x. not (p x)) (take n xs))) ≡ prefix_len p xs
  run-ends xs n short long some =
      let front = take n xs in
      let less : eqb (prefix_len p front) (length front) ≡ false = ne_eqb _ _ (λ (e : prefix_len p front ≡ length front). omega (arith, all_pass front (same_run front ∙ e))) in
      let whole : prefix_len p xs ≡ prefix_len p front =
      ap (prefix_len p) (sym (take-append-drop n xs)) ∙ prefix_len-append p front (drop n xs)
      ∙ ap (λ b. cond b (length front + prefix_len p (drop n xs)) (prefix_len p front)) less in
      trailing_mask_l (λ x. not (p x)) 64 front (omega (arith, long)) some ∙ same_run front ∙ sym whole

-- the bits of the lanes behind some
mask-drop : (ms : List Bool) (k : ℕ) → mask_l ms / 2 ^ k ≡ mask_l (drop k ms)
mask-drop ms ℕ.zero = omega arith
mask-drop [] (ℕ.suc k) = omega arith
mask-drop (m ∷ ms) (ℕ.suc k) =
    ap (λ n. mask_l (m ∷ ms) / 2 ^ n) next ∙ sym (shr-shr (mask_l (m ∷ ms)) 1 k)
    ∙ ap (λ n. n / 2 ^ k) (half m (mask_l ms)) ∙ mask-drop ms k
  where
    next : ℕ.suc k ≡ 1 + k
    next = omega arith

    half : (b : Bool) (n : ℕ) → (cond b 1 0 + 2 * n) / 2 ^ 1 ≡ n
    half true n = omega arith
    half false n = omega arith

-- and so of the bytes behind some
pub mask-behind : (p : ℕ → Bool) (bytes : List ℕ) (seen count bits : ℕ) → count ≤ seen → bits ≡ mask_l (map p (take seen bytes))
    → bits / 2 ^ count ≡ mask_l (map p (take (seen - count) (drop count bytes)))
mask-behind p bytes seen count bits within is =
    let whole : count + (seen - count) ≡ seen = omega (arith, within) in
    ap (λ b. b / 2 ^ count) is
    ∙ mask-drop (map p (take seen bytes)) count
    ∙ ap mask_l (drop-map p count (take seen bytes))
    ∙ ap (λ n. mask_l (map p (drop count (take n bytes)))) (sym whole)
    ∙ ap (λ xs. mask_l (map p xs)) (drop-take count (seen - count) bytes)

-- the bits of some lanes, and of others behind them
mask-both : (a b : List Bool) → mask_l (a ++ b) ≡ mask_l b * 2 ^ length a + mask_l a
mask-both [] b = omega arith
mask-both (m ∷ a) b = omega (arith, mask-both a b, twice)
  where
    next : length (m ∷ a) ≡ 1 + length a
    next = omega arith

    twice : mask_l b * 2 ^ length (m ∷ a) ≡ 2 * (mask_l b * 2 ^ length a)
    twice = ap (λ n. mask_l b * 2 ^ n) next ∙ ap (λ n. mask_l b * n) (pow-add 2 1 (length a)) ∙ mul_left_comm (mask_l b) 2 (2 ^ length a)

-- so the lower bits are those of the lanes at the front
pub mask-front : (p : ℕ → Bool) (front more : List ℕ) (count bits : ℕ) → length front ≡ count → bits ≡ mask_l (map p (front ++ more))
    → bit_and bits (2 ^ count - 1) ≡ mask_l (map p front)
mask-front p front more count bits long is =
    let many : length (map p front) ≡ count = length-map front p ∙ long in
    and_mask bits count
    ∙ (λ i. is i % 2 ^ sym many i)
    ∙ ap (λ ms. mask_l ms % 2 ^ length (map p front)) (map-append p front more)
    ∙ ap (λ n. n % 2 ^ length (map p front)) (mask-both (map p front) (map p more))
    ∙ mod_low (mask_l (map p more)) (length (map p front)) (mask_l (map p front)) (mask_l-lt (map p front))
