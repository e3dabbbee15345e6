-- What follows for usage sets from the definitions of specs/Usage.antt, for the crates above.
use Rattle.std.proofs.Common.{◌≡◌, ◌*◌, ◌^◌, ◌<◌, ℕ, zero, suc}
use Rattle.std.proofs.Common.{◌==◌, ◌||◌, ◌∙◌, max, refl, ap, sym, arith}
use Rattle.std.proofs.lemmas.Bool.{eq-eqb, ne_eqb}
use Rattle.std.proofs.lemmas.Nat.{pow_pos}
use Rattle.std.proofs.lemmas.Nat.Bits.{and_pow, bit_at-lt, bit_at_or}
use Rattle.std.specs.Int.{bit_at}
use Rattle.ld_class.specs.declared.usage.Usage.{Usage}
use Rattle.ld_class.specs.Usage.{either, has_bit}

-- a digit 0 or 1 times a number that is not 0 is that number if the digit is 1
product_test : (digit weight : ℕ) → digit < 2 → 0 < weight
    → (digit * weight == weight) ≡ (digit == 1)
product_test zero weight small some = ne_eqb (0 * weight) weight (λ same. omega (arith, same))
product_test (suc zero) weight small some =
    let one : 1 * weight ≡ weight = omega arith in
    eq-eqb (1 * weight) weight one
product_test (suc (suc digit)) weight small some = absurd (omega (arith, small))

-- a single bit is in the set where the set's number has a 1 at its place
pub has_bit-place : (usage bit : Usage) (place : ℕ) → bit.0 ≡ 2 ^ place
    → has_bit usage bit ≡ (bit_at usage.0 place == 1)
has_bit-place usage bit place at =
    rw (at, and_pow usage.0 place)
    (product_test (bit_at usage.0 place) (2 ^ place) (bit_at-lt usage.0 place) (pow_pos place))

-- the larger of two digits is 1 if one of them is
pub larger_test : (a b : ℕ) → a < 2 → b < 2 → (max a b == 1) ≡ ((a == 1) || (b == 1))
larger_test zero zero small_a small_b = refl
larger_test zero (suc zero) small_a small_b = refl
larger_test (suc zero) zero small_a small_b = refl
larger_test (suc zero) (suc zero) small_a small_b = refl
larger_test (suc (suc a)) b small_a small_b = absurd (omega (arith, small_a))
larger_test zero (suc (suc b)) small_a small_b = absurd (omega (arith, small_b))
larger_test (suc zero) (suc (suc b)) small_a small_b = absurd (omega (arith, small_b))

-- what either of two sets has: a single bit is there if one of the two has it
pub has_bit-either : (a b bit : Usage) (place : ℕ) → bit.0 ≡ 2 ^ place
    → has_bit (either a b) bit ≡ (has_bit a bit || has_bit b bit)
has_bit-either a b bit place at =
    let digit_a = bit_at a.0 place in
    let digit_b = bit_at b.0 place in
    let larger = larger_test digit_a digit_b (bit_at-lt a.0 place) (bit_at-lt b.0 place) in
    has_bit-place (either a b) bit place at
    ∙ ap (λ digit. digit == 1) (bit_at_or a.0 b.0 place)
    ∙ larger
    ∙ sym (λ i. has_bit-place a bit place at i || has_bit-place b bit place at i)
