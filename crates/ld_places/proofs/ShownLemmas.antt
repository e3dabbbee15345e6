-- Graphic bytes are a text, and digits write a number.
use Rattle.std.proofs.Common.{◌≡◌, ◌<◌, ◌^◌, ℕ, zero, suc, Bool, true, false, List, [], ◌∷◌, length, Some, None, Result, Err, refl, arith, nat_lt, if◌then◌else◌}
use Rattle.std.proofs.lemmas.Bool.{and_from, and_parts}
use Rattle.std.proofs.lemmas.Bool.Decides.{nat_tests}
use Rattle.std.proofs.lemmas.Str.{IsUtf8-from_ascii}
use Rattle.std.proofs.lemmas.Str.Parse.{numerals_by_value, parse_digits, tells_all_ascii_digits}
use Rattle.std.specs.Char.{is_ascii_digit, is_ascii_graphic}
use Rattle.std.specs.List.{list_all}
use Rattle.std.specs.Result.{OkIff}
use Rattle.std.specs.Str.{IsAscii, IsUtf8, all_ascii_digits}
use Rattle.std.specs.Str.Parse.{ParsesUnsigned, digits_value}
use Rattle.ld_trace.specs.Lines.{is_empty}
use Rattle.ld_places.specs.ShownPlaces.{below}

-- Graphic bytes are ASCII.

graphic-low : (b : ℕ) → is_ascii_graphic b ≡ true → b < 128
graphic-low b is = grind (arith, nat_tests)

graphic-ascii : (bytes : List ℕ) → list_all is_ascii_graphic bytes ≡ true → IsAscii bytes
graphic-ascii [] all i = omega arith
graphic-ascii (b ∷ bytes) all zero = graphic-low b (and_parts (is_ascii_graphic b) (list_all is_ascii_graphic bytes) all).0
graphic-ascii (b ∷ bytes) all (suc i) = graphic-ascii bytes (and_parts (is_ascii_graphic b) (list_all is_ascii_graphic bytes) all).1 i

pub graphic-utf8 : (bytes : List ℕ) → list_all is_ascii_graphic bytes ≡ true → IsUtf8 bytes
graphic-utf8 bytes all = IsUtf8-from_ascii bytes (graphic-ascii bytes all)

digit-graphic : (b : ℕ) → is_ascii_digit b ≡ true → is_ascii_graphic b ≡ true
digit-graphic b is = grind (arith, nat_tests)

pub digits-graphic : (bytes : List ℕ) → list_all is_ascii_digit bytes ≡ true → list_all is_ascii_graphic bytes ≡ true
digits-graphic [] all = refl
digits-graphic (b ∷ bytes) all =
    let now = and_parts (is_ascii_digit b) (list_all is_ascii_digit bytes) all in
    and_from (is_ascii_graphic b) (list_all is_ascii_graphic bytes) (digit-graphic b now.0) (digits-graphic bytes now.1)

-- Digits write a number.

digits-all : (bytes : List ℕ) → list_all is_ascii_digit bytes ≡ true → all_ascii_digits bytes ≡ true
digits-all [] all = refl
digits-all (b ∷ bytes) all =
    let now = and_parts (is_ascii_digit b) (list_all is_ascii_digit bytes) all in
    and_from (is_ascii_digit b) (all_ascii_digits bytes) now.0 (digits-all bytes now.1)

some-long : (bytes : List ℕ) → is_empty bytes ≡ false → 0 < length bytes
some-long [] some = absurd (cc)
some-long (b ∷ bytes) some = omega arith

module _ {E : Type 0} (digits : List ℕ) (some : is_empty digits ≡ false) (all : list_all is_ascii_digit digits ≡ true) where
  read : (r : Result ℕ E) → ParsesUnsigned 64 10 digits r → OkIff r ((0 < length digits) × (digits_value 10 digits < 2 ^ 64)) (digits_value 10 digits)
  read r is = parse_digits (numerals_by_value (λ ds. all_ascii_digits ds ≡ true) tells_all_ascii_digits) 64 digits r is (digits-all digits all)

  pub number-too_large : (e : E) → ParsesUnsigned 64 10 digits (Err e) → None ≡ below (2 ^ 64) (digits_value 10 digits)
  number-too_large e is = by (nat_lt (digits_value 10 digits) (2 ^ 64)) refl
    where
      told : ¬ ((0 < length digits) × (digits_value 10 digits < 2 ^ 64))
      told = read (Err e) is

      by : (test : Bool) → nat_lt (digits_value 10 digits) (2 ^ 64) ≡ test → None ≡ (if test then Some (digits_value 10 digits) else None)
      by true low = absurd (told (some-long digits some, grind (arith, nat_tests, low)))
      by false high = refl
