-- Lines of a text, and what stands in them.
use Rattle.std.specs.Prelude.{ℕ, ◌+◌, ◌-◌, ◌*◌, ◌^◌, Bool, ◌||◌, not, ◌==◌, nat_eq, nat_lt, List, [], ◌∷◌, length, drop, Option, Some, None, Result, Ok, Err, if◌then◌else◌}
use Rattle.std.specs.Char.{is_ascii_digit}
use Rattle.std.specs.List.{fold, list_all, onto_first, starts_with, position_or_len, before_first, after_first, after_last}
use Rattle.ld_layout.specs.declared.fault.Wrong.{Wrong}
use Rattle.ld_layout.specs.declared.fault.Wrong.TheVariants as wrongs

-- what follows from a value; a fault stays
infixl 10 ◌>>=◌
abbrev pub ◌>>=◌ : {A B E : Type 0} → Result A E → (A → Result B E) → Result B E
(Ok x) >>= f = f x
(Err e) >>= f = Err e

-- what a function answers, seen without where it lies in memory
abbrev pub seen : {A B E : Type 0} → (A → B) → Result A E → Result B E
seen view (Ok x) = Ok (view x)
seen view (Err e) = Err e

abbrev pub is_lf : ℕ → Bool
is_lf b = b == 10

abbrev pub is_semicolon : ℕ → Bool
is_semicolon b = b == 59

abbrev pub is_blank : ℕ → Bool
is_blank b = b == 32

-- the lines, without the LF that ends each; what follows the last LF is a line only if it has a byte
abbrev pub lines : List ℕ → List (List ℕ)
lines [] = []
lines (b ∷ bytes) = if is_lf b then [] ∷ lines bytes else onto_first b (lines bytes)

-- what stands behind a key; a fault if the text begins otherwise
abbrev pub tail_of : List ℕ → List ℕ → Wrong → Result (List ℕ) Wrong
tail_of text key wrong = if starts_with nat_eq text key then Ok (drop (length key) text) else Err wrong

-- what stands before the first `;`, and what stands behind it
abbrev pub cut : List ℕ → Result (List ℕ × List ℕ) Wrong
cut text =
    if position_or_len is_semicolon text == length text then Err wrongs.Field
    else Ok (before_first is_semicolon text, after_first is_semicolon text)

-- what stands behind a key up to the next `;`, and what follows that
unfoldable pub value : List ℕ → List ℕ → Result (List ℕ × List ℕ) Wrong
value text key = tail_of text key wrongs.Field >>= cut

-- what stands behind the last blank
abbrev pub last_word : List ℕ → List ℕ
last_word text = after_last is_blank text

-- a number with one more digit
abbrev pub with_digit : ℕ → ℕ → ℕ
with_digit number digit = 10 * number + (digit - 48)

-- a number, if 32 bits hold it
abbrev pub fitting : ℕ → Option ℕ
fitting number = if nat_lt number (2 ^ 32) then Some number else None

-- the number that decimal digits spell
abbrev pub decimal : List ℕ → ℕ
decimal digits = fold with_digit 0 digits

-- a number that there is
abbrev pub given : Option ℕ → Result ℕ Wrong
given (Some number) = Ok number
given None = Err wrongs.Number

-- that number, if they are digits, one or more, and 32 bits hold it
abbrev pub number : List ℕ → Result ℕ Wrong
number digits =
    if length digits == 0 || not (list_all is_ascii_digit digits) then Err wrongs.Number
    else given (fitting (decimal digits))
