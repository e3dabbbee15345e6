-- Parts of a file, by their offsets: numbers, the lowest byte first, and texts. Each with where it ends.
use Rattle.std.specs.Prelude.{ℕ, ◌+◌, ◌-◌, ◌*◌, ◌^◌, Bool, ◌==◌, nat_lt, nat_le, List, length, drop, slice_index, slice_range, Result, Ok, Err, if◌then◌else◌}
use Rattle.std.specs.List.{position_or_len, before_first}
use Rattle.std.specs.Str.{bytes_eq}
use Rattle.ld_trace_dat.specs.declared.fault.DatFault.{DatFault}
use Rattle.ld_trace_dat.specs.declared.fault.Wrong.{Wrong}
use Rattle.ld_trace_dat.specs.declared.fault.Wrong.TheVariants as wrongs

-- what follows from a value; a fault stays
infixl 10 ◌>>=◌
abbrev pub ◌>>=◌ : {A B E : Type 0} → Result A E → (A → Result B E) → Result B E
(Ok x) >>= f = f x
(Err e) >>= f = Err e

-- what a function answers, seen without where it lies in memory
abbrev pub seen : {A B E : Type 0} → (A → B) → Result A E → Result B E
seen view (Ok x) = Ok (view x)
seen view (Err e) = Err e

-- what is wrong with the part at an offset
abbrev pub fault : {A : Type 0} → ℕ → Wrong → Result A DatFault
fault at wrong = Err (record { offset = at; wrong = wrong })

-- so many bytes from an offset on
unfoldable pub part : List ℕ → ℕ → ℕ → Result (List ℕ × ℕ) DatFault
part bytes at size =
    if nat_le (at + size) (length bytes) then Ok (slice_range bytes at (at + size), at + size)
    else fault at wrongs.Ends

-- behind these bytes, which have to stand at an offset
unfoldable pub key : List ℕ → ℕ → List ℕ → Wrong → Result ℕ DatFault
key bytes at wanted wrong = part bytes at (length wanted) >>= λ x. if bytes_eq x.0 wanted then Ok x.1 else fault at wrong

-- the numbers that 2, 4 and 8 bytes from a position on spell
abbrev pub half_at : List ℕ → ℕ → ℕ
half_at bytes p = slice_index bytes p + 2 ^ 8 * slice_index bytes (p + 1)

abbrev pub word_at : List ℕ → ℕ → ℕ
word_at bytes p = half_at bytes p + 2 ^ 16 * half_at bytes (p + 2)

abbrev pub long_at : List ℕ → ℕ → ℕ
long_at bytes p = word_at bytes p + 2 ^ 32 * word_at bytes (p + 4)

unfoldable pub half : List ℕ → ℕ → Result (ℕ × ℕ) DatFault
half bytes at = if nat_le (at + 2) (length bytes) then Ok (half_at bytes at, at + 2) else fault at wrongs.Ends

unfoldable pub word : List ℕ → ℕ → Result (ℕ × ℕ) DatFault
word bytes at = if nat_le (at + 4) (length bytes) then Ok (word_at bytes at, at + 4) else fault at wrongs.Ends

unfoldable pub long : List ℕ → ℕ → Result (ℕ × ℕ) DatFault
long bytes at = if nat_le (at + 8) (length bytes) then Ok (long_at bytes at, at + 8) else fault at wrongs.Ends

abbrev pub is_zero : ℕ → Bool
is_zero b = b == 0

-- the text from an offset up to the first zero
unfoldable pub text : List ℕ → ℕ → Result (List ℕ × ℕ) DatFault
text bytes at =
    let rest = drop at bytes in
    if nat_lt (position_or_len is_zero rest) (length rest)
    then Ok (before_first is_zero rest, at + position_or_len is_zero rest + 1)
    else fault at wrongs.Ends

-- so many bytes as a number before them says
unfoldable pub word_sized : List ℕ → ℕ → Result (List ℕ × ℕ) DatFault
word_sized bytes at = word bytes at >>= λ size. part bytes size.1 size.0

unfoldable pub long_sized : List ℕ → ℕ → Result (List ℕ × ℕ) DatFault
long_sized bytes at = long bytes at >>= λ size. part bytes size.1 size.0
