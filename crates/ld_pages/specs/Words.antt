-- Numbers that bytes spell, the lowest byte first. A byte past the end counts as 0.
use Rattle.std.specs.Prelude.{ℕ, ◌+◌, ◌*◌, ◌^◌, List, slice_index}

-- of 4 bytes from a position on
abbrev pub word_at : List ℕ → ℕ → ℕ
word_at bytes p =
    slice_index bytes p + 2 ^ 8 * slice_index bytes (p + 1)
    + 2 ^ 16 * (slice_index bytes (p + 2) + 2 ^ 8 * slice_index bytes (p + 3))

-- of 8 bytes from a position on
abbrev pub long_at : List ℕ → ℕ → ℕ
long_at bytes p = word_at bytes p + 2 ^ 32 * word_at bytes (p + 4)
