-- Numbers of classes by blocks of 64, each class a bit of a word: bit k of block b stands for class 64 * b + k.
use Rattle.std.specs.Prelude.{ℕ, Bool, ◌+◌, ◌*◌, ◌<◌, ◌==◌, List, map}
use Rattle.std.specs.List.{filter, range_with_len}
use Rattle.std.specs.Int.{bit_at}

-- this bit is on
abbrev pub is_on : ℕ → ℕ → Bool
is_on bits place = bit_at bits place == 1

-- the places of the bits that are on, from the lowest
unfoldable pub bits_on : ℕ → List ℕ
bits_on bits = filter (is_on bits) (range_with_len 0 64)

-- the classes of this block have numbers of 32 bits: it is one of 2 ^ 26 blocks
abbrev pub IsBlock : ℕ → Type 0
IsBlock block = block < 67108864

-- the classes of this block whose bits are on
abbrev pub classes_in : ℕ → ℕ → List ℕ
classes_in block bits = map (λ place. 64 * block + place) (bits_on bits)
