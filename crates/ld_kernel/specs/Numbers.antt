-- Numbers of an event: where each stands among its bytes, the lowest byte first. A byte behind the end counts as 0.
use Rattle.std.specs.Prelude.{ℕ, ◌+◌, ◌*◌, ◌^◌, ◌==◌, List, Option, Some, None, slice_index, if◌then◌else◌}
use Rattle.ld_layout.specs.declared.field.Shape.{Shape}
use Rattle.ld_layout.specs.declared.field.Shape.TheVariants as shapes
use Rattle.ld_layout.specs.Fields.{PlainField}
use Rattle.ld_kernel.specs.declared.number.Number.{Number}
use Rattle.ld_kernel.specs.declared.number.Width.{Width}
use Rattle.ld_kernel.specs.declared.number.Width.TheVariants.{One, Two, Four, Eight}

-- of 2, 4 and 8 bytes from a position on
abbrev pub half_at : List ℕ → ℕ → ℕ
half_at bytes p = slice_index bytes p + 2 ^ 8 * slice_index bytes (p + 1)

abbrev pub word_at : List ℕ → ℕ → ℕ
word_at bytes p = half_at bytes p + 2 ^ 16 * half_at bytes (p + 2)

abbrev pub long_at : List ℕ → ℕ → ℕ
long_at bytes p = word_at bytes p + 2 ^ 32 * word_at bytes (p + 4)

abbrev pub bytes_of : Width → ℕ
bytes_of One = 1
bytes_of Two = 2
bytes_of Four = 4
bytes_of Eight = 8

-- the number of this width at a position
abbrev pub spelled : Width → List ℕ → ℕ → ℕ
spelled One bytes p = slice_index bytes p
spelled Two bytes p = half_at bytes p
spelled Four bytes p = word_at bytes p
spelled Eight bytes p = long_at bytes p

abbrev pub read : Number → List ℕ → ℕ
read number bytes = spelled number.width bytes number.at

-- behind its last byte
abbrev pub end_of : Number → ℕ
end_of number = number.at + bytes_of number.width

abbrev pub width_of : ℕ → Option Width
width_of size =
    if size == 1 then Some One
    else if size == 2 then Some Two
    else if size == 4 then Some Four
    else if size == 8 then Some Eight
    else None

abbrev pub number_at : ℕ → Option Width → Option Number
number_at at (Some width) = Some (record { at = at; width = width })
number_at at None = None

-- the number that stands in the place of a field of this shape
abbrev pub number_by : Shape → ℕ → ℕ → Option Number
number_by shapes.Plain at size = number_at at (width_of size)
number_by shapes.Array at size = None
number_by shapes.Located at size = None
number_by shapes.Relative at size = None

abbrev pub number_of : PlainField → Option Number
number_of field = number_by field.shape field.offset field.size
