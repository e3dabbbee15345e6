-- Lines and fields of a list of bytes, and the words that stand in fields.
use Rattle.std.specs.Prelude.{ℕ, ◌-◌, Bool, true, false, ◌&&◌, ◌||◌, not, ◌==◌, nat_eq, nat_le, List, [], ◌∷◌, length, take, filter, slice_get, Option, None, if◌then◌else◌}
use Rattle.std.specs.Char.{is_ascii_graphic}
use Rattle.std.specs.List.{list_all, list_any, ends_with, slice_split, onto_first}
use Rattle.ld_trace.specs.declared.line.TheConstants.{LONGEST_WORD}

-- The bytes cut after each LF. Line k lies between LF number k - 1 and LF number k, here with the
-- LF that ends it; what follows the last LF is a line only where it has a byte.
abbrev pub lines : List ℕ → List (List ℕ)
lines [] = []
lines (b ∷ bytes) = if b == 10 then (b ∷ []) ∷ lines bytes else onto_first b (lines bytes)

-- the bytes, less one byte c at their end
abbrev pub less_end : ℕ → List ℕ → List ℕ
less_end c bytes = if ends_with nat_eq bytes (c ∷ []) then take (length bytes - 1) bytes else bytes

-- a line without its end: less its LF, and less one CR directly before that
abbrev pub text_of : List ℕ → List ℕ
text_of line = less_end 13 (less_end 10 line)

-- a space or a tab
abbrev pub is_blank : ℕ → Bool
is_blank b = b == 32 || b == 9

abbrev pub is_empty : List ℕ → Bool
is_empty [] = true
is_empty (b ∷ bytes) = false

-- the maximal runs of bytes other than space and tab: what lies between two blanks and isn't empty
abbrev pub fields : List ℕ → List (List ℕ)
fields text = filter (λ run. not (is_empty run)) (slice_split is_blank text)

-- the byte that the first field begins with
abbrev pub first_field_byte : List (List ℕ) → Option ℕ
first_field_byte [] = None
first_field_byte (first ∷ others) = slice_get first 0

-- a field that begins with `#`
abbrev pub begins_comment : List ℕ → Bool
begins_comment [] = false
begins_comment (b ∷ field) = b == 35

-- nothing is said by a line without fields, nor by one whose first field begins with `#`
abbrev pub says_nothing : List (List ℕ) → Bool
says_nothing [] = true
says_nothing (first ∷ others) = begins_comment first

-- a label or a task: 1 to 64 bytes from 0x21 to 0x7E
abbrev pub is_word : List ℕ → Bool
is_word field = not (is_empty field) && nat_le (length field) LONGEST_WORD && list_all is_ascii_graphic field

-- `@` and `/` stand in words and not in names
abbrev pub is_separator : ℕ → Bool
is_separator b = b == 64 || b == 47

-- a name is such a word without `@` and `/`
abbrev pub is_name : List ℕ → Bool
is_name field = is_word field && not (list_any is_separator field)
