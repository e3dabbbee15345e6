-- A field, as a line says it: `field:TYPE NAME`, `offset:N`, `size:N` and `signed:0` or `signed:1`, each behind a tab
-- and before a `;`.
use Rattle.std.specs.Prelude.{ℕ, Bool, true, false, ◌&&◌, ◌||◌, not, ◌==◌, nat_eq, List, ◌∷◌, length, Result, Ok, Err, if◌then◌else◌, codes}
use Rattle.std.specs.Char.{is_ascii_alphanumeric}
use Rattle.std.specs.List.{list_all, list_any, starts_with, ends_with, before_first}
use Rattle.std.specs.Str.{bytes_eq}
use Rattle.ld_layout.specs.declared.fault.Wrong.{Wrong}
use Rattle.ld_layout.specs.declared.fault.Wrong.TheVariants as wrongs
use Rattle.ld_layout.specs.declared.field.Field.{Field}
use Rattle.ld_layout.specs.declared.field.Shape.{Shape}
use Rattle.ld_layout.specs.declared.field.Shape.TheVariants as shapes
use Rattle.ld_layout.specs.Lines.{◌>>=◌, last_word, number, value}

-- a field without where its name lies in memory
pub record PlainField : Type 0 where
  pub name : List ℕ
  pub shape : Shape
  pub offset : ℕ
  pub size : ℕ
  pub is_signed : Bool

abbrev pub plain : Field → PlainField
plain f = record { name = f.name.now; shape = f.shape; offset = f.offset; size = f.size; is_signed = f.is_signed }

abbrev pub is_bracket : ℕ → Bool
is_bracket b = b == 91

-- a letter, a digit or `_`
abbrev pub is_name_byte : ℕ → Bool
is_name_byte b = is_ascii_alphanumeric b || b == 95

abbrev pub is_name : List ℕ → Bool
is_name text = not (length text == 0) && list_all is_name_byte text

-- The name that a declaration has: its last word, up to a bracket. A word with a bracket ends with one.
abbrev pub named : List ℕ → Result (List ℕ) Wrong
named declared =
    let word = last_word declared in
    if not (is_name (before_first is_bracket word)) || (list_any is_bracket word && not (ends_with nat_eq word (codes "]"))) then Err wrongs.Declaration
    else Ok (before_first is_bracket word)

-- what stands in the place of a field that is declared so
abbrev pub shape_of : List ℕ → Shape
shape_of declared =
    if starts_with nat_eq declared (codes "__data_loc ") then shapes.Located
    else if starts_with nat_eq declared (codes "__rel_loc ") then shapes.Relative
    else if list_any is_bracket (last_word declared) then shapes.Array
    else shapes.Plain

-- whether a number has a sign: `1` or `0`
abbrev pub sign : List ℕ → Result Bool Wrong
sign text =
    if bytes_eq text (codes "0") then Ok false
    else if bytes_eq text (codes "1") then Ok true
    else Err wrongs.Sign

-- the field with these parts of a line
unfoldable pub made : List ℕ → List ℕ → List ℕ → List ℕ → Result PlainField Wrong
made declared offset size signed = do
  name ← named declared
  offset ← number offset
  size ← number size
  is_signed ← sign signed
  Ok (record { name = name; shape = shape_of declared; offset = offset; size = size; is_signed = is_signed })

-- the field that a line says
unfoldable pub field_said : List ℕ → Result PlainField Wrong
field_said line = do
  declared ← value line (9 ∷ codes "field:")
  offset ← value declared.1 (9 ∷ codes "offset:")
  size ← value offset.1 (9 ∷ codes "size:")
  signed ← value size.1 (9 ∷ codes "signed:")
  if length signed.1 == 0 then made declared.0 offset.0 size.0 signed.0 else Err wrongs.Field
