-- What a format says of an event, and what a text of pages says of them.
use Rattle.std.specs.Prelude.{ℕ, ◌+◌, ◌≡◌, Bool, true, false, ◌||◌, not, ◌==◌, nat_eq, List, [], ◌∷◌, length, map, find, Option, Some, None, Result, Ok, Err, if◌then◌else◌, codes}
use Rattle.std.specs.List.{cons_option, starts_with}
use Rattle.std.specs.Str.{bytes_eq}
use Rattle.ld_pages.specs.declared.layout.Layout.{Layout}
use Rattle.ld_pages.specs.Layouts.{is_layout}
use Rattle.ld_layout.specs.declared.fault.Fault.{Fault}
use Rattle.ld_layout.specs.declared.fault.Fault.TheVariants as faults
use Rattle.ld_layout.specs.declared.fault.Part.{Part}
use Rattle.ld_layout.specs.declared.fault.Part.TheVariants as parts
use Rattle.ld_layout.specs.declared.fault.ReadError.{ReadError}
use Rattle.ld_layout.specs.declared.fault.ReadError.TheVariants as errors
use Rattle.ld_layout.specs.declared.fault.Wrong.{Wrong}
use Rattle.ld_layout.specs.declared.fault.Wrong.TheVariants as wrongs
use Rattle.ld_layout.specs.declared.format.Format.{Format}
use Rattle.ld_layout.specs.Lines.{◌>>=◌, lines, number, tail_of}
use Rattle.ld_layout.specs.Fields.{PlainField, field_said, is_name, plain}

-- What a function answers, seen by view, is what the text says, unless memory ran out.
abbrev pub Fails : {Y : Type 0} → ReadError → Result Y Fault → Type 0
Fails errors.Memory said = Unit {0}
Fails (errors.Fault f) said = said ≡ Err f

abbrev pub Gives : {X Y : Type 0} → (X → Y) → Result X ReadError → Result Y Fault → Type 0
Gives view (Ok x) said = said ≡ Ok (view x)
Gives view (Err e) said = Fails e said

-- what the line with this number says
abbrev pub at_line : {A : Type 0} → ℕ → Result A Wrong → Result A Fault
at_line n (Ok x) = Ok x
at_line n (Err wrong) = Err (faults.Line n wrong)

-- the field of the line with this number; none of an empty line
unfoldable pub line_said : ℕ → List ℕ → Result (Option PlainField) Fault
line_said n line = if length line == 0 then Ok None else (at_line n (field_said line) >>= λ f. Ok (Some f))

abbrev pub is_print : List ℕ → Bool
is_print line = starts_with nat_eq line (codes "print fmt: ")

-- The fields of lines, the first of which has this number, up to one that begins with `print fmt: `, and whether
-- there is one.
unfoldable pub fields_from : ℕ → List (List ℕ) → Result (List PlainField × Bool) Fault
fields_from n [] = Ok ([], false)
fields_from n (line ∷ rest) =
    if is_print line then Ok ([], true)
    else (line_said n line >>= λ f. fields_from (n + 1) rest >>= λ fs. Ok (cons_option f fs.0, fs.1))

-- what stands behind the key of the first line, which has this number, and the other lines
abbrev pub headed : ℕ → List (List ℕ) → List ℕ → Wrong → Result (List ℕ × List (List ℕ)) Fault
headed n [] key wrong = Err (faults.Line n wrong)
headed n (line ∷ rest) key wrong = at_line n (tail_of line key wrong) >>= λ tail. Ok (tail, rest)

-- a format without where it lies in memory
pub record PlainFormat : Type 0 where
  pub name : List ℕ
  pub id : ℕ
  pub fields : List PlainField

abbrev pub plain_format : Format → PlainFormat
plain_format f = record { name = f.name.now; id = f.id; fields = map plain f.fields.items }

-- What a format says: `name: NAME`, `ID: NUMBER`, `format:`, its fields, and `print fmt: ` with what follows.
unfoldable pub format_said : List ℕ → Result PlainFormat Fault
format_said text = do
  name ← headed 1 (lines text) (codes "name: ") wrongs.Name
  is_named ← if is_name name.0 then Ok true else Err (faults.Line 1 wrongs.Name)
  id ← headed 2 name.1 (codes "ID: ") wrongs.Id
  id_number ← at_line 2 (number id.0)
  heading ← headed 3 id.1 (codes "format:") wrongs.Heading
  is_bare ← if length heading.0 == 0 then Ok true else Err (faults.Line 3 wrongs.Heading)
  fields ← fields_from 4 heading.1
  if fields.1 then Ok (record { name = name.0; id = id_number; fields = fields.0 }) else Err faults.Ends

-- the field of this name, the first one if there are several
abbrev pub field_named : List ℕ → List PlainField → Option PlainField
field_named name fields = find (λ f. bytes_eq f.name name) fields

-- a field, or the fault that there is none for this part of a page
abbrev pub found : Part → Option PlainField → Result PlainField Fault
found part (Some field) = Ok field
found part None = Err (faults.Missing part)

-- the field that tells of a part of a page
abbrev pub part_said : Part → List ℕ → List PlainField → Result PlainField Fault
part_said part name fields = found part (field_named name fields)

-- the layout of pages whose parts these fields are
abbrev pub layout_by : PlainField → PlainField → PlainField → Layout
layout_by stamp commit contents = record {
  stamp = stamp.offset;
  commit = commit.offset;
  word = commit.size;
  «data» = contents.offset;
  size = contents.offset + contents.size;
}

-- the same, if a kernel's pages can have it
abbrev pub possible_layout : PlainField → PlainField → PlainField → Result Layout Fault
possible_layout stamp commit contents =
    if not (stamp.size == 8) then Err (faults.Size parts.Timestamp)
    else if not (commit.size == 4 || commit.size == 8) then Err (faults.Size parts.Commit)
    else if is_layout (layout_by stamp commit contents) then Ok (layout_by stamp commit contents)
    else Err faults.Impossible

-- what the fields of a text of pages say
unfoldable pub parts_said : List PlainField → Result Layout Fault
parts_said fields = do
  stamp ← part_said parts.Timestamp (codes "timestamp") fields
  commit ← part_said parts.Commit (codes "commit") fields
  contents ← part_said parts.Contents (codes "data") fields
  possible_layout stamp commit contents

-- What a text of pages says: a field for each part of a page.
unfoldable pub pages_said : List ℕ → Result Layout Fault
pages_said text = do
  fields ← fields_from 1 (lines text)
  if fields.1 then Err faults.Printed else parts_said fields.0
