-- The sections of a stream, and its fault.
use Rattle.std.specs.Prelude.{◌≡◌, ℕ, ◌+◌, ◌<◌, ◌≤◌, Bool, false, not, ◌==◌, nat_lt, List, [], ◌∷◌, length, take, drop, count_by, slice_get}
use Rattle.std.specs.Prelude.{slice_index_or, Option, Some, None, is_some, unwrap_or, if◌then◌else◌, codes, IsTrue}
use Rattle.std.specs.List.{concat, filter_map, enumerate_from, take_while}
use Rattle.std.specs.Str.{bytes_eq}
use Rattle.ld_trace.specs.declared.source.Source.{Source}
use Rattle.ld_trace.specs.declared.source.StreamFault.{StreamFault}
use Rattle.ld_trace.specs.declared.source.StreamFault.TheVariants.{TooLong, NoHeader, BadHeader, TooManyTraces}
use Rattle.ld_trace.specs.declared.source.TheConstants.{LONGEST_STREAM, MOST_TRACES}
use Rattle.ld_trace.specs.Lines.{lines, text_of, fields, says_nothing, is_word}

-- a source without where it lies in memory
pub record PlainSource : Type 0 where
  pub number : ℕ
  pub label : List ℕ
  pub first_line : ℕ
  pub bytes : List ℕ

abbrev pub plain : Source → PlainSource
plain source = record { number = source.number; label = source.name.now; first_line = source.first_line; bytes = source.bytes.now }

-- a line is a header where its first field is exactly `trace`
abbrev pub begins_trace : List (List ℕ) → Bool
begins_trace [] = false
begins_trace (first ∷ others) = bytes_eq first (codes "trace")

-- the label of a well formed header: two fields, the second of them a label
abbrev pub label_of : List (List ℕ) → Option (List ℕ)
label_of [] = None
label_of (first ∷ []) = None
label_of (first ∷ label ∷ []) = if is_word label then Some label else None
label_of (first ∷ label ∷ third ∷ others) = None

-- the fields of a line
abbrev pub fields_of : List ℕ → List (List ℕ)
fields_of line = fields (text_of line)

abbrev pub is_header : List ℕ → Bool
is_header line = begins_trace (fields_of line)

-- a line that is no header
abbrev pub is_other : List ℕ → Bool
is_other line = not (is_header line)

-- how many headers stand before place i of the lines
abbrev pub headers_before : List (List ℕ) → ℕ → ℕ
headers_before all i = count_by is_header (take i all)

-- The section that the header at place i opens, where places count from 0 and lines from 1: it ends
-- before the next header or at the end of the lines. (Behind a header that isn't well formed the label
-- is empty; the stream has a fault then.)
abbrev pub section_at : List (List ℕ) → ℕ → PlainSource
section_at all i = record {
  number = headers_before all i;
  label = unwrap_or (label_of (fields_of (slice_index_or all i []))) [];
  first_line = i + 2;
  bytes = concat (take_while is_other (drop (i + 1) all));
}

-- the section that opens at place i, if this line is a header
abbrev pub opened_at : List (List ℕ) → ℕ → List ℕ → Option PlainSource
opened_at all i line = if is_header line then Some (section_at all i) else None

-- the sections of lines, in order
abbrev pub sections : List (List ℕ) → List PlainSource
sections all = filter_map (λ p. opened_at all p.0 p.1) (enumerate_from 0 all)

-- the sources of a stream
abbrev pub sources : List ℕ → List PlainSource
sources bytes = sections (lines bytes)

-- The fault of this line at place i: it says something and stands before every header; or it is a
-- header and no well formed one; or it is the first header too many.
abbrev pub fault_at : List (List ℕ) → ℕ → List ℕ → Option StreamFault
fault_at all i line =
    if says_nothing (fields_of line) then None
    else if is_header line then
    (if is_some (label_of (fields_of line)) then (if headers_before all i == MOST_TRACES then Some TooManyTraces else None)
    else Some (BadHeader (i + 1)))
    else (if headers_before all i == 0 then Some (NoHeader (i + 1)) else None)

-- the faults of the lines, in order
abbrev pub line_faults : List (List ℕ) → List StreamFault
line_faults all = filter_map (λ p. fault_at all p.0 p.1) (enumerate_from 0 all)

-- the stream's fault: `TooLong`, else that of the least line that has one
abbrev pub stream_fault : List ℕ → Option StreamFault
stream_fault bytes = if nat_lt LONGEST_STREAM (length bytes) then Some TooLong else slice_get (line_faults (lines bytes)) 0

-- each has its place as its number
abbrev pub AreNumbered : List PlainSource → Type 0
AreNumbered sources = (k : ℕ) (d : PlainSource) → k < length sources → (slice_index_or sources k d).number ≡ k

-- what each source of a stream meets
pub record Fits (source : PlainSource) : Type 0 where
  pub number : source.number < MOST_TRACES
  pub label : IsTrue (is_word source.label)
  pub from_line : 2 ≤ source.first_line
  pub to_line : source.first_line ≤ LONGEST_STREAM + 1
  pub bytes : length source.bytes ≤ LONGEST_STREAM
