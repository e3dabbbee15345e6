-- Where a line of a stream is shown: where its trace says that it comes from, or else where it stands in the files.
use Rattle.std.specs.Prelude.{◌≡◌, ◌<◌, ◌≤◌, ◌⊎◌, ℕ, ◌+◌, ◌-◌, ◌^◌, Bool, true, false, ◌==◌, nat_lt, List, [], length, slice_index_or, Option, None, Some, if◌then◌else◌}
use Rattle.std.specs.Char.{is_ascii_digit, is_ascii_graphic}
use Rattle.std.specs.List.{list_all}
use Rattle.std.specs.Option.{is_some, option_map}
use Rattle.std.specs.Str.Parse.{digits_value}
use Rattle.ld_trace.specs.Lines.{is_empty}
use Rattle.ld_trace.specs.Sources.{PlainSource}
use Rattle.ld_origin.specs.Origin.{PlainOrigin, origin_of}
use Rattle.ld_places.specs.Places.{IsPlace, PlainFile, PlainPlace}

-- a number, if it is below a bound
abbrev pub below : (bound number : ℕ) → Option ℕ
below bound number = if nat_lt number bound then Some number else None

-- a line of a file
abbrev pub in_file : List ℕ → ℕ → PlainPlace
in_file file own = record { file = file; line = own }

-- What the line behind a header says of a line of its trace, where `first_line` is its own: FILE and LINE are the
-- header's, and each line behind it is one further. It stands in no file itself, and so it says nothing of itself;
-- nor of a line whose number isn't below 2^64.
abbrev pub place_from : Option PlainOrigin → (first_line line : ℕ) → Option PlainPlace
place_from None first_line line = None
place_from (Some origin) first_line line =
    if line == first_line then None
    else option_map (in_file origin.file) (below (2 ^ 64) (digits_value 10 origin.line + (line - first_line)))

-- the place that a trace says of a line of it
abbrev pub said_place : PlainSource → ℕ → Option PlainPlace
said_place source line = place_from (origin_of source.bytes) source.first_line line

-- what stands for the trace at a place past the end
abbrev pub no_source : PlainSource
no_source = record { number = 0; label = []; first_line = 0; bytes = [] }

-- the trace at a place
abbrev pub source_at : List PlainSource → ℕ → PlainSource
source_at sources at = slice_index_or sources at no_source

-- A line is one of the trace at `at`: it stands at the header or behind it, and before the next header. The header is the
-- line before the first one.
pub record IsInTrace (sources : List PlainSource) (line at : ℕ) : Type 0 where
  pub within : at < length sources
  pub behind : (source_at sources at).first_line - 1 ≤ line
  pub before : at + 1 < length sources → line < (source_at sources (at + 1)).first_line - 1

-- a line stands before every header
abbrev pub IsBeforeTraces : List PlainSource → ℕ → Type 0
IsBeforeTraces sources line = 0 < length sources → line < (source_at sources 0).first_line - 1

-- the traces say this of a line, which may be nothing: what its own trace says
abbrev pub IsSaidOf : List PlainSource → ℕ → Option PlainPlace → Type 0
IsSaidOf sources line said =
    (IsBeforeTraces sources line × (said ≡ None))
    ⊎ ((at : ℕ) × (IsInTrace sources line at × (said ≡ said_place (source_at sources at) line)))

-- A line of these files is shown at this place: where its trace says, or else where it stands in the files.
abbrev pub IsShownAt : List PlainFile → List PlainSource → ℕ → PlainPlace → Type 0
IsShownAt files sources line place =
    IsSaidOf sources line (Some place) ⊎ (IsSaidOf sources line None × IsPlace files line place)

-- a trace says where it comes from
abbrev pub has_origin : PlainSource → Bool
has_origin source = is_some (origin_of source.bytes)

-- The rest is what the code knows.

-- what a line can say: FILE has graphic bytes alone, and LINE has digits alone, one at least
pub record IsSaid (origin : PlainOrigin) : Type 0 where
  pub file : list_all is_ascii_graphic origin.file ≡ true
  pub some : is_empty origin.line ≡ false
  pub digits : list_all is_ascii_digit origin.line ≡ true
