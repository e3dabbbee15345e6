-- What a stream of some traces is, and what is counted anew in it.
use Rattle.std.specs.Prelude.{◌≡◌, ℕ, ◌+◌, Bool, false, ◌||◌, List, [], ◌∷◌, ◌++◌, length, flat_map, nat_eq, codes, IsTrue, if◌then◌else◌}
use Rattle.std.specs.List.{ends_with, list_any}
use Rattle.ld_trace.specs.Lines.{lines, is_empty, is_word}
use Rattle.ld_trace.specs.Sources.{PlainSource, is_header}

-- the last line has its LF, or there is no line
abbrev pub is_ended : List ℕ → Bool
is_ended bytes = is_empty bytes || ends_with nat_eq bytes (codes "\n")

-- the bytes with an LF that ends the last line, if there is one
abbrev pub ended : List ℕ → List ℕ
ended bytes = if is_ended bytes then bytes else bytes ++ codes "\n"

-- the header of a trace of this label
abbrev pub header : List ℕ → List ℕ
header label = codes "trace " ++ label ++ codes "\n"

-- a trace as it stands in a stream
abbrev pub trace_text : PlainSource → List ℕ
trace_text source = header source.label ++ ended source.bytes

-- the stream of these traces, one behind another
abbrev pub written : List PlainSource → List ℕ
written sources = flat_map trace_text sources

-- these traces as they stand in a stream behind so many traces, which have so many lines
abbrev pub counted_from : (number line : ℕ) → List PlainSource → List PlainSource
counted_from number line [] = []
counted_from number line (source ∷ others) =
    record { number = number; label = source.label; first_line = line + 2; bytes = ended source.bytes }
    ∷ counted_from (number + 1) (line + 1 + length (lines (ended source.bytes))) others

-- these traces with their numbers and lines counted anew
abbrev pub counted_anew : List PlainSource → List PlainSource
counted_anew sources = counted_from 0 0 sources

-- what a trace of a stream meets: its label is a word, and none of its lines is a header
pub record IsTrace (source : PlainSource) : Type 0 where
  pub label : IsTrue (is_word source.label)
  pub lines : list_any is_header (lines source.bytes) ≡ false
