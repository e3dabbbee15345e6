-- What it means that the traces of a stream are known as far as its pieces have come.
use Rattle.std.specs.Prelude.{◌≡◌, ◌≤◌, ◌+◌, ◌++◌, ℕ, List, [], ◌∷◌, length, map}
use Rattle.std.specs.List.{prefix_len}
use Rattle.ld_trace.specs.declared.source.TheConstants.{MOST_TRACES}
use Rattle.ld_trace.specs.Lines.{lines}
use Rattle.ld_trace.specs.Sources.{PlainSource, is_other, line_faults, sources}

-- bytes that end with an LF
abbrev pub EndsLine : List ℕ → Type 0
EndsLine bytes = (front : List ℕ) × (bytes ≡ front ++ 10 ∷ [])

-- a source of some bytes, as a source of a stream in which so many traces and lines come before these bytes
abbrev pub moved : ℕ → ℕ → PlainSource → PlainSource
moved traces before source = record {
  number = source.number + traces;
  label = source.label;
  first_line = source.first_line + before;
  bytes = source.bytes;
}

-- no line of the bytes has a fault, and these are their sources
pub record IsCut (bytes : List ℕ) (told : List PlainSource) : Type 0 where
  pub faultless : line_faults (lines bytes) ≡ []
  pub same : told ≡ sources bytes

-- The piece has no fault, and these are its sources in a stream in which so many traces and lines come before it. The
-- stream has no trace too many.
pub record IsCutBehind (piece : List ℕ) (traces before : ℕ) (more : List PlainSource) : Type 0 where
  pub faultless : line_faults (lines piece) ≡ []
  pub same : more ≡ map (moved traces before) (sources piece)
  pub few : traces + length (sources piece) ≤ MOST_TRACES

-- the bytes begin with a header
abbrev pub BeginsWithHeader : List ℕ → Type 0
BeginsWithHeader bytes = prefix_len is_other (lines bytes) ≡ 0
