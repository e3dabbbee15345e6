-- What is left of a stream's lines, as the functions that cut it see it. No public contract cites this
-- file.
use Rattle.std.specs.Prelude.{◌≡◌, ℕ, ◌+◌, ◌<◌, ◌≤◌, Bool, true, false, ◌||◌, ◌==◌, List, ◌∷◌, ◌++◌, length, drop, take, slice_index_or, Option}
use Rattle.std.specs.List.{concat, filter_map, enumerate_from, prefix_len}
use Rattle.ld_trace.specs.Lines.{lines}
use Rattle.ld_trace.specs.Sources.{fault_at, fields_of, is_other, label_of, line_faults}

-- what the lines from place k on give, each with its place
abbrev pub given_from : {Y : Type 0} → (ℕ → List ℕ → Option Y) → List (List ℕ) → ℕ → List Y
given_from f all k = filter_map (λ p. f p.0 p.1) (enumerate_from k (drop k all))

-- The lines before place k have no fault, what is left begins at that place, and with a header if
-- there is one.
pub record IsCutAt (all : List (List ℕ)) (k : ℕ) (rest : List ℕ) : Type 0 where
  pub left : lines rest ≡ drop k all
  pub faults : line_faults all ≡ given_from (fault_at all) all k
  pub at_header : prefix_len is_other (lines rest) ≡ 0

-- These many lines at the front of the bytes are no headers, and the rest stands behind them.
pub record AreSkipped (bytes : List ℕ) (count : ℕ) (rest : List ℕ) : Type 0 where
  pub cut : bytes ≡ concat (take count (lines bytes)) ++ rest
  pub left : lines rest ≡ drop count (lines bytes)
  pub others : prefix_len is_other (lines bytes) ≡ count + prefix_len is_other (lines rest)
  pub within : count + length rest ≤ length bytes

-- The first line of these bytes has this label, as far as it is a header, and the rest stands behind it.
pub record IsHead (bytes : List ℕ) (name : Option (List ℕ)) (rest : List ℕ) : Type 0 where
  pub line : List ℕ
  pub first : lines bytes ≡ line ∷ lines rest
  pub whole : bytes ≡ line ++ rest
  pub nonempty : 0 < length line
  pub label : label_of (fields_of line) ≡ name

abbrev pub is_lf : ℕ → Bool
is_lf b = b == 10

-- a line that begins with another byte is no header
abbrev pub may_begin : ℕ → Bool
may_begin b = b == 116 || b == 32 || b == 9

-- behind no LF among so many bytes at the front stands a byte that a header may begin with
abbrev pub IsQuiet : List ℕ → ℕ → Type 0
IsQuiet bytes len =
    (k : ℕ) → k < len → is_lf (slice_index_or bytes k 0) ≡ true
    → may_begin (slice_index_or bytes (k + 1) 0) ≡ false
