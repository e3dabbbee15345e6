-- What is left of what was left: files may be reduced a few at a time.
use Rattle.std.specs.Prelude.{◌≡◌, ◌<◌, ◌⊎◌, ℕ, ◌+◌, Bool, List, [], ◌++◌, All, length, map}
use Rattle.std.specs.List.{prefix_len}
use Rattle.ld_trace.specs.Lines.{lines}
use Rattle.ld_trace.specs.Sources.{PlainSource, is_other, sources}
use Rattle.ld_origin.specs.Origin.{PlainHome, marked}
use Rattle.ld_reduce.specs.Reduced.{HaveHomes, IsReduced}
use Rattle.ld_reduce.specs.Written.{IsTrace}

-- a trace as it stands so many traces and lines further
abbrev pub further : (traces lines : ℕ) → PlainSource → PlainSource
further traces lines source = record { number = source.number + traces; label = source.label; first_line = source.first_line + lines; bytes = source.bytes }

-- no line of a stream stands before its first header
abbrev pub BeginsWithHeader : List ℕ → Type 0
BeginsWithHeader bytes = prefix_len is_other (lines bytes) ≡ 0

-- The homes of these traces, of those of a text, and of others: all of them are known, or none is.
abbrev pub AreKnown : (homes : List PlainHome) → List PlainSource → (own : List PlainHome) → List ℕ → (others : List PlainHome) → Type 0
AreKnown homes all own text others =
    ((homes ≡ []) × (own ≡ []) × (others ≡ []))
    ⊎ (HaveHomes homes all × (length own ≡ length (sources text)))

-- With another stream behind it, the text is reduced to the same bytes as the traces with the traces of that stream behind
-- them, wherever these are counted from.
abbrev pub IsLeft : Bool → List PlainHome → List PlainSource → List ℕ → Type 0
IsLeft keep_refused homes all text =
    (own others : List PlainHome) (more again : List ℕ) (traces lines : ℕ)
    → All IsTrace (sources more) → BeginsWithHeader more → AreKnown homes all own text others → All (λ source. source.number < traces) all
    → IsReduced keep_refused (map (marked (own ++ others)) (sources (text ++ more))) again
    → IsReduced keep_refused (map (marked homes) all ++ map (further traces lines) (map (marked others) (sources more))) again
