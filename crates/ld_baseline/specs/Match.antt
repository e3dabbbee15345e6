-- Names that a pattern matches. In a pattern each `*` stands for any bytes, also for none.
use Rattle.std.specs.Prelude.{ℕ, Bool, false, ◌&&◌, ◌||◌, ◌==◌, List, [], ◌∷◌, if◌then◌else◌}
use Rattle.std.specs.List.{list_any}
use Rattle.std.specs.Str.{bytes_eq}
use Rattle.ld_trace.specs.Lines.{is_empty}
use Rattle.ld_baseline.specs.Said.{PlainSaid}

abbrev pub is_star : ℕ → Bool
is_star b = b == 42

-- the text begins with this byte, and what stands behind it passes
abbrev pub begins : ℕ → (List ℕ → Bool) → List ℕ → Bool
begins b passes [] = false
begins b passes (c ∷ text) = b == c && passes text

-- some end of the text passes: the whole text, a shorter end, or the empty one
abbrev pub some_end : (List ℕ → Bool) → List ℕ → Bool
some_end passes [] = passes []
some_end passes (b ∷ text) = passes (b ∷ text) || some_end passes text

-- The whole name matches. Behind a `*` some end of the name has to match what is left of the pattern; any other
-- byte has to be the name's.
abbrev pub is_match : (pattern name : List ℕ) → Bool
is_match [] name = is_empty name
is_match (b ∷ pattern) name = if is_star b then some_end (is_match pattern) name else begins b (is_match pattern) name

-- a known line matches what is said: kind and state are the same, and its classes match
abbrev pub matches : (known said : PlainSaid) → Bool
matches known said =
    bytes_eq known.kind said.kind
    && (bytes_eq known.state said.state && (is_match known.from said.from && is_match known.to said.to))

-- a `*` stands in a name of what is said
abbrev pub has_star : PlainSaid → Bool
has_star said = list_any is_star said.from || list_any is_star said.to
