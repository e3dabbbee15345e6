-- What is written of the traces that show a dependency. Each line ends with LF.
use Rattle.std.specs.Prelude.{◌++◌, List, ℕ, codes, decimal}
use Rattle.ld_rules.specs.Dependency.{Dependency}
use Rattle.ld_occurrences.specs.Named.{spelling}

-- `A -> B traces N`
abbrev pub head_line : Dependency → ℕ → List ℕ
head_line what traces = spelling what.from ++ codes " -> " ++ spelling what.to ++ codes " traces " ++ decimal traces ++ codes "\n"

-- `  lines N at `
abbrev pub count_text : ℕ → List ℕ
count_text lines = codes "  lines " ++ decimal lines ++ codes " at "

-- ` FILE:LINE`
abbrev pub place_text : List ℕ → ℕ → List ℕ
place_text file line = codes " " ++ file ++ codes ":" ++ decimal line ++ codes "\n"

-- `  lines N at LABEL FILE:LINE`
abbrev pub occurrence_line : (lines : ℕ) (label file : List ℕ) (line : ℕ) → List ℕ
occurrence_line lines label file line =
    count_text lines ++ label ++ place_text file line
