-- A text in colours: lines with what a terminal takes for the begin and the end of a colour, and doesn't show.
use Rattle.std.specs.Prelude.{ℕ, Bool, ◌==◌, List, [], ◌∷◌, ◌++◌, codes, if◌then◌else◌}
use Rattle.std.specs.List.{prefix_len}
use Rattle.ld_trace.specs.Lines.{is_empty, text_of}

-- a space
abbrev pub is_space : ℕ → Bool
is_space byte = byte == 32

-- what begins the colour of a line by the spaces that it begins with: none stand before a heading, which is bold, and
-- two before a part below it, which is cyan
abbrev pub mark_at : ℕ → List ℕ
mark_at spaces = if spaces == 0 then 27 ∷ codes "[1m" else if spaces == 2 then 27 ∷ codes "[36m" else []

-- the same by the text of a line; an empty one has no colour
abbrev pub mark_of : List ℕ → List ℕ
mark_of text = if is_empty text then [] else mark_at (prefix_len is_space text)

-- a line in its colour, which ends behind the line; one without a colour as it is
abbrev pub styled : List ℕ → List ℕ
styled line = mark_of (text_of line) ++ (line ++ (if is_empty (mark_of (text_of line)) then [] else 27 ∷ codes "[0m"))
