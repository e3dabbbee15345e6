-- How the lines of a trace are cut into pieces.
use Rattle.std.specs.Prelude.{◌≡◌, ℕ, List, [], ◌∷◌, ◌++◌, take, drop}
use Rattle.std.specs.List.{concat}
use Rattle.ld_trace.specs.Lines.{lines}
use Rattle.ld_cut.specs.State.{state_in}

-- the first n lines of some bytes, and what stands behind them
abbrev pub first_lines : ℕ → List ℕ → List ℕ
first_lines n bytes = concat (take n (lines bytes))

abbrev pub behind_lines : ℕ → List ℕ → List ℕ
behind_lines n bytes = concat (drop n (lines bytes))

-- A piece is these lines of the trace with others in front of them, which carry over what the tasks are in and hold: each
-- task is after those as it is after all that stands before the piece.
pub record IsPiece (before own piece : List ℕ) : Type 0 where
  pub front : List ℕ
  pub is : piece ≡ front ++ own
  pub carried : (task : List ℕ) → state_in task front ≡ state_in task before

-- What is left of a trace behind some lines is cut into pieces: each but the last one has n lines of it, the last one all
-- that are left.
abbrev pub IsCutInto : ℕ → List ℕ → List ℕ → List (List ℕ) → Type 0
IsCutInto n before rest [] = ⊥
IsCutInto n before rest (piece ∷ []) = IsPiece before rest piece
IsCutInto n before rest (piece ∷ next ∷ others) =
    IsPiece before (first_lines n rest) piece
    × IsCutInto n (before ++ first_lines n rest) (behind_lines n rest) (next ∷ others)
