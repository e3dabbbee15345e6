-- What the first line of some bytes says.
use Rattle.std.specs.Prelude.{◌≡◌, ℕ, ◌<◌, List, ◌∷◌, ◌++◌, length}
use Rattle.ld_trace.specs.Lines.{lines, text_of}
use Rattle.ld_trace.specs.Events.{Said, said_by}

-- the first line of the bytes says this, and these bytes follow it
pub record IsFirstSaid (bytes : List ℕ) (said : Said) (rest : List ℕ) : Type 0 where
  pub line : List ℕ
  pub first : lines bytes ≡ line ∷ lines rest
  pub whole : bytes ≡ line ++ rest
  pub nonempty : 0 < length line
  pub says : said_by (text_of line) ≡ said
