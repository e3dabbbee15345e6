-- What whole transfers do to the bytes that an input has left and an output holds, where these
-- are known.
use Rattle.std.specs.Prelude.{ℕ, List, Bool, true, ◌≡◌, ◌≤◌, ◌⊎◌, length, take, Option}
use Rattle.std.specs.Io.KnownBytes.{Appends, Consumes, IsAtEnd}
use Rattle.ld_io.specs.declared.transfer.TheConstants.{MOST_READ}

-- known bytes grow by a first part of the text, which may be none or all of it
abbrev pub AppendsPart : Option (List ℕ) → Option (List ℕ) → List ℕ → Type 0
AppendsPart old new text = (k : ℕ) × Appends old new (take k text)

-- known bytes begin with at most so many bytes, and lose them
abbrev pub ConsumesAtMost : Option (List ℕ) → Option (List ℕ) → ℕ → Type 0
ConsumesAtMost old new most = (bytes : List ℕ) × Consumes old new bytes × (length bytes ≤ most)

-- These bytes were read of an input: known bytes begin with them and lose them, and there are as many
-- as are ever read, or the input has ended and has no known byte left.
pub record ReadsWhole (old new : Option (List ℕ)) (has_ended : Bool) (bytes : List ℕ) : Type 0 where
  pub consumed : Consumes old new bytes
  pub whole : (length bytes ≡ MOST_READ) ⊎ ((has_ended ≡ true) × IsAtEnd new)
