-- The front of some bytes, as the functions that read it see it. No promise cites this file.
use Rattle.std.specs.Prelude.{◌≡◌, ℕ, ◌<◌, ◌≤◌, Bool, ◌&&◌, not, List, [], ◌∷◌, length, map, take}
use Rattle.std.specs.Char.{is_ascii_graphic}
use Rattle.std.specs.Simd.Lanes.{mask_l}
use Rattle.ld_trace.specs.declared.front.Ends.{Ends}
use Rattle.ld_trace.specs.declared.front.TheConstants.{LANES}
use Rattle.ld_trace.specs.declared.line.TheConstants.{LONGEST_WORD}
use Rattle.ld_trace.specs.Lines.{is_separator}

-- a byte that stands in names
abbrev pub in_name : ℕ → Bool
in_name b = is_ascii_graphic b && not (is_separator b)

-- these are so many bytes from the front, as many as a word may have
pub record IsFront (bytes : List ℕ) (len : ℕ) (front : List ℕ) : Type 0 where
  pub is : front ≡ take len bytes
  pub long : length front ≡ len
  pub some : 0 < len
  pub few : len ≤ LONGEST_WORD

-- the bits say of the first bytes, as many as were seen, which of them stand in no word, and which in no name
pub record AreEnds (bytes : List ℕ) (ends : Ends) : Type 0 where
  pub few : ends.seen ≤ LANES
  pub within : ends.seen ≤ length bytes
  pub words : ends.words ≡ mask_l (map (λ b. not (is_ascii_graphic b)) (take ends.seen bytes))
  pub names : ends.names ≡ mask_l (map (λ b. not (in_name b)) (take ends.seen bytes))
