-- The end of a line: an LF, or a CR and an LF.
use Rattle.std.proofs.Common.{◌≡◌, ◌∙◌, ℕ, ◌<◌, Bool, true, false, List, ◌∷◌, ◌++◌, length, None, Ok, refl, ap, arith}
use Rattle.ld_trace.specs.Lines.{lines, text_of}
use Rattle.ld_trace.specs.Events.{said_by}
use Rattle.ld_trace.specs.First.{IsFirstSaid}
use Rattle.ld_trace.specs.Inner.Plain.{IsEnded, line_end}

-- it ends the first line
pub lines-end : (cr : Bool) (rest : List ℕ) → lines (line_end cr ++ rest) ≡ line_end cr ∷ lines rest
lines-end true rest = refl
lines-end false rest = refl

-- it has a byte
pub end-some : (cr : Bool) → 0 < length (line_end cr)
end-some true = omega arith
end-some false = omega arith

says-none : (cr : Bool) → said_by (text_of (line_end cr)) ≡ Ok None
says-none true = refl
says-none false = refl

-- a line that has its end alone says nothing
pub said-none : (bytes rest : List ℕ) → IsEnded bytes rest → IsFirstSaid bytes (Ok None) rest
said-none bytes rest ended = record {
  line = line_end ended.cr;
  first = ap lines ended.whole ∙ lines-end ended.cr rest;
  whole = ended.whole;
  nonempty = end-some ended.cr;
  says = says-none ended.cr;
}
