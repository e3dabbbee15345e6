-- How a line begins that a fault names.
use Rattle.std.specs.Prelude.{◌≡◌, ◌⊎◌, ℕ, ◌-◌, List, [], ◌∷◌, nat_lt, take, if◌then◌else◌}
use Rattle.ld_trace.specs.Lines.{lines, text_of}
use Rattle.ld_files.specs.declared.looks.TheConstants.{MOST_SHOWN}
use Rattle.ld_files.specs.declared.quote.Quote.{Quote}
use Rattle.ld_files.specs.declared.fault.Fault.{Fault}
use Rattle.ld_files.specs.declared.fault.Fault.TheVariants.{BadHeader, BadHeaderQuoted, UnknownLine, UnknownLineQuoted}

-- of these lines that of this number, from 1, without its end; empty if there is none
abbrev pub line_at : List (List ℕ) → ℕ → List ℕ
line_at [] number = []
line_at (line ∷ rest) number = if nat_lt 1 number then line_at rest (number - 1) else text_of line

-- the line of this number of these bytes begins so
abbrev pub IsFrontOf : List ℕ → ℕ → Quote → Type 0
IsFrontOf bytes line quote = quote.bytes.items ≡ take MOST_SHOWN (line_at (lines bytes) line)

-- a fault that names a line is told with that line's front
abbrev pub IsWithLine : List ℕ → Fault → Fault → Type 0
IsWithLine bytes (BadHeader name line) told = (quote : Quote) × (told ≡ BadHeaderQuoted name line quote) × IsFrontOf bytes line quote
IsWithLine bytes (UnknownLine name line) told = (quote : Quote) × (told ≡ UnknownLineQuoted name line quote) × IsFrontOf bytes line quote
IsWithLine bytes fault told = ⊥

-- a fault is told as it is, or with its line of these bytes
abbrev pub IsQuoted : List ℕ → Fault → Fault → Type 0
IsQuoted bytes fault told = (told ≡ fault) ⊎ IsWithLine bytes fault told
