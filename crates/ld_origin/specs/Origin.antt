-- Where a trace comes from, as the line behind its header may say: `# from FILE LINE`.
use Rattle.std.specs.Prelude.{ℕ, ◌+◌, ◌-◌, ◌/◌, ◌%◌, Bool, ◌&&◌, not, ◌==◌, nat_eq, nat_lt, List, [], ◌∷◌, ◌++◌, codes, decimal, drop, flat_map, map, slice_get, Option, None, Some, if◌then◌else◌}
use Rattle.std.specs.Char.{is_ascii_digit, is_ascii_graphic}
use Rattle.std.specs.List.{after_first, before_first, list_all, starts_with}
use Rattle.ld_trace.specs.Lines.{is_empty, lines, text_of}
use Rattle.ld_trace.specs.Sources.{PlainSource}
use Rattle.ld_origin.specs.declared.origin.Home.{Home}
use Rattle.ld_origin.specs.declared.origin.Origin.{Origin}

-- where a header stands: a line of a file, counted from 1
pub record PlainHome : Type 0 where
  pub file : List ℕ
  pub line : ℕ

abbrev pub plain_home : Home → PlainHome
plain_home home = record { file = home.file.now; line = home.line }

-- the same as a trace says it: the name of the file as it is spelled, and the digits of the line
pub record PlainOrigin : Type 0 where
  pub file : List ℕ
  pub line : List ℕ

abbrev pub plain_origin : Origin → PlainOrigin
plain_origin origin = record { file = origin.file.now; line = origin.line.now }

-- a space
abbrev pub is_space : ℕ → Bool
is_space byte = byte == 32

-- what stands behind `# from `, where it is `FILE LINE`: FILE has graphic bytes alone, and LINE digits
abbrev pub said_behind : List ℕ → Option PlainOrigin
said_behind said =
    let file = before_first is_space said in
    let line = after_first is_space said in
    if list_all is_ascii_graphic file && (not (is_empty line) && list_all is_ascii_digit line) then Some (record { file = file; line = line }) else None

-- what a line says, without its end, where it is `# from FILE LINE`
abbrev pub origin_said : List ℕ → Option PlainOrigin
origin_said text = if starts_with nat_eq text (codes "# from ") then said_behind (drop 7 text) else None

-- what the first of some texts of lines says
abbrev pub origin_by : List (List ℕ) → Option PlainOrigin
origin_by [] = None
origin_by (first ∷ others) = origin_said first

-- where a trace comes from, as the line behind its header says
abbrev pub origin_of : List ℕ → Option PlainOrigin
origin_of bytes = origin_by (map text_of (lines bytes))

-- a digit of a number of base 16
abbrev pub hex_digit : ℕ → ℕ
hex_digit number = if nat_lt (number % 16) 10 then 48 + number % 16 else 55 + number % 16

-- a byte of a name as it is spelled: itself where it is graphic and no `%`, else `%` and its two digits of base 16
abbrev pub spelled_byte : ℕ → List ℕ
spelled_byte byte =
    if is_ascii_graphic byte && not (byte == 37) then byte ∷ []
    else 37 ∷ hex_digit (byte / 16) ∷ hex_digit byte ∷ []

abbrev pub spelled : List ℕ → List ℕ
spelled name = flat_map spelled_byte name

-- where a header stands, as its trace is to say it
abbrev pub origin_from : PlainHome → PlainOrigin
origin_from home = record { file = spelled home.file; line = decimal home.line }

-- the line that says it
abbrev pub origin_line : PlainOrigin → List ℕ
origin_line origin = codes "# from " ++ (origin.file ++ (codes " " ++ (origin.line ++ codes "\n")))

-- the line that says such a home, if there is one
abbrev pub mark_of : Option PlainHome → List ℕ
mark_of None = []
mark_of (Some home) = origin_line (origin_from home)

-- what a trace lacks: where its header stands, if the homes of traces, by their numbers, have it and the trace doesn't
-- say where it comes from
abbrev pub lacking : Option PlainHome → Option PlainOrigin → Option PlainHome
lacking home (Some origin) = None
lacking home None = home

-- the trace with such a line in front of its lines, which keep their numbers
abbrev pub marked_with : Option PlainHome → PlainSource → PlainSource
marked_with None source = source
marked_with (Some home) source =
    record { number = source.number; label = source.label; first_line = source.first_line - 1; bytes = origin_line (origin_from home) ++ source.bytes }

-- the trace that says where it comes from: as it does already, or else where its header stands, if that is known
abbrev pub marked : List PlainHome → PlainSource → PlainSource
marked homes source = marked_with (lacking (slice_get homes source.number) (origin_of source.bytes)) source
