-- A name as it is written in a form.
use Rattle.std.specs.Prelude.{ℕ, ◌+◌, ◌/◌, ◌%◌, Bool, not, ◌&&◌, ◌||◌, ◌==◌, List, [], ◌∷◌, ◌++◌, codes, flat_map, nat_lt, if◌then◌else◌}
use Rattle.ld_escape.specs.declared.form.Form.{Form}
use Rattle.ld_escape.specs.declared.form.Form.TheVariants.{Markup, Json, Message, Property, Tap, Uri, Class, Task}
use Rattle.ld_escape.specs.Forms.{close, is_class_sign, is_control, is_graphic, is_hidden, is_marked, is_markup, is_unreserved, mark}
use Rattle.ld_escape.specs.Shown.{is_shown}

-- a digit to the base 16, in capital letters
abbrev pub digit : ℕ → ℕ
digit n = if nat_lt n 10 then 48 + n else 55 + n

-- the number of a byte by two digits
abbrev pub hex : ℕ → List ℕ
hex b = digit (b / 16) ∷ digit (b % 16) ∷ []

-- A byte of a name: a marked one by its number behind the mark, a hidden one by its number behind a backslash and an
-- `x`, and any other one as it is.
abbrev pub piece : Form → (shown : Bool) → ℕ → List ℕ
piece form shown b =
    if is_marked form shown b then mark form ++ (hex b ++ close form)
    else if is_hidden form shown b then codes "\\x" ++ hex b
    else b ∷ []

-- the bytes of a name, one after another
abbrev pub written : Form → List ℕ → List ℕ
written form name = flat_map (piece form (is_shown name)) name

-- A byte that what is written may have. HTML and XML: none of `<`, `>`, both quotes. JSON: neither these nor `&`. A
-- property: neither `:` nor `,`. TAP: neither `#` nor a backslash. All: no end of a line, and no other
-- control byte. A class or a task: no blank and no byte beyond ASCII; a class none of `@`, `/`, `!` and `#`.
abbrev pub may_stand : Form → ℕ → Bool
may_stand Markup b = b == 38 || (not (is_markup b) && not (is_control b))
may_stand Json b = not (is_markup b) && not (is_control b)
may_stand Message b = not (is_control b)
may_stand Property b = not (b == 58) && not (b == 44) && not (is_control b)
may_stand Tap b = not (b == 35) && not (b == 92) && not (is_control b)
may_stand Uri b = b == 37 || is_unreserved b
may_stand Class b = is_graphic b && (b == 37 || not (is_class_sign b))
may_stand Task b = is_graphic b

-- the byte that begins a mark
abbrev pub is_lead : Form → ℕ → Bool
is_lead Markup b = b == 38
is_lead Json b = b == 92
is_lead Message b = b == 37
is_lead Property b = b == 37
is_lead Tap b = b == 37
is_lead Uri b = b == 37
is_lead Class b = b == 37
is_lead Task b = b == 37
