-- A text of any bytes, as it can't control a terminal or end a line.
use Rattle.std.specs.Prelude.{ℕ, ◌/◌, ◌%◌, ◌+◌, Bool, not, ◌&&◌, ◌||◌, ◌==◌, List, [], ◌∷◌, ◌++◌, codes, flat_map, map, nat_lt, if◌then◌else◌}
use Rattle.ld_escape.specs.Forms.{is_control, is_foreign}
use Rattle.ld_escape.specs.Shown.{is_shown}

-- a byte that shows something: no control byte of ASCII, and one beyond ASCII if the whole text is shown
abbrev pub is_visible : (shown : Bool) → ℕ → Bool
is_visible shown b = not (is_control b) && not (is_foreign shown b)

-- a digit to the base 16, in small letters
abbrev pub small_digit : ℕ → ℕ
small_digit n = if nat_lt n 10 then 48 + n else 87 + n

-- a byte of a text: a tab and what shows something as it is, any other one by a backslash, an `x` and its number
abbrev pub visible_byte : (shown : Bool) → ℕ → List ℕ
visible_byte shown b =
    if b == 9 || is_visible shown b then b ∷ []
    else codes "\\x" ++ (small_digit (b / 16) ∷ small_digit (b % 16) ∷ [])

-- the bytes of a text, one after another
abbrev pub visible : List ℕ → List ℕ
visible text = flat_map (visible_byte (is_shown text)) text

-- a byte of a name: what shows something as it is, and `?` for any other one
abbrev pub on_line_byte : (shown : Bool) → ℕ → ℕ
on_line_byte shown b = if is_visible shown b then b else 63

-- a name with as many bytes, of which each shows something
abbrev pub on_line : List ℕ → List ℕ
on_line name = map (on_line_byte (is_shown name)) name
