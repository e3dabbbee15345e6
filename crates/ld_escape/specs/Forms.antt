-- Which bytes of a name can't stand as they are where it is written.
use Rattle.std.specs.Prelude.{ℕ, Bool, false, not, ◌&&◌, ◌||◌, ◌==◌, List, [], codes, nat_le, nat_lt}
use Rattle.std.specs.Char.{is_ascii_alphanumeric}
use Rattle.ld_escape.specs.declared.form.Form.{Form}
use Rattle.ld_escape.specs.declared.form.Form.TheVariants.{Markup, Json, Message, Property, Tap, Uri, Class, Task}

-- what begins or ends something in HTML and XML: `&`, `<`, `>` and both quotes
abbrev pub is_markup : ℕ → Bool
is_markup b = b == 38 || b == 60 || b == 62 || b == 34 || b == 39

-- a byte of ASCII that shows nothing, the ends of lines among them
abbrev pub is_control : ℕ → Bool
is_control b = nat_lt b 32 || b == 127

-- a byte that isn't one of ASCII, of a name that isn't shown
abbrev pub is_foreign : (shown : Bool) → ℕ → Bool
is_foreign shown b = not shown && nat_le 128 b

-- a letter, a digit, or one of `-._~/`
abbrev pub is_unreserved : ℕ → Bool
is_unreserved b = is_ascii_alphanumeric b || b == 45 || b == 46 || b == 95 || b == 126 || b == 47

-- a byte that shows something in ASCII, and is no blank
abbrev pub is_graphic : ℕ → Bool
is_graphic b = nat_lt 32 b && nat_lt b 127

-- what means something in the name of a class: `%`, `@`, `/`, `!` and `#`
abbrev pub is_class_sign : ℕ → Bool
is_class_sign b = b == 37 || b == 64 || b == 47 || b == 33 || b == 35

-- a byte that is written by its number behind the form's mark: a URI has unreserved bytes alone; in the others those
-- that mean something there, and what can't be shown
abbrev pub is_marked : Form → (shown : Bool) → ℕ → Bool
is_marked Markup shown b = is_markup b
is_marked Json shown b = is_markup b || b == 92 || is_control b || is_foreign shown b
is_marked Message shown b = b == 37 || is_control b || is_foreign shown b
is_marked Property shown b = b == 37 || b == 58 || b == 44 || is_control b || is_foreign shown b
is_marked Tap shown b = b == 37 || b == 35 || b == 92 || is_control b || is_foreign shown b
is_marked Uri shown b = not (is_unreserved b)
is_marked Class shown b = not (is_graphic b) || is_class_sign b
is_marked Task shown b = not (is_graphic b) || b == 37

-- a byte that HTML or XML can't have, even by a reference, and the backslash, behind which it is written
abbrev pub is_hidden : Form → (shown : Bool) → ℕ → Bool
is_hidden Markup shown b = b == 92 || is_control b || is_foreign shown b
is_hidden Json shown b = false
is_hidden Message shown b = false
is_hidden Property shown b = false
is_hidden Tap shown b = false
is_hidden Uri shown b = false
is_hidden Class shown b = false
is_hidden Task shown b = false

-- what stands before the number of a marked byte
abbrev pub mark : Form → List ℕ
mark Markup = codes "&#x"
mark Json = codes "\\u00"
mark Message = codes "%"
mark Property = codes "%"
mark Tap = codes "%"
mark Uri = codes "%"
mark Class = codes "%"
mark Task = codes "%"

-- what stands behind it
abbrev pub close : Form → List ℕ
close Markup = codes ";"
close Json = []
close Message = []
close Property = []
close Tap = []
close Uri = []
close Class = []
close Task = []
