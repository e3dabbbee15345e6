-- A name in a message of SARIF.
use Rattle.std.specs.Prelude.{ℕ, Bool, ◌||◌, ◌==◌, List, [], ◌∷◌, flat_map, if◌then◌else◌}
use Rattle.ld_escape.specs.declared.form.Form.TheVariants.{Json}
use Rattle.ld_escape.specs.Shown.{is_shown}
use Rattle.ld_escape.specs.Written.{piece}

-- what begins or ends a placeholder, such as `{0}`
abbrev pub is_brace : ℕ → Bool
is_brace b = b == 123 || b == 125

-- what begins or ends the text of a link, such as `[here](1)`, and the backslash, which says that such a byte doesn't
abbrev pub is_link_sign : ℕ → Bool
is_link_sign b = b == 91 || b == 93 || b == 92

-- what stands before such a byte if it is to be read as itself: a brace is doubled, any other one has a backslash
abbrev pub sign_before : ℕ → ℕ
sign_before b = if is_brace b then b else 92

-- a byte as it is said in a message
abbrev pub said : ℕ → List ℕ
said b =
    if is_brace b || is_link_sign b then sign_before b ∷ b ∷ []
    else b ∷ []

-- the message that is read as this name
abbrev pub message : List ℕ → List ℕ
message name = flat_map said name

-- what is said of a byte, in a string of JSON
abbrev pub said_json : (shown : Bool) → ℕ → List ℕ
said_json shown b = flat_map (piece Json shown) (said b)

-- a name's message in a string of JSON
abbrev pub written_message : List ℕ → List ℕ
written_message name = flat_map (said_json (is_shown name)) name
