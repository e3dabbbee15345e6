-- Messages: no two names have the same one, and their bytes are bytes.
use Rattle.std.proofs.Common.{◌≡◌, ◌∙◌, ◌≢◌, ◌<◌, ◌||◌, ◌++◌, ℕ, Bool, true, false, All, List, [], ◌∷◌, flat_map, refl, sym, ap, arith, if◌then◌else◌}
use Rattle.std.proofs.lemmas.Grind.{flat_map-append}
use Rattle.std.proofs.lemmas.List.Elements.{All-append, All-cons, All-head, All-nil, All-tail}
use Rattle.ld_escape.specs.declared.form.Form.TheVariants.{Json}
use Rattle.ld_escape.specs.Messages.{is_brace, is_link_sign, message, said, said_json, sign_before, written_message}
use Rattle.ld_escape.specs.Shown.{is_shown}
use Rattle.ld_escape.specs.Written.{piece}
use Rattle.ld_escape.proofs.DistinctLemmas.{Same, other, same_names}

-- what means something in a message
abbrev is_sign : ℕ → Bool
is_sign b = is_brace b || is_link_sign b

-- a byte as it is said by the answer of that test
abbrev said_by : (sign : Bool) → ℕ → List ℕ
said_by sign b = if sign then sign_before b ∷ b ∷ [] else b ∷ []

before_is_sign : (b : ℕ) → is_sign b ≡ true → is_sign (sign_before b) ≡ true
before_is_sign b e = elim (is_brace b) as (λ brace. is_sign (if brace then b else 92) ≡ true) [ true ↦ e | false ↦ refl ]

before_is_byte : (b : ℕ) → b < 256 → sign_before b < 256
before_is_byte b h = elim (is_brace b) as (λ brace. (if brace then b else 92) < 256) [ true ↦ h | false ↦ omega arith ]

same_said : (m n : Bool) (a b : ℕ) (xs ys : List ℕ) → is_sign a ≡ m → is_sign b ≡ n → said_by m a ++ xs ≡ said_by n b ++ ys → Same a b xs ys
same_said true true a b xs ys p q e = record { byte = cc; rest = cc }
same_said true false a b xs ys p q e = absurd (other is_sign b (sign_before a) (before_is_sign a p) q cc)
same_said false true a b xs ys p q e = absurd (other is_sign a (sign_before b) (before_is_sign b q) p cc)
same_said false false a b xs ys p q e = record { byte = cc; rest = cc }

begun : (m : Bool) (b : ℕ) (xs : List ℕ) → said_by m b ++ xs ≢ []
begun true b xs e = cc
begun false b xs e = cc

same_messages : (xs ys : List ℕ) → message xs ≡ message ys → xs ≡ ys
same_messages [] [] e = refl
same_messages [] (y ∷ ys) e = absurd (begun (is_sign y) y _ (sym e))
same_messages (x ∷ xs) [] e = absurd (begun (is_sign x) x _ e)
same_messages (x ∷ xs) (y ∷ ys) e =
    let same = same_said (is_sign x) (is_sign y) x y (message xs) (message ys) refl refl e in
    let others = same_messages xs ys same.rest in
    let first = same.byte in
    cc

-- what is written is the message in a string of JSON
pub as_json : (shown : Bool) (name : List ℕ) → flat_map (piece Json shown) (message name) ≡ flat_map (said_json shown) name
as_json shown [] = refl
as_json shown (b ∷ bs) =
    flat_map-append (piece Json shown) (said b) (message bs)
    ∙ ap (λ rest. said_json shown b ++ rest) (as_json shown bs)

-- a name is the only one whose message is written so
pub only_message : (name one : List ℕ) → written_message one ≡ written_message name → one ≡ name
only_message name one e = same_messages one name (same_names Json (is_shown one) (is_shown name) (message one) (message name) (as_json (is_shown one) one ∙ e ∙ sym (as_json (is_shown name) name)))

bytes_said : (m : Bool) (b : ℕ) → b < 256 → All (λ x. x < 256) (said_by m b)
bytes_said true b h =
    All-cons (λ x. x < 256) (sign_before b) (b ∷ []) (before_is_byte b h)
    (All-cons (λ x. x < 256) b [] h (All-nil (λ x. x < 256)))
bytes_said false b h = All-cons (λ x. x < 256) b [] h (All-nil (λ x. x < 256))

pub bytes_of : (name : List ℕ) → All (λ b. b < 256) name → All (λ b. b < 256) (message name)
bytes_of [] h = All-nil (λ x. x < 256)
bytes_of (b ∷ bs) h =
    All-append (λ x. x < 256) (said b) (message bs)
    (bytes_said (is_sign b) b (All-head (λ x. x < 256) b bs h))
    (bytes_of bs (All-tail (λ x. x < 256) b bs h))
