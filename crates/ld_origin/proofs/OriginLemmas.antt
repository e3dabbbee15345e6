-- The line that says where a trace comes from: it is a line, says nothing, and is read as it was written.
use Rattle.std.proofs.Common.{◌≡◌, ◌∙◌, ◌+◌, ◌%◌, ◌/◌, ◌<◌, ◌==◌, ◌&&◌, ℕ, zero, suc, Bool, true, false, not, List, [], ◌∷◌, ◌++◌, length, take, drop, Some, None, Ok, refl, ap, sym, append_assoc, arith, codes, decimal, nat_lt, if◌then◌else◌}
use Rattle.std.proofs.Math.Seq.{drop-append-add}
use Rattle.std.proofs.lemmas.Bool.{and_from, and_parts}
use Rattle.std.proofs.lemmas.Bool.Decides.{nat_tests}
use Rattle.std.proofs.lemmas.List.{take_at}
use Rattle.std.proofs.lemmas.List.Folds.{list_all-append}
use Rattle.std.proofs.lemmas.Nat.{mod_below}
use Rattle.std.specs.Char.{is_ascii_digit, is_ascii_graphic}
use Rattle.std.specs.Fmt.{digit_glyph, digits, digits_onto}
use Rattle.std.specs.List.{list_all, onto_first, position_or_len}
use Rattle.ld_trace.specs.Lines.{fields, is_empty, lines, text_of}
use Rattle.ld_trace.specs.Sources.{begins_trace, is_header}
use Rattle.ld_trace.specs.Events.{said_by, said_by_fields}
use Rattle.ld_trace.proofs.PlainLemmas.{IsRun, fields-word, lines-onto, text-run}
use Rattle.ld_origin.specs.Origin.{PlainHome, PlainOrigin, hex_digit, is_space, origin_from, origin_line, origin_said, said_behind, spelled, spelled_byte}

-- an origin that a line may say
pub record IsSaid (origin : PlainOrigin) : Type 0 where
  pub file : list_all is_ascii_graphic origin.file ≡ true
  pub some : is_empty origin.line ≡ false
  pub line : list_all is_ascii_digit origin.line ≡ true

-- What is written of a home is such an origin.

digit_graphic : (b : ℕ) → is_ascii_digit b ≡ true → is_ascii_graphic b ≡ true
digit_graphic b is = grind (arith, nat_tests)

digits_graphic : (bytes : List ℕ) → list_all is_ascii_digit bytes ≡ true → list_all is_ascii_graphic bytes ≡ true
digits_graphic [] all = refl
digits_graphic (b ∷ bytes) all =
    let now = and_parts (is_ascii_digit b) (list_all is_ascii_digit bytes) all in
    and_from (is_ascii_graphic b) (list_all is_ascii_graphic bytes) (digit_graphic b now.0) (digits_graphic bytes now.1)

glyph_digit : (n : ℕ) → n < 10 → is_ascii_digit (digit_glyph false n) ≡ true
glyph_digit n low = grind (arith, nat_tests)

-- digits in front of others
record AreDigits (bytes : List ℕ) : Type 0 where
  some : is_empty bytes ≡ false
  all : list_all is_ascii_digit bytes ≡ true

own_digits : (n : ℕ) (rest : List ℕ) → list_all is_ascii_digit rest ≡ true → AreDigits (digit_glyph false (n % 10) ∷ rest)
own_digits n rest others = record {
  some = refl;
  all = and_from (is_ascii_digit (digit_glyph false (n % 10))) (list_all is_ascii_digit rest) (glyph_digit (n % 10) (mod_below n 10 (omega arith))) others;
}

either : (one more : List ℕ) → AreDigits one → AreDigits more → (test : Bool) → AreDigits (if test then one else more)
either one more is others true = is
either one more is others false = others

-- digits are written from the last to the first, each in front of the others
digits_are : (k n : ℕ) (rest : List ℕ) → list_all is_ascii_digit rest ≡ true → AreDigits (digits_onto (suc k) 10 false n rest)
digits_are zero n rest others = either (digit_glyph false (n % 10) ∷ rest) (digit_glyph false (n % 10) ∷ rest) (own_digits n rest others) (own_digits n rest others) (n / 10 == 0)
digits_are (suc k) n rest others =
    let own = own_digits n rest others in
    either (digit_glyph false (n % 10) ∷ rest) (digits_onto (suc k) 10 false (n / 10) (digit_glyph false (n % 10) ∷ rest)) own
    (digits_are k (n / 10) (digit_glyph false (n % 10) ∷ rest) own.all) (n / 10 == 0)

decimal_are : (n : ℕ) → AreDigits (decimal n)
unfolding digits
decimal_are n = digits_are 63 n [] refl

hex_graphic : (n : ℕ) → is_ascii_graphic (hex_digit n) ≡ true
hex_graphic n = by (n % 16) (mod_below n 16 (omega arith))
  where
    by : (d : ℕ) → d < 16 → is_ascii_graphic (if nat_lt d 10 then 48 + d else 55 + d) ≡ true
    by d low = grind (arith, nat_tests)

byte_graphic : (b : ℕ) → list_all is_ascii_graphic (spelled_byte b) ≡ true
byte_graphic b = by (is_ascii_graphic b) refl (not (b == 37))
  where
    hex : list_all is_ascii_graphic (37 ∷ hex_digit (b / 16) ∷ hex_digit b ∷ []) ≡ true
    hex = rw (hex_graphic (b / 16), hex_graphic b) refl

    by : (graphic : Bool) → is_ascii_graphic b ≡ graphic → (other : Bool) → list_all is_ascii_graphic (if graphic && other then b ∷ [] else 37 ∷ hex_digit (b / 16) ∷ hex_digit b ∷ []) ≡ true
    by true is true = rw is refl
    by true is false = hex
    by false is other = hex

spelled_graphic : (name : List ℕ) → list_all is_ascii_graphic (spelled name) ≡ true
spelled_graphic [] = refl
spelled_graphic (b ∷ name) =
    list_all-append is_ascii_graphic (spelled_byte b) (spelled name)
    ∙ and_from (list_all is_ascii_graphic (spelled_byte b)) (list_all is_ascii_graphic (spelled name)) (byte_graphic b) (spelled_graphic name)

pub home-said : (home : PlainHome) → IsSaid (origin_from home)
home-said home =
    let digits = decimal_are home.line in
    record { file = spelled_graphic home.file; some = digits.some; line = digits.all }

-- Its line.

no_space : (b : ℕ) → is_ascii_graphic b ≡ true → is_space b ≡ false
no_space b graphic = grind (arith, nat_tests)

-- the first space stands behind the file
space-after : (file line : List ℕ) → list_all is_ascii_graphic file ≡ true → position_or_len is_space (file ++ 32 ∷ line) ≡ length file
space-after [] line graphic = refl
space-after (b ∷ file) line graphic =
    let now = and_parts (is_ascii_graphic b) (list_all is_ascii_graphic file) graphic in
    let rest = space-after file line now.1 in
    rw (no_space b now.0, rest) (omega arith)

module _ (origin : PlainOrigin) (is : IsSaid origin) where
  run : IsRun origin.line
  run = record { full = is.some; graphic = digits_graphic origin.line is.line }

  -- what it says
  abbrev whole : List ℕ
  whole = codes "# from " ++ (origin.file ++ 32 ∷ origin.line)

  text-is : text_of (origin_line origin) ≡ whole
  text-is =
      let front = codes "# from " ++ (origin.file ++ 32 ∷ []) in
      let same : (origin.file ++ 32 ∷ []) ++ origin.line ≡ origin.file ++ 32 ∷ origin.line = append_assoc origin.file (32 ∷ []) origin.line in
      let end : (origin.file ++ 32 ∷ origin.line) ++ 10 ∷ [] ≡ origin.file ++ 32 ∷ (origin.line ++ 10 ∷ []) = append_assoc origin.file (32 ∷ origin.line) (10 ∷ []) in
      ap (λ o. text_of (codes "# from " ++ o)) (sym (ap (λ o. o ++ 10 ∷ []) same ∙ end))
      ∙ text-run front origin.line run false
      ∙ ap (λ o. codes "# from " ++ o) same

  -- it is a line
  pub origin-line : (rest : List ℕ) → lines (origin_line origin ++ rest) ≡ origin_line origin ∷ lines rest
  origin-line rest =
      let spread : (origin.file ++ 32 ∷ (origin.line ++ 10 ∷ [])) ++ rest ≡ origin.file ++ 32 ∷ (origin.line ++ 10 ∷ rest) =
      append_assoc origin.file (32 ∷ (origin.line ++ 10 ∷ [])) rest ∙ ap (λ o. origin.file ++ 32 ∷ o) (append_assoc origin.line (10 ∷ []) rest) in
      let inner : lines (origin.line ++ 10 ∷ rest) ≡ (origin.line ++ 10 ∷ []) ∷ lines rest = lines-onto origin.line (10 ∷ rest) (10 ∷ []) (lines rest) run.graphic refl in
      let own : lines (origin.file ++ 32 ∷ (origin.line ++ 10 ∷ rest)) ≡ (origin.file ++ 32 ∷ (origin.line ++ 10 ∷ [])) ∷ lines rest =
      lines-onto origin.file (32 ∷ (origin.line ++ 10 ∷ rest)) (32 ∷ (origin.line ++ 10 ∷ [])) (lines rest) is.file (ap (onto_first 32) inner) in
      ap (λ o. lines (codes "# from " ++ o)) spread
      ∙ ap (λ o. onto_first 35 (onto_first 32 (onto_first 102 (onto_first 114 (onto_first 111 (onto_first 109 (onto_first 32 o))))))) own

  first-field : fields (text_of (origin_line origin)) ≡ codes "#" ∷ fields (codes "from " ++ (origin.file ++ 32 ∷ origin.line))
  first-field = ap fields text-is ∙ fields-word (codes "#") (codes "from " ++ (origin.file ++ 32 ∷ origin.line)) (record { full = refl; graphic = refl })

  -- no header
  pub origin-no_header : is_header (origin_line origin) ≡ false
  origin-no_header = ap begins_trace first-field

  -- that says nothing
  pub origin-silent : said_by (text_of (origin_line origin)) ≡ Ok None
  origin-silent = ap said_by_fields first-field

  behind : said_behind (origin.file ++ 32 ∷ origin.line) ≡ Some origin
  behind =
      let at = space-after origin.file origin.line is.file in
      let front : take (position_or_len is_space (origin.file ++ 32 ∷ origin.line)) (origin.file ++ 32 ∷ origin.line) ≡ origin.file = take_at origin.file (32 ∷ origin.line) _ (sym at) in
      let back : drop (position_or_len is_space (origin.file ++ 32 ∷ origin.line) + 1) (origin.file ++ 32 ∷ origin.line) ≡ origin.line = rw at (drop-append-add origin.file (32 ∷ origin.line) 1) in
      rw (front, back, is.file, is.some, is.line) refl

  -- but where the trace comes from
  pub origin-said : origin_said (text_of (origin_line origin)) ≡ Some origin
  origin-said = ap origin_said text-is ∙ behind
