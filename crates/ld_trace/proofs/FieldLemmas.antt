-- The first field of a line, by the blanks before it and the first blank after it.
use Rattle.std.proofs.Common.{ℕ, ◌≡◌, ◌<◌, Bool, true, false, not, List, [], ◌∷◌, length, take, drop, refl, ap, arith}
use Rattle.std.proofs.Math.Numerals.{one-add}
use Rattle.std.specs.Prelude.{slice_get}
use Rattle.std.specs.List.{filter, prefix_len, position_or_len, slice_split}
use Rattle.ld_trace.specs.Lines.{first_field_byte, is_blank, is_empty, fields}

-- nor do several
pub fields-blanks : (text : List ℕ) → fields text ≡ fields (drop (prefix_len is_blank text) text)
fields-blanks [] = refl
fields-blanks (b ∷ text) = by (is_blank b) refl (fields-blanks text)
  where
    by : (test : Bool) → is_blank b ≡ test → fields text ≡ fields (drop (prefix_len is_blank text) text) → fields (b ∷ text) ≡ fields (drop (prefix_len is_blank (b ∷ text)) (b ∷ text))
    by true blank others = rw (blank, one-add) others
    by false full others = rw (full, full) refl

-- a list of fields, and of runs after it that may be empty
record Starts (runs : List (List ℕ)) (first : List ℕ) (later : List (List ℕ)) : Type 0 where
  tail : List (List ℕ)
  is : runs ≡ first ∷ tail
  others : filter (λ run. not (is_empty run)) tail ≡ later

-- the first run ends at the first blank
split-run : (text : List ℕ) → Starts (slice_split is_blank text) (take (position_or_len is_blank text) text) (fields (drop (position_or_len is_blank text) text))
split-run [] = record { tail = []; is = refl; others = refl }
split-run (b ∷ text) = by (is_blank b) refl (split-run text)
  where
    by : (test : Bool) → is_blank b ≡ test → Starts (slice_split is_blank text) (take (position_or_len is_blank text) text)
        (fields (drop (position_or_len is_blank text) text)) → Starts (slice_split is_blank (b ∷ text))
        (take (position_or_len is_blank (b ∷ text)) (b ∷ text)) (fields (drop (position_or_len is_blank (b ∷ text)) (b ∷ text)))
    by true blank s = record { tail = slice_split is_blank text; is = rw blank refl; others = rw (blank, blank) refl }
    by false full s = record { tail = s.tail; is = rw (full, one-add, s.is) refl; others = rw (full, one-add) s.others }

-- what doesn't begin with a blank begins with a field
pub fields-run : (text : List ℕ) → 0 < length text → prefix_len is_blank text ≡ 0 → fields text ≡ take (position_or_len is_blank text) text ∷ fields (drop (position_or_len is_blank text) text)
fields-run [] some full = absurd (omega arith)
fields-run (b ∷ text) some full = by (is_blank b) refl full
  where
    by : (test : Bool) → is_blank b ≡ test → prefix_len is_blank (b ∷ text) ≡ 0 → fields (b ∷ text) ≡ take (position_or_len is_blank (b ∷ text))
        (b ∷ text) ∷ fields (drop (position_or_len is_blank (b ∷ text)) (b ∷ text))
    by true blank none = absurd (let h = rw (blank, one-add) at none in cc)
    by false full none = let s = split-run text in rw (full, one-add, s.is) (ap (λ others. (b ∷ take (position_or_len is_blank text) text) ∷ others) s.others)

pub fields-empty : (text : List ℕ) → length text ≡ 0 → fields text ≡ []
fields-empty [] none = refl
fields-empty (b ∷ text) none = absurd (omega arith)

-- the first field begins with the first byte, where this is no blank
pub first-byte : (text : List ℕ) → prefix_len is_blank text ≡ 0 → first_field_byte (fields text) ≡ slice_get text 0
first-byte [] full = refl
first-byte (b ∷ text) full = by (is_blank b) refl full
  where
    by : (test : Bool) → is_blank b ≡ test → prefix_len is_blank (b ∷ text) ≡ 0 → first_field_byte (fields (b ∷ text)) ≡ slice_get (b ∷ text) 0
    by true blank none = absurd (let h = rw (blank, one-add) at none in cc)
    by false full none = let s = split-run text in rw (full, s.is) refl

-- behind the first that pass comes one that fails, or nothing
pub prefix_len-after : {X : Type 0} (p : X → Bool) (xs : List X) → prefix_len p (drop (prefix_len p xs) xs) ≡ 0
prefix_len-after p [] = refl
prefix_len-after p (x ∷ xs) = by (p x) refl (prefix_len-after p xs)
  where
    by : (test : Bool) → p x ≡ test → prefix_len p (drop (prefix_len p xs) xs) ≡ 0 → prefix_len p (drop (prefix_len p (x ∷ xs)) (x ∷ xs)) ≡ 0
    by true is others = rw (is, one-add) others
    by false is others = rw (is, is) refl
