-- An LF that ends a last line changes no line's text.
use Rattle.std.proofs.Common.{◌≡◌, ◌∙◌, ◌-◌, ◌==◌, ◌||◌, inl, inr, ℕ, suc, Bool, true, false, List, [], ◌∷◌, ◌++◌, length, take, drop, map, refl, ap, sym, append-nil, append_assoc, arith, length-append, if◌then◌else◌}
use Rattle.std.proofs.Math.Seq.{drop-append_seam, take-append_seam}
use Rattle.std.proofs.lemmas.Bool.{eqb-true}
use Rattle.std.proofs.lemmas.List.{map-append}
use Rattle.std.specs.Cmp.Lexicographic.{pointwise}
use Rattle.std.specs.Prelude.{nat_eq}
use Rattle.std.specs.List.{ends_with, onto_first}
use Rattle.ld_trace.specs.Lines.{is_empty, less_end, lines, text_of}
use Rattle.ld_reduce.specs.Written.{ended}
use Rattle.ld_reduce.proofs.LineLemmas.{IsEnded, ended-IsEnded}

abbrev has_lf : List ℕ → Bool
has_lf bytes = ends_with nat_eq bytes (10 ∷ [])

-- a byte before others changes nothing of their end
has_lf-cons : (b c : ℕ) (more : List ℕ) → has_lf (b ∷ c ∷ more) ≡ has_lf (c ∷ more)
has_lf-cons b c more =
    let long : length (b ∷ c ∷ more) - 1 ≡ suc (length more) = omega arith in
    let short : length (c ∷ more) - 1 ≡ length more = omega arith in
    ap (λ k. pointwise nat_eq (10 ∷ []) (drop k (b ∷ c ∷ more))) long ∙ sym (ap (λ k. pointwise nat_eq (10 ∷ []) (drop k (c ∷ more))) short)

-- The last line of bytes, which has no LF, with one.
record Last (bytes : List ℕ) : Type 0 where
  before : List (List ℕ)
  byte : ℕ
  others : List ℕ
  own : lines bytes ≡ before ++ (byte ∷ others) ∷ []
  longer : lines (bytes ++ 10 ∷ []) ≡ before ++ ((byte ∷ others) ++ 10 ∷ []) ∷ []
  still_open : has_lf (byte ∷ others) ≡ false

last_of : (b : ℕ) (bytes : List ℕ) → has_lf (b ∷ bytes) ≡ false → Last (b ∷ bytes)
last_of b [] none = by (b == 10) refl
  where
    by : (test : Bool) → (b == 10) ≡ test → Last (b ∷ [])
    by true is = absurd (let same : b ≡ 10 = eqb-true b 10 is in let f = rw same at none in cc)
    by false is = record { before = []; byte = b; others = []; own = rw is refl; longer = rw is refl; still_open = none }
last_of b (c ∷ more) none = by (b == 10) refl (last_of c more (sym (has_lf-cons b c more) ∙ none))
  where
    onto : (b == 10) ≡ false → (before : List (List ℕ)) (byte : ℕ) (others : List ℕ) → lines (c ∷ more) ≡ before ++ (byte ∷ others) ∷ []
        → lines ((c ∷ more) ++ 10 ∷ []) ≡ before ++ ((byte ∷ others) ++ 10 ∷ []) ∷ [] → has_lf (byte ∷ others) ≡ false → Last (b ∷ c ∷ more)
    onto is [] byte others own longer still_open = record {
      before = [];
      byte = b;
      others = byte ∷ others;
      own = rw is (ap (onto_first b) own);
      longer = rw is (ap (onto_first b) longer);
      still_open = has_lf-cons b byte others ∙ still_open;
    }
    onto is (x ∷ before) byte others own longer still_open = record {
      before = (b ∷ x) ∷ before;
      byte = byte;
      others = others;
      own = rw is (ap (onto_first b) own);
      longer = rw is (ap (onto_first b) longer);
      still_open = still_open;
    }

    by : (test : Bool) → (b == 10) ≡ test → Last (c ∷ more) → Last (b ∷ c ∷ more)
    by true is l = record {
      before = (b ∷ []) ∷ l.before;
      byte = l.byte;
      others = l.others;
      own = rw is (ap (λ o. (b ∷ []) ∷ o) l.own);
      longer = rw is (ap (λ o. (b ∷ []) ∷ o) l.longer);
      still_open = l.still_open;
    }
    by false is l = onto is l.before l.byte l.others l.own l.longer l.still_open

-- an LF stands at the end
lf-at_end : (xs : List ℕ) → has_lf (xs ++ 10 ∷ []) ≡ true
lf-at_end xs =
    let long : length (xs ++ 10 ∷ []) - 1 ≡ length xs = omega (arith, length-append xs (10 ∷ [])) in
    ap (λ k. pointwise nat_eq (10 ∷ []) (drop k (xs ++ 10 ∷ []))) long ∙ ap (pointwise nat_eq (10 ∷ [])) (drop-append_seam xs (10 ∷ []))

-- the text of a line with an LF
less_lf : (xs : List ℕ) → less_end 10 (xs ++ 10 ∷ []) ≡ xs
less_lf xs =
    let long : length (xs ++ 10 ∷ []) - 1 ≡ length xs = omega (arith, length-append xs (10 ∷ [])) in
    rw (lf-at_end xs) (ap (λ k. take k (xs ++ 10 ∷ [])) long ∙ take-append_seam xs (10 ∷ []))

text-longer : (line : List ℕ) → has_lf line ≡ false → text_of (line ++ 10 ∷ []) ≡ text_of line
text-longer line still_open = ap (less_end 13) (less_lf line ∙ sym less)
  where
    less : less_end 10 line ≡ line
    less = rw still_open refl

pub texts-ended : (bytes : List ℕ) → map text_of (lines (ended bytes)) ≡ map text_of (lines bytes)
texts-ended [] = refl
texts-ended (b ∷ bytes) = by (has_lf (b ∷ bytes)) refl
  where
    by : (test : Bool) → has_lf (b ∷ bytes) ≡ test → map text_of (lines (if test then b ∷ bytes else (b ∷ bytes) ++ 10 ∷ [])) ≡ map text_of (lines (b ∷ bytes))
    by true is = refl
    by false is =
        let l = last_of b bytes is in
        ap (map text_of) l.longer
        ∙ map-append text_of l.before (((l.byte ∷ l.others) ++ 10 ∷ []) ∷ [])
        ∙ ap (λ text. map text_of l.before ++ text ∷ []) (text-longer (l.byte ∷ l.others) l.still_open)
        ∙ sym (map-append text_of l.before ((l.byte ∷ l.others) ∷ []))
        ∙ ap (map text_of) (sym l.own)

-- Bytes that end with an LF.

ended-lf : (xs : List ℕ) → ended (xs ++ 10 ∷ []) ≡ xs ++ 10 ∷ []
ended-lf xs = by (is_empty (xs ++ 10 ∷ []))
  where
    by : (empty : Bool) → (if empty || has_lf (xs ++ 10 ∷ []) then xs ++ 10 ∷ [] else (xs ++ 10 ∷ []) ++ 10 ∷ []) ≡ xs ++ 10 ∷ []
    by true = refl
    by false = rw (lf-at_end xs) refl

-- are ended once for all
pub ended-twice : (bytes : List ℕ) → ended (ended bytes) ≡ ended bytes
ended-twice bytes = by (ended-IsEnded bytes)
  where
    by : IsEnded (ended bytes) → ended (ended bytes) ≡ ended bytes
    by (inl none) = ap ended none ∙ sym none
    by (inr front) = ap ended front.1 ∙ ended-lf front.0 ∙ sym front.1

has_lf-behind : (xs : List ℕ) (b : ℕ) (more : List ℕ) → has_lf (xs ++ b ∷ more) ≡ has_lf (b ∷ more)
has_lf-behind [] b more = refl
has_lf-behind (x ∷ []) b more = has_lf-cons x b more
has_lf-behind (x ∷ y ∷ xs) b more = has_lf-cons x y (xs ++ b ∷ more) ∙ has_lf-behind (y ∷ xs) b more

-- and change nothing of what stands behind them
pub ended-behind : (xs bytes : List ℕ) → ended ((xs ++ 10 ∷ []) ++ bytes) ≡ (xs ++ 10 ∷ []) ++ ended bytes
ended-behind xs [] = ap ended (append-nil (xs ++ 10 ∷ [])) ∙ ended-lf xs ∙ sym (append-nil (xs ++ 10 ∷ []))
ended-behind xs (b ∷ bytes) = by (xs ++ 10 ∷ []) (has_lf (b ∷ bytes)) refl
  where
    by : (front : List ℕ) (test : Bool) → has_lf (b ∷ bytes) ≡ test → ended (front ++ b ∷ bytes) ≡ front ++ (if test then b ∷ bytes else (b ∷ bytes) ++ 10 ∷ [])
    by [] true is = rw is refl
    by [] false is = rw is refl
    by (x ∷ front) true is = rw (has_lf-behind (x ∷ front) b bytes, is) refl
    by (x ∷ front) false is = rw (has_lf-behind (x ∷ front) b bytes, is) (append_assoc (x ∷ front) (b ∷ bytes) (10 ∷ []))
