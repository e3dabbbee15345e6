-- Lines at the front of some bytes that are no headers.
use Rattle.std.proofs.Common.{ℕ, zero, suc, ◌≡◌, ◌+◌, ◌-◌, ◌<◌, ◌≤◌, ◌⊎◌, inl, inr, Bool, true, false, not, List, [], ◌∷◌, ◌++◌, length, take, drop, refl}
use Rattle.std.proofs.Common.{count_by, sym, ap, ◌∙◌, arith, get_or, add-one, append_assoc, append-nil, length-append, Some, codes, subst}
use Rattle.std.proofs.Math.Seq.{take-add}
use Rattle.std.proofs.lemmas.Bool.{cases_lt, eqb-false, false≢true, or_parts}
use Rattle.std.proofs.lemmas.List.{drop-drop, get_or-take, length-take-le, take-append-drop, take_all}
use Rattle.std.proofs.lemmas.List.Folds.{concat-append}
use Rattle.std.proofs.lemmas.List.Sums.{count_by_more_yes, count_by_more_no}
use Rattle.std.proofs.lemmas.Slice.Eq.{bytes_eq-Decides}
use Rattle.std.specs.Prelude.{nat_eq, ◌==◌, ◌||◌}
use Rattle.memchr.specs.Find.{is_byte, NoneAfter, Nowhere, Passes}
use Rattle.std.specs.List.{concat, ends_with, prefix_len}
use Rattle.ld_trace.specs.Lines.{fields, is_blank, first_field_byte, less_end, lines}
use Rattle.ld_trace.proofs.FieldLemmas.{first-byte}
use Rattle.ld_trace.proofs.LineLemmas.{lines-cut}
use Rattle.ld_trace.specs.Sources.{begins_trace, is_header, is_other}
use Rattle.ld_trace.specs.Inner.Splitting.{AreSkipped, IsQuiet, is_lf, may_begin}

-- no line
skipped-none : (bytes : List ℕ) → AreSkipped bytes 0 bytes
skipped-none bytes = record { cut = refl; left = refl; others = omega arith; within = omega arith }

-- the first line
pub skipped-line : (bytes line rest : List ℕ) → lines bytes ≡ line ∷ lines rest → bytes ≡ line ++ rest → 0 < length line → is_other line ≡ true → AreSkipped bytes 1 rest
skipped-line bytes line rest first whole nonempty other = record {
  cut = whole ∙ ap (λ o. o ++ rest) (sym (append-nil line) ∙ ap (λ o. concat (take 1 o)) (sym first));
  left = sym (ap (drop 1) first);
  others = ap (prefix_len is_other) first ∙ rw other refl;
  within = omega (arith, ap length whole, length-append line rest, nonempty);
}

-- some lines, and some more behind these
pub skipped-then : (bytes : List ℕ) (n : ℕ) (rest : List ℕ) (m : ℕ) (last : List ℕ) → AreSkipped bytes n rest → AreSkipped rest m last → AreSkipped bytes (n + m) last
skipped-then bytes n rest m last a b = record {
  cut =
      let taken : concat (take (n + m) (lines bytes)) ≡ concat (take n (lines bytes)) ++ concat (take m (lines rest)) =
      ap concat (take-add n m (lines bytes)) ∙ concat-append (take n (lines bytes)) (take m (drop n (lines bytes)))
      ∙ ap (λ o. concat (take n (lines bytes)) ++ concat (take m o)) (sym a.left) in
      a.cut ∙ ap (λ o. concat (take n (lines bytes)) ++ o) b.cut ∙ sym (append_assoc (concat (take n (lines bytes))) (concat (take m (lines rest))) last) ∙ ap (λ o. o ++ last) (sym taken);
  left = b.left ∙ ap (drop m) a.left ∙ drop-drop m n (lines bytes);
  others = omega (arith, a.others, b.others);
  within = omega (arith, a.within, b.within);
}

-- the first field of a header begins with `t`
header-byte : (found : List (List ℕ)) → begins_trace found ≡ true → first_field_byte found ≡ Some 116
header-byte [] header = absurd (cc)
header-byte (first ∷ others) header = rw ((bytes_eq-Decides first (codes "trace")).0 header) refl

-- bytes less one byte at their end are a part of them
less_end-front : (c : ℕ) (bytes : List ℕ) → (n : ℕ) × (less_end c bytes ≡ take n bytes)
less_end-front c bytes = by (ends_with nat_eq bytes (c ∷ [])) refl
  where
    by : (test : Bool) → ends_with nat_eq bytes (c ∷ []) ≡ test → (n : ℕ) × (less_end c bytes ≡ take n bytes)
    by true is = (length bytes - 1, rw is refl)
    by false is = (length bytes, rw is (sym (take_all (length bytes) bytes (omega arith))))

-- of a line that begins with a byte that no header begins with no part is a header's text
other-part : (m n b : ℕ) (more : List ℕ) → may_begin b ≡ false → begins_trace (fields (take m (take n (b ∷ more)))) ≡ true → ⊥
other-part zero n b more other header = cc
other-part (suc m) zero b more other header = cc
other-part (suc m) (suc n) b more other header =
    let part = take m (take n more) in
    let blank = or_parts (b == 116 || b == 32) (b == 9) other in
    let each = or_parts (b == 116) (b == 32) blank.0 in
    let full : prefix_len is_blank (b ∷ part) ≡ 0 = rw (each.1, blank.1) refl in
    let first : Some b ≡ Some 116 = sym (first-byte (b ∷ part) full) ∙ header-byte (fields (b ∷ part)) header in
    eqb-false b 116 each.0 (cc first)

-- so it is no header
other-by-byte : (b : ℕ) (more : List ℕ) → may_begin b ≡ false → is_other (b ∷ more) ≡ true
other-by-byte b more other = by (is_header (b ∷ more)) refl
  where
    by : (test : Bool) → is_header (b ∷ more) ≡ test → not test ≡ true
    by false is = refl
    by true is =
        let lf = less_end-front 10 (b ∷ more) in
        let cr = less_end-front 13 (less_end 10 (b ∷ more)) in
        absurd (other-part cr.0 lf.0 b more other (ap (λ o. begins_trace (fields o)) (sym (cr.1 ∙ ap (take cr.0) lf.1)) ∙ is))

-- the line from a place up to the next LF, where it begins with such a byte
line-skipped : (bytes : List ℕ) (start k : ℕ) → start ≤ k → k < length bytes → Nowhere (Passes (is_byte 10) bytes) start k → Passes (is_byte 10) bytes k
    → may_begin (get_or bytes start 0) ≡ false → AreSkipped (drop start bytes) 1 (drop (suc k) bytes)
line-skipped [] start k low high before here other = absurd (omega arith)
line-skipped (b ∷ more) zero k low high before here other =
    skipped-line (b ∷ more) (b ∷ take k more) (drop k more) (lines-cut (b ∷ more) k high before here) (sym (take-append-drop (suc k) (b ∷ more)))
    (omega arith) (other-by-byte b (take k more) other)
line-skipped (b ∷ more) (suc start) zero low high before here other = absurd (omega arith)
line-skipped (b ∷ more) (suc start) (suc k) low high before here other =
    line-skipped more start k (omega arith) (omega arith) (λ j from below. before (suc j) (omega arith) (omega arith)) here other

-- one place more
nowhere-more : (P : ℕ → Type 0) (i k : ℕ) → Nowhere P i k → (P k → ⊥) → Nowhere P i (suc k)
nowhere-more P i k before here j low high holds = by (cases_lt j k)
  where
    by : (j < k) ⊎ (k ≤ j) → ⊥
    by (inl less) = before j low less holds
    by (inr more) = let is : j ≡ k = omega arith in here (subst P is holds)

-- The lines that end among the first k bytes are skipped, and what is left begins behind the last LF of
-- these, with a byte that begins no header.
record Upto (bytes : List ℕ) (k : ℕ) : Type 0 where
  start : ℕ
  within : start ≤ k
  skipped : AreSkipped bytes (count_by is_lf (take k bytes)) (drop start bytes)
  no_end : Nowhere (Passes (is_byte 10) bytes) start k
  other : may_begin (get_or bytes start 0) ≡ false
  behind : (j : ℕ) → start ≡ suc j → is_lf (get_or bytes j 0) ≡ true

-- quiet bytes at the front, the first of which begins no header
pub record Begins (bytes : List ℕ) (len : ℕ) : Type 0 where
  pub quiet : IsQuiet bytes len
  pub within : len ≤ length bytes
  pub first : may_begin (get_or bytes 0 0) ≡ false

-- so it is for each number of these bytes, by one byte more
upto : (bytes : List ℕ) (len : ℕ) → Begins bytes len → (k : ℕ) → k ≤ len → Upto bytes k
upto bytes len begins zero low = record {
  start = 0;
  within = omega arith;
  skipped = skipped-none bytes;
  no_end = λ j from below is. absurd (omega arith);
  other = begins.first;
  behind = λ j is. absurd (omega arith);
}
upto bytes len begins (suc k) low = by (is_lf (get_or bytes k 0)) refl (upto bytes len begins k (omega arith))
  where
    by : (test : Bool) → is_lf (get_or bytes k 0) ≡ test → Upto bytes k → Upto bytes (suc k)
    by true is u =
        let high : k < length bytes = omega (arith, begins.within) in
        let line = line-skipped bytes u.start k u.within high u.no_end is u.other in
        let counted = rw (add-one k) at (count_by_more_yes is_lf bytes k 0 high is) in
        record {
          start = suc k;
          within = omega arith;
          skipped = rw counted (skipped-then bytes _ (drop u.start bytes) 1 _ u.skipped line);
          no_end = λ j from below here. absurd (omega arith);
          other = rw (add-one k) at (begins.quiet k (omega arith) is);
          behind = λ j same. let at : j ≡ k = omega (arith, same) in ap (λ i. is_lf (get_or bytes i 0)) at ∙ is;
        }
    by false is u = record {
      start = u.start;
      within = omega (arith, u.within);
      skipped = rw (rw (add-one k) at (count_by_more_no is_lf bytes k 0 (omega (arith, begins.within)) is)) u.skipped;
      no_end = nowhere-more (Passes (is_byte 10) bytes) u.start k u.no_end (λ here. false≢true (sym is ∙ here));
      other = u.other;
      behind = u.behind;
    }

-- all lines that end among them are skipped where what is left begins behind their last LF
pub skipped-quiet : (bytes : List ℕ) (len last : ℕ) → Begins bytes len → NoneAfter (Passes (is_byte 10) (take len bytes)) 0 (length (take len bytes)) last
    → Passes (is_byte 10) (take len bytes) last → AreSkipped bytes (count_by is_lf (take len bytes)) (drop (last + 1) bytes)
skipped-quiet bytes len last begins none here = by (upto bytes len begins len (omega arith))
  where
    long : length (take len bytes) ≡ len
    long = length-take-le len bytes begins.within

    at : (j : ℕ) → j < len → is_lf (get_or (take len bytes) j 0) ≡ is_lf (get_or bytes j 0)
    at j below = ap is_lf (get_or-take len bytes j 0 below)

    is_last : (start : ℕ) → (start ≤ last → ⊥) → ((j : ℕ) → start ≡ suc j → last < j → ⊥) → start ≡ last + 1
    is_last zero low high = absurd (low (omega arith))
    is_last (suc j) low high = omega (arith, low, high j refl)

    by : Upto bytes len → AreSkipped bytes (count_by is_lf (take len bytes)) (drop (last + 1) bytes)
    by u =
        let start = is_last u.start
        (λ low. u.no_end last low (omega (arith, none.high, long)) (sym (at last (omega (arith, none.high, long))) ∙ here))
        (λ j same after. let below : j < len = omega (arith, u.within, same) in none.after j (omega arith) (omega (arith, long)) (at j below ∙ u.behind j same)) in
        subst (λ n. AreSkipped bytes (count_by is_lf (take len bytes)) (drop n bytes)) start u.skipped
