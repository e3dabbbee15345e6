-- The first line of a text, by the first LF.
use Rattle.std.proofs.Common.{ℕ, zero, suc, ◌≡◌, ◌+◌, ◌<◌, Bool, true, false, cond, not, List, [], ◌∷◌, length, take, drop, refl, ap, arith}
use Rattle.std.specs.List.{onto_first, position_or_len}
use Rattle.ld_layout.specs.Lines.{is_lf, lines}

-- up to the first LF the bytes are the first line
pub lines-first : (text : List ℕ) (k : ℕ) → position_or_len is_lf text ≡ k → k < length text → lines text ≡ take k text ∷ lines (drop (suc k) text)
lines-first [] k e h = absurd (omega arith)
lines-first (b ∷ text) zero e h = by (is_lf b) refl e
  where
    by : (test : Bool) → is_lf b ≡ test → cond (not test) (1 + position_or_len is_lf text) 0 ≡ 0 → lines (b ∷ text) ≡ [] ∷ lines text
    by true is e = rw is refl
    by false is e = absurd (omega arith)
lines-first (b ∷ text) (suc k) e h = by (is_lf b) refl e (λ at. lines-first text k at (omega arith))
  where
    by : (test : Bool) → is_lf b ≡ test → cond (not test) (1 + position_or_len is_lf text) 0 ≡ suc k → (position_or_len is_lf text ≡ k → lines text ≡ take k text ∷ lines (drop (suc k) text))
        → lines (b ∷ text) ≡ (b ∷ take k text) ∷ lines (drop (suc k) text)
    by true is e others = absurd (omega arith)
    by false is e others = rw is (ap (onto_first b) (others (omega arith)))

-- a text without an LF is one line
pub lines-one : (text : List ℕ) → 0 < length text → position_or_len is_lf text ≡ length text → lines text ≡ text ∷ []
lines-one [] h e = absurd (omega arith)
lines-one (b ∷ []) h e = by (is_lf b) refl e
  where
    by : (test : Bool) → is_lf b ≡ test → cond (not test) (1 + position_or_len is_lf []) 0 ≡ length (b ∷ []) → lines (b ∷ []) ≡ (b ∷ []) ∷ []
    by true is e = absurd (omega arith)
    by false is e = rw is refl
lines-one (b ∷ c ∷ text) h e = by (is_lf b) refl e (λ at. lines-one (c ∷ text) (omega arith) at)
  where
    by : (test : Bool) → is_lf b ≡ test → cond (not test) (1 + position_or_len is_lf (c ∷ text)) 0 ≡ length (b ∷ c ∷ text) → (position_or_len is_lf (c ∷ text) ≡ length (c ∷ text) → lines (c ∷ text) ≡ (c ∷ text) ∷ [])
        → lines (b ∷ c ∷ text) ≡ (b ∷ c ∷ text) ∷ []
    by true is e others = absurd (omega arith)
    by false is e others = rw is (ap (onto_first b) (others (omega arith)))
