-- The first line of some bytes, by the first LF.
use Rattle.std.proofs.Common.{ℕ, zero, suc, ◌≡◌, ◌<◌, Bool, true, false, List, [], ◌∷◌, length, take, drop, refl, ap, arith}
use Rattle.std.specs.List.{onto_first}
use Rattle.memchr.specs.Find.{is_byte, Passes, Nowhere}
use Rattle.ld_trace.specs.Lines.{lines}

-- up to the first LF the bytes are the first line
pub lines-cut : (bytes : List ℕ) (k : ℕ) → k < length bytes → Nowhere (Passes (is_byte 10) bytes) 0 k → Passes (is_byte 10) bytes k → lines bytes ≡ take (suc k) bytes ∷ lines (drop (suc k) bytes)
lines-cut [] k h before here = absurd (omega arith)
lines-cut (b ∷ bytes) zero h before here = rw here refl
lines-cut (b ∷ bytes) (suc k) h before here = by (is_byte 10 b) refl (lines-cut bytes k (omega arith) (λ j low high. before (suc j) (omega arith) (omega arith)) here)
  where
    by : (test : Bool) → is_byte 10 b ≡ test → lines bytes ≡ take (suc k) bytes ∷ lines (drop (suc k) bytes) → lines (b ∷ bytes) ≡ take (suc (suc k))
        (b ∷ bytes) ∷ lines (drop (suc (suc k)) (b ∷ bytes))
    by true is others = absurd (before 0 (omega arith) (omega arith) is)
    by false is others = rw is (ap (onto_first b) others)

-- bytes without an LF are one line
lines-whole : (b : ℕ) (bytes : List ℕ) → Nowhere (Passes (is_byte 10) (b ∷ bytes)) 0 (length (b ∷ bytes)) → lines (b ∷ bytes) ≡ (b ∷ bytes) ∷ []
lines-whole b [] none = by (is_byte 10 b) refl
  where
    by : (test : Bool) → is_byte 10 b ≡ test → lines (b ∷ []) ≡ (b ∷ []) ∷ []
    by true is = absurd (none 0 (omega arith) (omega arith) is)
    by false is = rw is refl
lines-whole b (c ∷ bytes) none = by (is_byte 10 b) refl (lines-whole c bytes (λ j low high. none (suc j) (omega arith) (omega arith)))
  where
    by : (test : Bool) → is_byte 10 b ≡ test → lines (c ∷ bytes) ≡ (c ∷ bytes) ∷ [] → lines (b ∷ c ∷ bytes) ≡ (b ∷ c ∷ bytes) ∷ []
    by true is others = absurd (none 0 (omega arith) (omega arith) is)
    by false is others = rw is (ap (onto_first b) others)

pub lines-one : (bytes : List ℕ) → 0 < length bytes → Nowhere (Passes (is_byte 10) bytes) 0 (length bytes) → lines bytes ≡ bytes ∷ []
lines-one [] h none = absurd (omega arith)
lines-one (b ∷ bytes) h none = lines-whole b bytes none
