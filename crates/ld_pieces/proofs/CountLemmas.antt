-- How many LFs there are, by the first of them.
use Rattle.std.proofs.Common.{◌≡◌, ◌+◌, ◌<◌, ◌∙◌, List, [], ◌∷◌, ℕ, Bool, true, false, ap, arith, cond, count_by, drop, length, refl, suc, zero}
use Rattle.std.proofs.lemmas.List.Sums.{sum_by-cons}
use Rattle.memchr.specs.Find.{is_byte, Nowhere, Passes}
use Rattle.ld_trace.specs.Inner.Splitting.{is_lf}

-- a first byte, and those behind it
one-more : (b : ℕ) (bytes : List ℕ) (test : Bool) → is_byte 10 b ≡ test → count_by is_lf (b ∷ bytes) ≡ cond test 1 0 + count_by is_lf bytes
one-more b bytes test is = sum_by-cons (λ x. cond (is_lf x) 1 0) b bytes ∙ ap (λ t. cond t 1 0 + count_by is_lf bytes) is

-- the first LF, and those behind it
pub count-first : (bytes : List ℕ) (k : ℕ) → k < length bytes → Nowhere (Passes (is_byte 10) bytes) 0 k → Passes (is_byte 10) bytes k
    → count_by is_lf bytes ≡ 1 + count_by is_lf (drop (suc k) bytes)
count-first [] k h before here = absurd (omega arith)
count-first (b ∷ bytes) zero h before here = one-more b bytes true here
count-first (b ∷ bytes) (suc k) h before here = by (is_byte 10 b) refl (count-first bytes k (omega arith) (λ j low high. before (suc j) (omega arith) (omega arith)) here)
  where
    by : (test : Bool) → is_byte 10 b ≡ test → count_by is_lf bytes ≡ 1 + count_by is_lf (drop (suc k) bytes)
        → count_by is_lf (b ∷ bytes) ≡ 1 + count_by is_lf (drop (suc (suc k)) (b ∷ bytes))
    by true is others = absurd (before 0 (omega arith) (omega arith) is)
    by false is others = let more : count_by is_lf (b ∷ bytes) ≡ 0 + count_by is_lf bytes = one-more b bytes false is in omega (arith, more, others)

pub count-none : (bytes : List ℕ) → Nowhere (Passes (is_byte 10) bytes) 0 (length bytes) → count_by is_lf bytes ≡ 0
count-none [] none = refl
count-none (b ∷ bytes) none = by (is_byte 10 b) refl (count-none bytes (λ j low high. none (suc j) (omega arith) (omega arith)))
  where
    by : (test : Bool) → is_byte 10 b ≡ test → count_by is_lf bytes ≡ 0 → count_by is_lf (b ∷ bytes) ≡ 0
    by true is others = absurd (none 0 (omega arith) (omega arith) is)
    by false is others = let more : count_by is_lf (b ∷ bytes) ≡ 0 + count_by is_lf bytes = one-more b bytes false is in omega (arith, more, others)
