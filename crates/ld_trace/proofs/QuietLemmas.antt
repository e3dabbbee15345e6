-- One vector more of bytes after whose line ends no header begins.
use Rattle.std.proofs.Common.{◌≡◌, ℕ, ◌+◌, ◌-◌, ◌<◌, ◌≤◌, ◌⊎◌, inl, inr, Bool, true, false, cond, min, List, map, length, take}
use Rattle.std.proofs.Common.{count_by, refl, sym, ap, ap₂, ◌∙◌, arith, get_or}
use Rattle.std.proofs.Math.Seq.{take-add}
use Rattle.std.proofs.lemmas.Bool.{cases_lt}
use Rattle.std.proofs.lemmas.List.{get_or-map}
use Rattle.std.proofs.lemmas.List.Sums.{sum_by-append}
use Rattle.std.proofs.lemmas.Nat.Bits.{bit_at_and, bit_at-zero}
use Rattle.std.proofs.lemmas.Simd.{bit_mask_l, get_or-chunk, length-chunk, ones-mask_l}
use Rattle.std.specs.Int.{bit_at}
use Rattle.std.specs.Int.RustNames.{count_ones}
use Rattle.ld_trace.specs.Inner.Splitting.{IsQuiet, is_lf, may_begin}
use lib.Bits.{bit_and}
use lib.Lanes.{chunk, mask_l}

-- a bit of the mask says what the test says of its byte
bit-of : (p : ℕ → Bool) (bytes : List ℕ) (i j : ℕ) → i + 32 ≤ length bytes → j < 32 → bit_at (mask_l (map p (chunk i 32 bytes))) j ≡ cond (p (get_or bytes (i + j) 0)) 1 0
bit-of p bytes i j room below =
    let lane : get_or (map p (chunk i 32 bytes)) j false ≡ p (get_or bytes (i + j) 0) =
    get_or-map p (chunk i 32 bytes) j 0 false (omega (arith, length-chunk i 32 bytes room)) ∙ ap p (get_or-chunk i 32 bytes j 0 below) in
    bit_mask_l (map p (chunk i 32 bytes)) j ∙ ap (λ b. cond b 1 0) lane

-- where two bits are not both set and the first is, the second isn't
apart : (a b : Bool) → min (cond a 1 0) (cond b 1 0) ≡ 0 → a ≡ true → b ≡ false
apart a false none is = refl
apart true true none is = absurd (omega (arith, none))
apart false true none is = absurd (cc)

-- the bits of the LFs among 32 bytes, and of the bytes behind these by which a header may begin
pub record AreMasks (bytes : List ℕ) (len ends starts : ℕ) : Type 0 where
  pub room : len + 32 < length bytes
  pub of_ends : ends ≡ mask_l (map is_lf (chunk len 32 bytes))
  pub of_starts : starts ≡ mask_l (map may_begin (chunk (len + 1) 32 bytes))

-- where no bit is set in both, these bytes are quiet too
pub quiet-more : (bytes : List ℕ) (len ends starts : ℕ) → AreMasks bytes len ends starts → bit_and ends starts ≡ 0 → IsQuiet bytes len → IsQuiet bytes (len + 32)
quiet-more bytes len ends starts masks none before k below lf = by (cases_lt k len)
  where
    at : (j : ℕ) → j < 32 → k ≡ len + j → may_begin (get_or bytes (k + 1) 0) ≡ false
    at j short is =
        let here : bit_at ends j ≡ cond (is_lf (get_or bytes k 0)) 1 0 =
        ap (λ n. bit_at n j) masks.of_ends ∙ bit-of is_lf bytes len j (omega (arith, masks.room)) short ∙ ap (λ i. cond {A = ℕ} (is_lf (get_or bytes i 0)) 1 0) (sym is) in
        let next : bit_at starts j ≡ cond (may_begin (get_or bytes (k + 1) 0)) 1 0 =
        ap (λ n. bit_at n j) masks.of_starts ∙ bit-of may_begin bytes (len + 1) j (omega (arith, masks.room)) short
        ∙ ap (λ i. cond {A = ℕ} (may_begin (get_or bytes i 0)) 1 0) (omega arith) in
        apart (is_lf (get_or bytes k 0)) (may_begin (get_or bytes (k + 1) 0))
        (sym (ap₂ min here next) ∙ sym (bit_at_and ends starts j) ∙ ap (λ n. bit_at n j) none ∙ bit_at-zero j) lf

    by : (k < len) ⊎ (len ≤ k) → may_begin (get_or bytes (k + 1) 0) ≡ false
    by (inl low) = before k low lf
    by (inr high) = at (k - len) (omega arith) (omega arith)

-- and as many LFs more stand there as bits are set
pub ends-more : (bytes : List ℕ) (len ends starts : ℕ) → AreMasks bytes len ends starts → count_by is_lf (take (len + 32) bytes) ≡ count_by is_lf (take len bytes) + count_ones ends
ends-more bytes len ends starts masks =
    ap (count_by is_lf) (take-add len 32 bytes) ∙ sum_by-append (λ b. cond (is_lf b) 1 0) (take len bytes) (chunk len 32 bytes)
    ∙ ap (λ n. count_by is_lf (take len bytes) + n) (sym (ap count_ones masks.of_ends ∙ ones-mask_l is_lf (chunk len 32 bytes)))
