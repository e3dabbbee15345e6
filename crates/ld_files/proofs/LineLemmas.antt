-- The LFs of some bytes, by those of their parts.
use Rattle.std.proofs.Common.{◌≡◌, ℕ, ◌+◌, ◌-◌, cond, List, length, map, take, drop, count_by, sym, ap, ◌∙◌}
use Rattle.std.proofs.Math.Seq.{take-add}
use Rattle.std.proofs.lemmas.List.{take_rest}
use Rattle.std.proofs.lemmas.List.Sums.{sum_by-append, sum_by-take-drop}
use Rattle.std.proofs.lemmas.Simd.{ones-mask_l}
use Rattle.std.specs.Int.RustNames.{count_ones}
use Rattle.ld_files.specs.Streams.{is_lf}
use lib.Lanes.{chunk, mask_l}

-- behind the first ones as many LFs more stand in 32 bytes as bits are set of those that tell which are LFs
pub ends-more : (bytes : List ℕ) (len ends : ℕ) → ends ≡ mask_l (map is_lf (chunk len 32 bytes)) → count_by is_lf (take (len + 32) bytes) ≡ count_by is_lf (take len bytes) + count_ones ends
ends-more bytes len ends is =
    ap (count_by is_lf) (take-add len 32 bytes) ∙ sum_by-append (λ b. cond (is_lf b) 1 0) (take len bytes) (chunk len 32 bytes)
    ∙ ap (λ n. count_by is_lf (take len bytes) + n) (sym (ap count_ones is ∙ ones-mask_l is_lf (chunk len 32 bytes)))

-- the LFs of some bytes at the front and those behind them, as a slice has these, are all
pub ends-behind : (bytes : List ℕ) (len : ℕ) → count_by is_lf (take len bytes) + count_by is_lf (take (length bytes - len) (drop len bytes)) ≡ count_by is_lf bytes
ends-behind bytes len =
    ap (λ behind. count_by is_lf (take len bytes) + count_by is_lf behind) (take_rest bytes len) ∙ sum_by-take-drop (λ b. cond (is_lf b) 1 0) bytes len
