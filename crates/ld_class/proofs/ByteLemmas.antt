-- Bytes that are compared as numbers, and from both ends.
use Rattle.std.proofs.Common.{◌≡◌, ◌<◌, ◌≤◌, ◌+◌, ◌-◌, ◌++◌, ℕ, List, length, nat_eq, take, drop, w16, w32, w64}
use Rattle.std.proofs.Common.{get_or, refl, ap, sym, ◌∙◌, arith}
use Rattle.std.proofs.lemmas.Bool.{eqb-true, eq-eqb}
use Rattle.std.proofs.lemmas.List.{drop-drop, take-append-drop}
use Rattle.std.proofs.lemmas.Nat.{le_bytes_2, le_bytes_4, le_bytes_8}
use Rattle.std.specs.Bool.{Decides}
use Rattle.std.specs.Int.{from_le_bytes, to_le_bytes}

-- eight bytes are told by the number that they make
pub word-Decides : (a b : List ℕ) → length a ≡ 8 → length b ≡ 8
    → ((i : ℕ) → get_or a i 0 < 256) → ((i : ℕ) → get_or b i 0 < 256)
    → Decides (nat_eq (from_le_bytes w64 a) (from_le_bytes w64 b)) (a ≡ b)
word-Decides a b many_a many_b fits_a fits_b = (
  λ same. sym (le_bytes_8 a (from_le_bytes w64 a) many_a fits_a refl)
      ∙ ap (to_le_bytes w64) (eqb-true (from_le_bytes w64 a) (from_le_bytes w64 b) same)
      ∙ le_bytes_8 b (from_le_bytes w64 b) many_b fits_b refl,
  λ same. eq-eqb (from_le_bytes w64 a) (from_le_bytes w64 b) (ap (from_le_bytes w64) same),
)

-- and so are two
pub two-Decides : (a b : List ℕ) → length a ≡ 2 → length b ≡ 2
    → ((i : ℕ) → get_or a i 0 < 256) → ((i : ℕ) → get_or b i 0 < 256)
    → Decides (nat_eq (from_le_bytes w16 a) (from_le_bytes w16 b)) (a ≡ b)
two-Decides a b many_a many_b fits_a fits_b = (
  λ same. sym (le_bytes_2 a (from_le_bytes w16 a) many_a fits_a refl)
      ∙ ap (to_le_bytes w16) (eqb-true (from_le_bytes w16 a) (from_le_bytes w16 b) same)
      ∙ le_bytes_2 b (from_le_bytes w16 b) many_b fits_b refl,
  λ same. eq-eqb (from_le_bytes w16 a) (from_le_bytes w16 b) (ap (from_le_bytes w16) same),
)

-- and so are four
pub four-Decides : (a b : List ℕ) → length a ≡ 4 → length b ≡ 4
    → ((i : ℕ) → get_or a i 0 < 256) → ((i : ℕ) → get_or b i 0 < 256)
    → Decides (nat_eq (from_le_bytes w32 a) (from_le_bytes w32 b)) (a ≡ b)
four-Decides a b many_a many_b fits_a fits_b = (
  λ same. sym (le_bytes_4 a (from_le_bytes w32 a) many_a fits_a refl)
      ∙ ap (to_le_bytes w32) (eqb-true (from_le_bytes w32 a) (from_le_bytes w32 b) same)
      ∙ le_bytes_4 b (from_le_bytes w32 b) many_b fits_b refl,
  λ same. eq-eqb (from_le_bytes w32 a) (from_le_bytes w32 b) (ap (from_le_bytes w32) same),
)

-- at most twice k bytes are their first k, and what follows of their last k
ends : (k : ℕ) (a : List ℕ) → k ≤ length a → length a ≤ k + k
    → take k a ++ drop (k + k - length a) (drop (length a - k) a) ≡ a
ends k a some few =
    let at : (length a - k) + (k + k - length a) ≡ k = omega (arith, some, few) in
    ap (λ l. take k a ++ l) (drop-drop (k + k - length a) (length a - k) a ∙ ap (λ n. drop n a) at) ∙ take-append-drop k a

-- so they are told by these
pub ends-same : (k : ℕ) (a b : List ℕ) → length a ≡ length b → k ≤ length a → length a ≤ k + k
    → take k a ≡ take k b → drop (length a - k) a ≡ drop (length b - k) b → a ≡ b
ends-same k a b many some few first last =
    sym (ends k a some few)
    ∙ (λ i. first i ++ drop (k + k - many i) (last i))
    ∙ ends k b (omega (arith, some, many)) (omega (arith, few, many))
