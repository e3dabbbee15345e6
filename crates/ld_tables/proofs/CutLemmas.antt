-- What was told is taken back.
use Rattle.std.proofs.Common.{◌≡◌, ◌≢◌, ◌+◌, ◌^◌, ◌<◌, ◌≤◌, ◌∷◌, [], ◌++◌, ◌&&◌, ◌||◌, ◌⊎◌, inl, inr, List, ℕ, Bool, true, false, nat_eq, not, ap, ◌∙◌, sym, subst, refl, arith}
use Rattle.std.proofs.Common.{All, drop, get_or, length, length-take, set, take, w64}
use Rattle.std.proofs.Math.Bool.{or-false}
use Rattle.std.proofs.lemmas.Bool.{and_parts, cases_eq, eq-eqb, eqb-true, ne_eqb, true≢false}
use Rattle.std.proofs.lemmas.List.{get_or_default, get_or-drop, get_or-set_other, get_or-set_same, get_or-take, length-drop, length-set, length-take-le, take-append-drop, take_more}
use Rattle.std.proofs.lemmas.List.Elements.{All-take}
use Rattle.std.proofs.lemmas.List.Folds.{Any-from_list_any, list_any-append}
use Rattle.std.specs.Prelude.{bit_and}
use Rattle.std.specs.Int.{bit_not}
use Rattle.std.specs.List.{AllPairs, list_any}
use Rattle.ld_class.specs.Blocks.{is_on}
use Rattle.ld_class.proofs.BlockLemmas.{is_on-left}
use Rattle.ld_tables.specs.declared.masks.NewEdges.{NewEdges}
use Rattle.ld_tables.specs.declared.masks.Word.{Word}
use Rattle.ld_tables.specs.Inner.Edges.{AreTold, has_told, word_at}

-- one telling more
pub off-more : (tellings : List NewEdges) (i : ℕ) (t : NewEdges) → i < length tellings → get_or tellings i t ≡ t → (before told : List ℕ) → t.number < length told → t.bits < 2 ^ 64
    → ((n k : ℕ) → n < length told → k < 64 → is_on (get_or told n 0) k ≡ (is_on (get_or before n 0) k && not (has_told (take i tellings) n k)))
    → (n k : ℕ) → n < length told → k < 64
    → is_on (get_or (set told t.number (bit_and (get_or told t.number 0) (bit_not w64 t.bits))) n 0) k ≡ (is_on (get_or before n 0) k && not (has_told (take (i + 1) tellings) n k))
off-more tellings i t within is before told inside small so_far n k low place = by (cases_eq n t.number)
  where
    further : has_told (take (i + 1) tellings) n k ≡ (has_told (take i tellings) n k || (nat_eq n t.number && is_on t.bits k))
    further =
        ap (λ ts. has_told ts n k) (take_more tellings i t within ∙ ap (λ x. take i tellings ++ x ∷ []) is)
        ∙ list_any-append (λ (s : NewEdges). nat_eq n s.number && is_on s.bits k) (take i tellings) (t ∷ [])
        ∙ ap (λ b. has_told (take i tellings) n k || b) (or-false (nat_eq n t.number && is_on t.bits k))

    both : (a b c : Bool) → ((a && not b) && not c) ≡ (a && not (b || c))
    both true true c = refl
    both true false c = refl
    both false b c = refl

    by : (n ≡ t.number) ⊎ (n ≢ t.number) → is_on (get_or (set told t.number (bit_and (get_or told t.number 0) (bit_not w64 t.bits))) n 0) k ≡ (is_on (get_or before n 0) k && not (has_told (take (i + 1) tellings) n k))
    by (inl here) =
        ap (λ bits. is_on bits k) (ap (λ m. get_or (set told t.number (bit_and (get_or told t.number 0) (bit_not w64 t.bits))) m 0) here ∙ get_or-set_same told t.number (bit_and (get_or told t.number 0) (bit_not w64 t.bits)) 0 inside)
        ∙ is_on-left (get_or told t.number 0) t.bits k small place
        ∙ ap (λ m. is_on (get_or told m 0) k && not (is_on t.bits k)) (sym here)
        ∙ ap (λ b. b && not (is_on t.bits k)) (so_far n k low place)
        ∙ both (is_on (get_or before n 0) k) (has_told (take i tellings) n k) (is_on t.bits k)
        ∙ ap (λ b. is_on (get_or before n 0) k && not (has_told (take i tellings) n k || (b && is_on t.bits k))) (sym (eq-eqb n t.number here))
        ∙ ap (λ b. is_on (get_or before n 0) k && not b) (sym further)
    by (inr other) =
        ap (λ bits. is_on bits k) (get_or-set_other told t.number n (bit_and (get_or told t.number 0) (bit_not w64 t.bits)) 0 other)
        ∙ so_far n k low place
        ∙ ap (λ b. is_on (get_or before n 0) k && not b) (sym (or-false (has_told (take i tellings) n k)))
        ∙ ap (λ b. is_on (get_or before n 0) k && not (has_told (take i tellings) n k || (b && is_on t.bits k))) (sym (ne_eqb n t.number other))
        ∙ ap (λ b. is_on (get_or before n 0) k && not b) (sym further)

-- the first of what was told
module _ (words : List Word) (told : List ℕ) (tellings : List NewEdges) (are : AreTold words told tellings) (count : ℕ) (left : List ℕ) (many : length left ≡ length told)
    (off : (n k : ℕ) → n < length told → k < 64 → is_on (get_or left n 0) k ≡ (is_on (get_or told n 0) k && not (has_told (drop count tellings) n k))) where
  split : (n k : ℕ) → has_told tellings n k ≡ (has_told (take count tellings) n k || has_told (drop count tellings) n k)
  split n k =
      ap (λ ts. has_told ts n k) (sym (take-append-drop count tellings))
      ∙ list_any-append (λ (t : NewEdges). nat_eq n t.number && is_on t.bits k) (take count tellings) (drop count tellings)

  -- a bit that was told before isn't told again
  not_again : (n k : ℕ) → k < 64 → has_told (take count tellings) n k ≡ true → (b : Bool) → has_told (drop count tellings) n k ≡ b → b ≡ false
  not_again n k place first false is = refl
  not_again n k place first true is =
      let one = Any-from_list_any (λ (t : NewEdges). nat_eq n t.number && is_on t.bits k) (take count tellings) first in
      let other = Any-from_list_any (λ (t : NewEdges). nat_eq n t.number && is_on t.bits k) (drop count tellings) is in
      let s = one.1 in
      let parts = and_parts (nat_eq n s.number) (is_on s.bits k) one.4 in
      let more = and_parts (nat_eq n other.1.number) (is_on other.1.bits k) other.4 in
      let low : one.0 < count = omega (arith, one.2, length-take count tellings) in
      let within : count + other.0 < length tellings = omega (arith, other.2, length-drop count tellings) in
      let at : get_or tellings one.0 s ≡ s = sym (get_or-take count tellings one.0 s low) ∙ one.3 in
      let there : get_or tellings (count + other.0) s ≡ other.1 = sym (get_or-drop count tellings other.0 s) ∙ get_or_default (drop count tellings) other.0 s other.1 other.2 ∙ other.3 in
      let apart = are.apart one.0 (count + other.0) s (omega (arith, low)) within k place
      (ap (λ (t : NewEdges). t.number) at ∙ sym (eqb-true n s.number parts.0) ∙ eqb-true n other.1.number more.0 ∙ sym (ap (λ (t : NewEdges). t.number) there))
      (ap (λ (t : NewEdges). is_on t.bits k) at ∙ parts.1) in
      absurd (true≢false (sym more.1 ∙ sym (ap (λ (t : NewEdges). is_on t.bits k) there) ∙ apart))

  pub told-cut : AreTold words left (take count tellings)
  told-cut = record {
    distinct = are.distinct;
    low = are.low;
    many = many ∙ are.many;
    within = All-take (λ (t : NewEdges). t.number < length words) count tellings are.within;
    each = All-take (λ (t : NewEdges). word_at words t.number ≡ t.word) count tellings are.each;
    some = All-take (λ (t : NewEdges). 0 < t.bits) count tellings are.some;
    noted = λ n k within place.
        off n k (omega (arith, within, are.many)) place
        ∙ ap (λ b. b && not (has_told (drop count tellings) n k)) (are.noted n k within place ∙ split n k)
        ∙ first (has_told (take count tellings) n k) (has_told (drop count tellings) n k) (λ told. not_again n k place told (has_told (drop count tellings) n k) refl);
    apart = λ i j d before within.
        let low : j < count = omega (arith, within, length-take count tellings) in
        let inside : j < length tellings = omega (arith, within, length-take count tellings) in
        subst (λ s. (k : ℕ) → k < 64 → s.number ≡ (get_or (take count tellings) j d).number → is_on s.bits k ≡ true → is_on (get_or (take count tellings) j d).bits k ≡ false) (sym (get_or-take count tellings i d (omega (arith, low, before))))
        (subst (λ (t : NewEdges). (k : ℕ) → k < 64 → (get_or tellings i d).number ≡ t.number → is_on (get_or tellings i d).bits k ≡ true → is_on t.bits k ≡ false) (sym (get_or-take count tellings j d low)) (are.apart i j d before inside));
  }
    where
      first : (a b : Bool) → (a ≡ true → b ≡ false) → ((a || b) && not b) ≡ a
      first true b none = ap not (none refl)
      first false true none = refl
      first false false none = refl
