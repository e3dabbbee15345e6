-- Dependencies of words, one by one.
use Rattle.std.proofs.Common.{◌≡◌, ◌+◌, ◌*◌, ◌^◌, ◌%◌, ◌<◌, ◌≤◌, ◌++◌, ◌∷◌, [], List, ℕ, ap, arith, sym, get_or, length, map, slice_index_or, take, w64, ◌∙◌}
use Rattle.std.proofs.lemmas.List.{append-nil, length-map, take_more}
use Rattle.std.proofs.lemmas.List.Concat.{flat_map-append}
use Rattle.std.proofs.Math.ListN.{length-append}
use Rattle.std.specs.Int.Count.{ones}
use Rattle.std.specs.Int.{bit_not, trailing_zeros}
use Rattle.std.specs.Prelude.{bit_and}
use Rattle.ld_class.specs.Blocks.{bits_on, classes_in}
use Rattle.ld_class.proofs.BlockLemmas.{bits_on-first, bits_on-few, bits_on-zero, length-bits_on}
use Rattle.ld_rules.specs.declared.outcome.Witness.{Witness}
use Rattle.ld_batch.specs.declared.rows.WitnessedEdge.{WitnessedEdge}
use Rattle.ld_batch.specs.declared.rows.WitnessedWord.{WitnessedWord}
use Rattle.ld_batch.specs.Inner.Rows.{edges_in, edges_of}

-- the dependency from one class to another, by their places
abbrev pub edge_by : List ℕ → ℕ → Witness → ℕ → WitnessedEdge
edge_by places to witness from = record { from = slice_index_or places from 0; to = slice_index_or places to 0; witness = witness }

-- the word with these bits
abbrev pub with_bits : WitnessedWord → ℕ → WitnessedWord
with_bits word bits = record word { bits = bits }

-- the bits without the lowest one
abbrev pub but_lowest : ℕ → ℕ
but_lowest bits = bit_and bits (bit_not w64 (1 * 2 ^ trailing_zeros w64 bits % 2 ^ 64))

module _ (places : List ℕ) where
  -- as many as bits are on
  pub many-in : (word : WitnessedWord) → length (edges_in places word) ≡ length (bits_on word.bits)
  many-in word = length-map (classes_in word.block word.bits) (edge_by places word.to word.witness) ∙ length-map (bits_on word.bits) (λ place. 64 * word.block + place)

  -- one word more
  pub edges-more : (words : List WitnessedWord) (i : ℕ) (word : WitnessedWord) → i < length words → get_or words i word ≡ word
      → edges_of places (take (i + 1) words) ≡ edges_of places (take i words) ++ edges_in places word
  edges-more words i word within is =
      ap (edges_of places) (take_more words i word within ∙ ap (λ x. take i words ++ x ∷ []) is)
      ∙ flat_map-append (edges_in places) (take i words) (word ∷ [])
      ∙ ap (λ edges. edges_of places (take i words) ++ edges) (append-nil (edges_in places word))

  pub count-more : (words : List WitnessedWord) (i : ℕ) (word : WitnessedWord) → i < length words → get_or words i word ≡ word → word.bits < 2 ^ 64
      → length (edges_of places (take (i + 1) words)) ≡ length (edges_of places (take i words)) + ones word.bits
  count-more words i word within is low =
      ap length (edges-more words i word within is)
      ∙ length-append (edges_of places (take i words)) (edges_in places word)
      ∙ ap (λ n. length (edges_of places (take i words)) + n) (many-in word ∙ length-bits_on word.bits low)

  -- the lowest of a word's bits, and the others
  pub edges-first : (word : WitnessedWord) → 0 < word.bits → word.bits < 2 ^ 64
      → edges_in places word ≡ edge_by places word.to word.witness (64 * word.block + trailing_zeros w64 word.bits) ∷ edges_in places (with_bits word (but_lowest word.bits))
  edges-first word some low = ap (λ ps. map (edge_by places word.to word.witness) (map (λ place. 64 * word.block + place) ps)) (bits_on-first word.bits some low)

  -- a word without bits
  pub edges-none : (word : WitnessedWord) → word.bits ≡ 0 → edges_in places word ≡ []
  edges-none word none = ap (λ ps. map (edge_by places word.to word.witness) (map (λ place. 64 * word.block + place) ps)) (ap bits_on none ∙ bits_on-zero)

  module _ (word : WitnessedWord) (words : List WitnessedWord) (all : List WitnessedEdge) (is : edges_of places (word ∷ words) ≡ all) where
    -- the first of all, and the others
    pub all-first : 0 < word.bits → word.bits < 2 ^ 64 → (from to : ℕ) → from ≡ slice_index_or places (64 * word.block + trailing_zeros w64 word.bits) 0 → to ≡ slice_index_or places word.to 0
        → all ≡ record { from = from; to = to; witness = word.witness } ∷ edges_of places (with_bits word (but_lowest word.bits) ∷ words)
    all-first some low from to is_from is_to =
        sym is
        ∙ ap (λ edges. edges ++ edges_of places words) (edges-first word some low)
        ∙ (λ i. record { from = sym is_from i; to = sym is_to i; witness = word.witness } ∷ edges_of places (with_bits word (but_lowest word.bits) ∷ words))

    -- those of the words behind a word without bits
    pub all-behind : word.bits ≡ 0 → all ≡ edges_of places words
    all-behind none = sym is ∙ ap (λ edges. edges ++ edges_of places words) (edges-none word none)

pub few-ones : (bits : ℕ) → bits < 2 ^ 64 → ones bits ≤ 64
few-ones bits low = omega (arith, length-bits_on bits low, bits_on-few bits)
