-- The rows of a batch: dependencies and usage bits by the places of its classes, words by the numbers that its scan has
-- for these. No contract of a `Batch` cites this file.
use Rattle.std.specs.Prelude.{◌≡◌, ℕ, All, List, flat_map, map, nat_eq, true}
use Rattle.ld_class.specs.Blocks.{IsBlock, classes_in}
use Rattle.std.specs.List.{list_any, position_or_len}
use Rattle.ld_tables.specs.declared.edges.EdgeFact.{EdgeFact}
use Rattle.ld_tables.specs.declared.uses.UsageFact.{UsageFact}
use Rattle.ld_batch.specs.declared.rows.WitnessedEdge.{WitnessedEdge}
use Rattle.ld_batch.specs.declared.rows.WitnessedUse.{WitnessedUse}
use Rattle.ld_batch.specs.declared.rows.WitnessedWord.{WitnessedWord}
use Rattle.ld_tables.specs.declared.masks.NewEdges.{NewEdges}

-- the place of a class among those of a batch, by its number in the scan
abbrev pub place_in : List ℕ → ℕ → ℕ
place_in numbers class = position_or_len (nat_eq class) numbers

-- both classes are among these, by their numbers in the scan
abbrev pub IsOwnEdge : List ℕ → EdgeFact → Type 0
IsOwnEdge numbers fact =
    (list_any (nat_eq fact.from) numbers ≡ true) × (list_any (nat_eq fact.to) numbers ≡ true)

-- its class is among these, by its number in the scan
abbrev pub IsOwnUse : List ℕ → UsageFact → Type 0
IsOwnUse numbers fact = list_any (nat_eq fact.class) numbers ≡ true

-- a dependency that the trace of this number told
abbrev pub edge_of : List ℕ → ℕ → EdgeFact → WitnessedEdge
edge_of numbers number fact = record {
  from = place_in numbers fact.from;
  to = place_in numbers fact.to;
  witness = record { number = number; line = fact.line };
}

-- what the trace of this number told at one line
abbrev pub word_of : ℕ → NewEdges → WitnessedWord
word_of number telling = record {
  number = telling.number;
  block = telling.word.block;
  to = telling.word.to;
  bits = telling.bits;
  witness = record { number = number; line = telling.line };
}

-- the dependencies of a word, by the places of its classes among these
abbrev pub edges_in : List ℕ → WitnessedWord → List WitnessedEdge
edges_in numbers word =
    map (λ from. record {
      from = place_in numbers from;
      to = place_in numbers word.to;
      witness = word.witness;
    }) (classes_in word.block word.bits)

-- those of all words
abbrev pub edges_at : List ℕ → List WitnessedWord → List WitnessedEdge
edges_at numbers words = flat_map (edges_in numbers) words

-- both classes of each dependency of the word are among these, and its block is one of classes with numbers of 32 bits
pub record IsOwnWord (numbers : List ℕ) (word : WitnessedWord) : Type 0 where
  pub low : IsBlock word.block
  pub own :
      All (λ from. (list_any (nat_eq from) numbers ≡ true) × (list_any (nat_eq word.to) numbers ≡ true))
      (classes_in word.block word.bits)

-- the same of a usage bit
abbrev pub use_of : List ℕ → ℕ → UsageFact → WitnessedUse
use_of numbers number fact = record {
  class = place_in numbers fact.class;
  bit = fact.bit;
  witness = record { number = number; line = fact.line };
}
