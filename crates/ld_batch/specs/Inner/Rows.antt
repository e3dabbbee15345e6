-- What was met at witnesses, and dependencies by words. No public contract of a `Batch` cites this file.
use Rattle.std.specs.Prelude.{◌≡◌, ◌≢◌, ℕ, List, Option, None, Some, AllPairs, flat_map, map, option_map, slice_index_or}
use Rattle.ld_class.specs.Blocks.{classes_in}
use Rattle.ld_rules.specs.declared.outcome.Witness.{Witness}
use Rattle.ld_rules.specs.Dependency.{Seen}
use Rattle.ld_rules.specs.Union.{earlier}
use Rattle.ld_batch.specs.Batch.{Met}
use Rattle.ld_batch.specs.declared.rows.WitnessedEdge.{WitnessedEdge}
use Rattle.ld_batch.specs.declared.rows.WitnessedWord.{WitnessedWord}

-- the earlier of two witnesses, each of which may be absent
abbrev pub earlier_of : Option Witness → Option Witness → Option Witness
earlier_of None b = b
earlier_of (Some a) None = Some a
earlier_of (Some a) (Some b) = Some (earlier a b)

-- where something was seen in the trace of this number, if it was seen in a line
abbrev pub seen_in : ℕ → Option ℕ → Option Witness
seen_in number line = option_map (λ l. record { number = number; line = l }) line

-- what was met, as it was seen in its trace
abbrev pub seen_of : {A : Type 0} → Met A → Seen A
seen_of met = record { what = met.what; line = met.witness.line }

-- the dependencies of a word, by the places that its classes have by their numbers
abbrev pub edges_in : List ℕ → WitnessedWord → List WitnessedEdge
edges_in places word =
    map (λ from. record {
      from = slice_index_or places from 0;
      to = slice_index_or places word.to 0;
      witness = word.witness;
    }) (classes_in word.block word.bits)

-- those of all words
abbrev pub edges_of : List ℕ → List WitnessedWord → List WitnessedEdge
edges_of places words = flat_map (edges_in places) words

-- these are the things that were seen, each once, with the lines of their witnesses
pub record AreMet {A : Type 0} (seen : List (Seen A)) (met : List (Met A)) : Type 0 where
  pub same : map seen_of met ≡ seen
  pub apart : AllPairs (λ m n. m.what ≢ n.what) met
