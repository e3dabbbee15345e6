-- Dependencies between numbered classes. No contract of a `Batch` cites this file.
use Rattle.std.specs.Prelude.{◌≡◌, ◌≢◌, ◌<◌, ◌≤◌, ◌*◌, ◌+◌, ℕ, Bool, true, false, ◌&&◌, ◌==◌, List, [], ◌∷◌, ◌++◌, All, flat_map, fold}
use Rattle.std.specs.Prelude.{length, map, nat_eq, slice_index_or, take, if◌then◌else◌}
use Rattle.std.specs.List.{list_any, AllPairs}
use Rattle.ld_class.specs.Blocks.{IsBlock, bits_on, classes_in, is_on}
use Rattle.ld_rules.specs.Inner.Scanned.{AreSame}
use Rattle.ld_tables.specs.declared.edges.EdgeFact.{EdgeFact}
use Rattle.ld_tables.specs.declared.masks.Mask.{Mask}
use Rattle.ld_tables.specs.declared.masks.NewEdges.{NewEdges}
use Rattle.ld_tables.specs.declared.masks.Word.{Word}

-- of the same two classes
abbrev pub same_pair : EdgeFact → EdgeFact → Bool
same_pair a b = a.from == b.from && a.to == b.to

-- the dependencies with this one, where its pair isn't there yet
abbrev pub with_edge_fact : List EdgeFact → EdgeFact → List EdgeFact
with_edge_fact edges edge = edges ++ (if list_any (same_pair edge) edges then [] else edge ∷ [])

-- no two are of the same two classes
abbrev pub AreApart : List EdgeFact → Type 0
AreApart edges = AllPairs (λ d e. same_pair e d ≡ false) edges

-- the dependency from one class to another, told at this line
abbrev pub edge_to : ℕ → ℕ → ℕ → EdgeFact
edge_to class line from = record { from = from; to = class; line = line }

-- the dependencies that a word's bits stand for, told at one line
abbrev pub edges_in : NewEdges → List EdgeFact
edges_in telling = map (edge_to telling.word.to telling.line) (classes_in telling.word.block telling.bits)

-- the dependencies that were told, in their order
abbrev pub edges_of : List NewEdges → List EdgeFact
edges_of tellings = flat_map edges_in tellings

-- what was told, and the words by their numbers
pub record KeptEdges : Type 0 where
  pub tellings : List NewEdges
  pub words : List Word

abbrev pub no_word : Word
no_word = record { block = 0; to = 0 }

abbrev pub word_at : List Word → ℕ → Word
word_at words number = slice_index_or words number no_word

-- words keep their numbers as more are met
pub record AreMore (old new : List Word) : Type 0 where
  pub more : length old ≤ length new
  pub kept : (n : ℕ) → n < length old → word_at new n ≡ word_at old n

-- what was told has this bit of the word with this number
abbrev pub has_told : List NewEdges → ℕ → ℕ → Bool
has_told tellings number place = list_any (λ (t : NewEdges). nat_eq number t.number && is_on t.bits place) tellings

-- Each word stands there once, and its block is one of classes with numbers of 32 bits. What was told is of words by
-- their numbers, and each telling has a bit; for each word the bits are on that were told, each once.
pub record AreTold (words : List Word) (told : List ℕ) (tellings : List NewEdges) : Type 0 where
  pub distinct : AllPairs (λ a b. a ≢ b) words
  pub low : All (λ (w : Word). IsBlock w.block) words
  pub many : length told ≡ length words
  pub within : All (λ (t : NewEdges). t.number < length words) tellings
  pub each : All (λ (t : NewEdges). word_at words t.number ≡ t.word) tellings
  pub some : All (λ (t : NewEdges). 0 < t.bits) tellings
  pub noted : (n k : ℕ) → n < length words → k < 64 → is_on (slice_index_or told n 0) k ≡ has_told tellings n k
  pub apart :
      AllPairs (λ (s t : NewEdges). (k : ℕ) → k < 64 → s.number ≡ t.number → is_on s.bits k ≡ true → is_on t.bits k ≡ false)
      tellings

-- a bit of one of the masks passes the test, which asks for the number of its word and its place
abbrev pub any_bit : (ℕ → ℕ → Bool) → List Mask → Bool
any_bit test masks = list_any (λ (m : Mask). list_any (test m.word) (bits_on m.bits)) masks

-- the classes that the bits of these masks stand for
abbrev pub classes_of : List Word → List Mask → List ℕ
classes_of words masks = flat_map (λ (m : Mask). classes_in (word_at words m.word).block m.bits) masks

-- Each mask is of a word of the class that is acquired; and a bit of one of them is on just where one of these classes
-- is held.
pub record AreMasks (words : List Word) (class : ℕ) (froms : List ℕ) (masks : List Mask) : Type 0 where
  pub within : All (λ (m : Mask). m.word < length words) masks
  pub to : All (λ (m : Mask). (word_at words m.word).to ≡ class) masks
  pub same : (from : ℕ) → list_any (nat_eq from) (classes_of words masks) ≡ list_any (nat_eq from) froms

-- the class was waited for at this line, under locks of these: the dependencies that weren't there come behind the
-- others, in some order
pub record AreToldTo (froms : List ℕ) (class line : ℕ) (old new : List EdgeFact) : Type 0 where
  pub first : take (length old) new ≡ old
  pub once : AreApart old → AreApart new
  pub told : AreSame (fold with_edge_fact old (map (edge_to class line) froms)) new
