-- The rows of a batch by words.
use Rattle.std.proofs.Common.{◌≡◌, ◌+◌, ◌++◌, ◌∷◌, [], ◌||◌, All, Bool, true, false, List, ℕ, ap, arith, cond, drop, get_or, length, map, nat_eq, not, refl, subst, sym, take, ◌∙◌}
use Rattle.std.proofs.lemmas.Bool.{true≢false}
use Rattle.std.proofs.lemmas.List.{get_or_append_left, map-append, take-append-drop}
use Rattle.std.proofs.lemmas.List.Concat.{flat_map-append}
use Rattle.std.proofs.lemmas.List.Elements.{All-append, All-cons, All-drop, All-head, All-nil, All-tail, All-weaker}
use Rattle.std.proofs.Math.ListN.{length-append}
use Rattle.std.proofs.Math.Seq.{drop-append_seam}
use Rattle.std.proofs.lemmas.Simd.{map-map}
use Rattle.std.specs.List.{list_any}
use Rattle.ld_class.specs.Blocks.{IsBlock, classes_in}
use Rattle.ld_batch.specs.declared.rows.WitnessedWord.{WitnessedWord}
use Rattle.ld_batch.specs.Inner.Rows as lent
use Rattle.ld_tables.specs.declared.masks.NewEdges.{NewEdges}
use Rattle.ld_tables.specs.Inner.Edges as told
use Rattle.ld_facts.specs.Inner.Rows.{IsOwnEdge, IsOwnWord, edge_of, edges_at, edges_in, place_in, word_of}
use Rattle.ld_facts.proofs.RowLemmas.{first_there}
use Rattle.ld_facts.proofs.TraceLemmas.{same_maps}

-- what is of all is of the first of them, and of those behind
pub All-first : {X : Type 0} (P : X → Type 0) (xs ys : List X) → All P (xs ++ ys) → All P xs
All-first P xs ys all k d within = subst P (get_or_append_left xs ys d k within) (all k d (omega (arith, within, length-append xs ys)))

pub All-behind : {X : Type 0} (P : X → Type 0) (xs ys : List X) → All P (xs ++ ys) → All P ys
All-behind P xs ys all = subst (All P) (drop-append_seam xs ys) (All-drop P (length xs) (xs ++ ys) all)

all-unmapped : {X Y : Type 0} (P : Y → Type 0) (f : X → Y) (xs : List X) → All P (map f xs) → All (λ x. P (f x)) xs
all-unmapped P f [] all = All-nil (λ x. P (f x))
all-unmapped P f (x ∷ xs) all = All-cons (λ x. P (f x)) x xs (All-head P (f x) (map f xs) all) (all-unmapped P f xs (All-tail P (f x) (map f xs) all))

-- What a line told is what its row has.
told-in : (numbers : List ℕ) (number : ℕ) (t : NewEdges) → edges_in numbers (word_of number t) ≡ map (edge_of numbers number) (told.edges_in t)
told-in numbers number t = sym (map-map (edge_of numbers number) (told.edge_to t.word.to t.line) (classes_in t.word.block t.bits))

pub words-told : (numbers : List ℕ) (number : ℕ) (tellings : List NewEdges) → edges_at numbers (map (word_of number) tellings) ≡ map (edge_of numbers number) (told.edges_of tellings)
words-told numbers number [] = refl
words-told numbers number (t ∷ tellings) =
    (λ i. told-in numbers number t i ++ words-told numbers number tellings i)
    ∙ sym (map-append (edge_of numbers number) (told.edges_in t) (told.edges_of tellings))

-- rows behind others
pub words-append : (numbers : List ℕ) (words more : List WitnessedWord) → edges_at numbers (words ++ more) ≡ edges_at numbers words ++ edges_at numbers more
words-append numbers words more = flat_map-append (edges_in numbers) words more

-- the place of a number that stands first stays
place-first : (numbers more : List ℕ) (n : ℕ) → list_any (nat_eq n) numbers ≡ true → place_in (numbers ++ more) n ≡ place_in numbers n
place-first [] more n there = absurd (true≢false (sym there))
place-first (x ∷ xs) more n there = by (nat_eq n x) there (place-first xs more n)
  where
    by : (b : Bool) → (b || list_any (nat_eq n) xs) ≡ true → (list_any (nat_eq n) xs ≡ true → place_in (xs ++ more) n ≡ place_in xs n)
        → cond (not b) (1 + place_in (xs ++ more) n) 0 ≡ cond (not b) (1 + place_in xs n) 0
    by true _ rest = refl
    by false found rest = ap (λ k. 1 + k) (rest found)

module _ (old new : List ℕ) (front : take (length old) new ≡ old) where
  place-stays : (n : ℕ) → list_any (nat_eq n) old ≡ true → place_in new n ≡ place_in old n
  place-stays n there =
      ap (λ ns. place_in ns n) (sym (take-append-drop (length old) new) ∙ ap (λ ns. ns ++ drop (length old) new) front)
      ∙ place-first old (drop (length old) new) n there

  -- the rows say the same with more numbers
  pub words-stay : (words : List WitnessedWord) → All (IsOwnWord old) words → edges_at new words ≡ edges_at old words
  words-stay [] own = refl
  words-stay (w ∷ words) own =
      let here = All-head (IsOwnWord old) w words own in
      (λ i. same_maps (λ (from : ℕ). record { from = place_in new from; to = place_in new w.to; witness = w.witness }) (λ from. record { from = place_in old from; to = place_in old w.to; witness = w.witness })
      (λ from. (list_any (nat_eq from) old ≡ true) × (list_any (nat_eq w.to) old ≡ true))
      (λ from both j. record { from = place-stays from both.0 j; to = place-stays w.to both.1 j; witness = w.witness }) (classes_in w.block w.bits) here.own i
      ++ words-stay words (All-tail (IsOwnWord old) w words own) i)

  own-stays : (w : WitnessedWord) → IsOwnWord old w → IsOwnWord new w
  own-stays w is = record {
    low = is.low;
    own = All-weaker (λ from. (list_any (nat_eq from) old ≡ true) × (list_any (nat_eq w.to) old ≡ true)) (λ from. (list_any (nat_eq from) new ≡ true) × (list_any (nat_eq w.to) new ≡ true))
        (λ from both. (first_there old new front from both.0, first_there old new front w.to both.1)) (classes_in w.block w.bits) is.own;
  }

  -- and with more rows, all are of these numbers
  pub own-words : (words : List WitnessedWord) (number : ℕ) (tellings : List NewEdges) → All (IsOwnWord old) words → All (λ (t : NewEdges). IsBlock t.word.block) tellings
      → All (IsOwnEdge new) (told.edges_of tellings) → All (IsOwnWord new) (words ++ map (word_of number) tellings)
  own-words words number tellings own low told_own = All-append (IsOwnWord new) words (map (word_of number) tellings) (All-weaker (IsOwnWord old) (IsOwnWord new) own-stays words own) (each tellings low told_own)
    where
      each : (ts : List NewEdges) → All (λ (t : NewEdges). IsBlock t.word.block) ts → All (IsOwnEdge new) (told.edges_of ts) → All (IsOwnWord new) (map (word_of number) ts)
      each [] low own = All-nil (IsOwnWord new)
      each (t ∷ ts) low own = All-cons (IsOwnWord new) (word_of number t) (map (word_of number) ts)
          (record {
            low = All-head (λ (t : NewEdges). IsBlock t.word.block) t ts low;
            own = all-unmapped (IsOwnEdge new) (told.edge_to t.word.to t.line) (classes_in t.word.block t.bits) (All-first (IsOwnEdge new) (told.edges_in t) (told.edges_of ts) own);
          })
          (each ts (All-tail (λ (t : NewEdges). IsBlock t.word.block) t ts low) (All-behind (IsOwnEdge new) (told.edges_in t) (told.edges_of ts) own))

-- Rows by places that are lent are the same.
pub words-lent : (numbers places : List ℕ) → ((n : ℕ) → list_any (nat_eq n) numbers ≡ true → get_or places n 0 ≡ place_in numbers n) → (words : List WitnessedWord) → All (IsOwnWord numbers) words
    → lent.edges_of places words ≡ edges_at numbers words
words-lent numbers places are [] own = refl
words-lent numbers places are (w ∷ words) own =
    let here = All-head (IsOwnWord numbers) w words own in
    (λ i. same_maps (λ (from : ℕ). record { from = get_or places from 0; to = get_or places w.to 0; witness = w.witness }) (λ from. record { from = place_in numbers from; to = place_in numbers w.to; witness = w.witness })
    (λ from. (list_any (nat_eq from) numbers ≡ true) × (list_any (nat_eq w.to) numbers ≡ true))
    (λ from both j. record { from = are from both.0 j; to = are w.to both.1 j; witness = w.witness }) (classes_in w.block w.bits) here.own i
    ++ words-lent numbers places are words (All-tail (IsOwnWord numbers) w words own) i)
