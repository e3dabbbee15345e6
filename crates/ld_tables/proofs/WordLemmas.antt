-- Words by their numbers.
use Rattle.std.proofs.Common.{◌≡◌, ◌≢◌, ◌+◌, ◌<◌, ◌≤◌, ◌∷◌, [], ◌++◌, ◌&&◌, ◌||◌, ◌⊎◌, inl, inr, List, ℕ, Bool, true, false, true≢false, nat_eq, not, ap, ◌∙◌, sym, subst, refl, arith}
use Rattle.std.proofs.Common.{All, get_or, length, if◌then◌else◌}
use Rattle.std.proofs.lemmas.Bool.{and_from, and_parts, cases_lt, cases_order, eq-eqb, eqb-true, ne_eqb}
use Rattle.std.proofs.lemmas.List.{get_or_append_left, get_or_push, length_push}
use Rattle.std.proofs.lemmas.List.Elements.{All-push, All-weaker}
use Rattle.std.proofs.lemmas.List.Folds.{list_any_at, list_any_none}
use Rattle.std.proofs.lemmas.List.Quantifiers.{all_pairs_push}
use Rattle.std.proofs.lemmas.Nat.Bits.{bit_at-zero}
use Rattle.std.specs.Int.{bit_at}
use Rattle.std.specs.List.{AllPairs, list_any}
use Rattle.ld_class.specs.Blocks.{IsBlock, is_on}
use Rattle.ld_tables.specs.declared.masks.NewEdges.{NewEdges}
use Rattle.ld_tables.specs.declared.masks.Word.{Word}
use Rattle.ld_tables.specs.Inner.Edges.{AreMore, AreTold, has_told, no_word, word_at}

-- what `==` computes
abbrev pub same_words : Word → Word → Bool
same_words a b = nat_eq a.block b.block && nat_eq a.to b.to

pub same_words-≡ : (a b : Word) → same_words a b ≡ true → a ≡ b
same_words-≡ a b same =
    let parts = and_parts (nat_eq a.block b.block) (nat_eq a.to b.to) same in
    (λ i. record { block = eqb-true a.block b.block parts.0 i; to = eqb-true a.to b.to parts.1 i })

same_words-refl : (a b : Word) → a ≡ b → same_words a b ≡ true
same_words-refl a b is = ap (same_words a) (sym is) ∙ and_from (nat_eq a.block a.block) (nat_eq a.to a.to) (eq-eqb a.block a.block refl) (eq-eqb a.to a.to refl)

-- two words are the same only where their numbers are
pub same_number : (words : List Word) → AllPairs (λ a b. a ≢ b) words → (m n : ℕ) → m < length words → n < length words → word_at words m ≡ word_at words n → m ≡ n
same_number words distinct m n m_within n_within same = by (cases_order m n)
  where
    by : (m ≡ n) ⊎ ((m < n) ⊎ (n < m)) → m ≡ n
    by (inl here) = here
    by (inr (inl before)) = absurd (distinct m n no_word before n_within same)
    by (inr (inr after)) = absurd (distinct n m no_word after m_within (sym same))

-- more words

pub AreMore-same : (words : List Word) → AreMore words words
AreMore-same words = record { more = omega arith; kept = λ n within. refl }

pub AreMore-further : (a b c : List Word) → AreMore a b → AreMore b c → AreMore a c
AreMore-further a b c first then_ = record {
  more = let x = first.more in let y = then_.more in omega arith;
  kept = λ n within. then_.kept n (let x = first.more in omega (arith, within, x)) ∙ first.kept n within;
}

-- nothing was told of a word that is new
pub none_told : (tellings : List NewEdges) (n place : ℕ) → All (λ (t : NewEdges). t.number < n) tellings → has_told tellings n place ≡ false
none_told tellings n place within =
    list_any_none (λ (t : NewEdges). nat_eq n t.number && is_on t.bits place) tellings
    (λ k d low. ap (λ b. b && is_on (get_or tellings k d).bits place) (ne_eqb n (get_or tellings k d).number (λ same. let below = within k d low in omega (arith, same, below))))

-- a word that is put among them
module _ (words : List Word) (word : Word) where
  abbrev pub with_word : List Word
  with_word = if list_any (same_words word) words then words else words ++ word ∷ []

  -- what is told of it: nothing, where it is new
  abbrev pub with_none : List ℕ → List ℕ
  with_none told = if list_any (same_words word) words then told else told ++ 0 ∷ []

  pub AreMore-with_word : AreMore words with_word
  AreMore-with_word = by (list_any (same_words word) words)
    where
      by : (b : Bool) → AreMore words (if b then words else words ++ word ∷ [])
      by true = AreMore-same words
      by false = record { more = omega (arith, length_push words word); kept = λ n within. get_or_append_left words (word ∷ []) no_word n within }

  pub told-with_word : IsBlock word.block → (told : List ℕ) (tellings : List NewEdges) → AreTold words told tellings → AreTold with_word (with_none told) tellings
  told-with_word low told tellings are = by (list_any (same_words word) words) refl
    where
      on-none : (n place : ℕ) → n ≡ length words → is_on (get_or (told ++ 0 ∷ []) n 0) place ≡ has_told tellings n place
      on-none n place last =
          ap (λ bits. is_on bits place) (get_or_push told 0 0 n (are.many ∙ sym last))
          ∙ ne_eqb (bit_at 0 place) 1 (λ is. omega (arith, is, bit_at-zero place))
          ∙ sym (none_told tellings n place (subst (λ m. All (λ (t : NewEdges). t.number < m) tellings) (sym last) are.within))

      by : (b : Bool) → list_any (same_words word) words ≡ b → AreTold (if b then words else words ++ word ∷ []) (if b then told else told ++ 0 ∷ []) tellings
      by true _ = are
      by false none = record {
        distinct = all_pairs_push (λ a b. a ≢ b) words word are.distinct
            (λ k d within same. true≢false (sym (list_any_at (same_words word) words k d within (same_words-refl word (get_or words k d) (sym same))) ∙ none));
        low = All-push (λ (w : Word). IsBlock w.block) words word are.low low;
        many = omega (arith, are.many, length_push told 0, length_push words word);
        within = All-weaker (λ (t : NewEdges). t.number < length words) (λ (t : NewEdges). t.number < length (words ++ word ∷ [])) (λ t below. omega (arith, below, length_push words word)) tellings are.within;
        each = λ k d within. get_or_append_left words (word ∷ []) no_word (get_or tellings k d).number (are.within k d within) ∙ are.each k d within;
        some = are.some;
        noted = λ n place within inside. noted n place within inside (cases_lt n (length words));
        apart = are.apart;
      }
        where
          noted : (n place : ℕ) → n < length (words ++ word ∷ []) → place < 64 → (n < length words) ⊎ (length words ≤ n) → is_on (get_or (told ++ 0 ∷ []) n 0) place ≡ has_told tellings n place
          noted n place within inside (inl below) = ap (λ bits. is_on bits place) (get_or_append_left told (0 ∷ []) 0 n (omega (arith, below, are.many))) ∙ are.noted n place below inside
          noted n place within inside (inr past) = on-none n place (omega (arith, past, within, length_push words word))

  -- where the words are one more
  pub told-new : IsBlock word.block → (told : List ℕ) (tellings : List NewEdges) → AreTold words told tellings → (keys : List Word) (now : List ℕ) → keys ≡ with_word
      → length keys ≡ length words + 1 → now ≡ told ++ 0 ∷ [] → AreTold keys now tellings
  told-new low told tellings are keys now is many pushed = by (list_any (same_words word) words) refl
    where
      by : (b : Bool) → list_any (same_words word) words ≡ b → AreTold keys now tellings
      by true known = absurd (omega (arith, many, ap length (is ∙ ap (λ (b : Bool). if b then words else words ++ word ∷ []) known)))
      by false new =
          subst (λ ks. AreTold ks now tellings) (sym is)
          (subst (λ ns. AreTold with_word ns tellings) (sym (pushed ∙ sym (ap (λ (b : Bool). if b then told else told ++ 0 ∷ []) new))) (told-with_word low told tellings are))
