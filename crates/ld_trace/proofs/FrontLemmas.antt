-- What is cut off at the front is a word, or a name.
use Rattle.std.proofs.Common.{ℕ, ◌≡◌, ◌<◌, ◌≤◌, Bool, true, false, not, ◌+◌, ◌++◌, List, [], ◌∷◌, length, take, drop, refl, subst, ◌∙◌, arith, Some, None}
use Rattle.std.proofs.Math.Numerals.{one-add}
use Rattle.std.proofs.Math.Seq.{drop-append-add}
use Rattle.std.proofs.lemmas.Bool.{and_from, and_parts}
use Rattle.std.proofs.lemmas.Bool.Decides.{nat_tests}
use Rattle.std.specs.Prelude.{IfSome, Option, nat_le}
use Rattle.std.specs.Borrow.{Bor}
use Rattle.std.specs.Char.{is_ascii_graphic}
use Rattle.std.specs.List.{list_all, list_any, prefix_len}
use Rattle.ld_trace.specs.declared.line.TheConstants.{LONGEST_WORD}
use Rattle.ld_trace.specs.Lines.{is_name, is_separator, is_word}
use Rattle.ld_trace.specs.declared.front.Ends.{Ends}
use Rattle.ld_trace.specs.Inner.Front.{AreEnds, IsFront, in_name}

-- the bytes that pass a test, up to the first that doesn't
list_all-front : (p : ℕ → Bool) (bytes : List ℕ) → list_all p (take (prefix_len p bytes) bytes) ≡ true
list_all-front p [] = refl
list_all-front p (b ∷ bytes) = by (p b) refl (list_all-front p bytes)
  where
    by : (test : Bool) → p b ≡ test → list_all p (take (prefix_len p bytes) bytes) ≡ true → list_all p (take (prefix_len p (b ∷ bytes)) (b ∷ bytes)) ≡ true
    by true is others = rw (is, one-add, is) others
    by false is others = rw is refl

-- a word is a run of bytes of words, neither empty nor too long
word : (run : List ℕ) (n : ℕ) → length run ≡ n → 0 < n → n ≤ LONGEST_WORD → list_all is_ascii_graphic run ≡ true → is_word run ≡ true
word [] n is some few graphic = absurd (omega arith)
word (b ∷ run) n is some few graphic =
    let short : nat_le (length (b ∷ run)) LONGEST_WORD ≡ true = grind (arith, nat_tests) in
    rw short graphic

-- and a name a run of bytes of names
split-name : (run : List ℕ) → list_all in_name run ≡ true → (list_all is_ascii_graphic run ≡ true) × (list_any is_separator run ≡ false)
split-name [] is = (refl, refl)
split-name (b ∷ run) is =
    let now = and_parts (in_name b) (list_all in_name run) is in
    let here = and_parts (is_ascii_graphic b) (not (is_separator b)) now.0 in
    let later = split-name run now.1 in
    let none : is_separator b ≡ false = by (is_separator b) here.1 in
    (and_from (is_ascii_graphic b) (list_all is_ascii_graphic run) here.0 later.0, rw none later.1)
  where
    by : (test : Bool) → not test ≡ true → test ≡ false
    by true is = absurd (cc)
    by false is = refl

name : (run : List ℕ) (n : ℕ) → length run ≡ n → 0 < n → n ≤ LONGEST_WORD → list_all in_name run ≡ true → is_name run ≡ true
name run n is some few all =
    let two = split-name run all in
    rw (word run n is some few two.0, two.1) refl

-- so what is cut off after so many bytes is a word, or a name
pub cut-word : (bytes : List ℕ) (len : ℕ) (cut : Option (Bor (List ℕ) × Bor (List ℕ))) → len ≡ prefix_len is_ascii_graphic bytes → IfSome cut (λ cut. IsFront bytes len cut.0.now) → IfSome cut
    (λ cut. is_word cut.0.now ≡ true)
cut-word bytes len None all front = tt
cut-word bytes len (Some cut) all front =
    let passes : list_all is_ascii_graphic (take len bytes) ≡ true = rw all (list_all-front is_ascii_graphic bytes) in
    word cut.0.now len front.long front.some front.few (rw front.is passes)

pub cut-name : (bytes : List ℕ) (len : ℕ) (cut : Option (Bor (List ℕ) × Bor (List ℕ))) → len ≡ prefix_len in_name bytes → IfSome cut (λ cut. IsFront bytes len cut.0.now) → IfSome cut
    (λ cut. is_name cut.0.now ≡ true)
cut-name bytes len None all front = tt
cut-name bytes len (Some cut) all front =
    let passes : list_all in_name (take len bytes) ≡ true = rw all (list_all-front in_name bytes) in
    name cut.0.now len front.long front.some front.few (rw front.is passes)

-- the ends behind a word and one byte more
pub ends-after : (bytes word rest : List ℕ) (b count : ℕ) (ends later : Ends) → bytes ≡ word ++ b ∷ rest → count ≡ length word + 1
    → ((bytes : List ℕ) → AreEnds bytes ends → AreEnds (drop count bytes) later) → AreEnds bytes ends → AreEnds rest later
ends-after bytes word rest b count ends later is many moved are =
    subst (λ o. AreEnds o later) ((λ i. drop (many i) (is i)) ∙ drop-append-add word (b ∷ rest) 1) (moved bytes are)
