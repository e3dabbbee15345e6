-- Masks to which a bit is added.
use Rattle.std.proofs.Common.{◌≡◌, ◌+◌, ◌*◌, ◌/◌, ◌%◌, ◌^◌, ◌<◌, ◌∷◌, [], ◌++◌, ◌||◌, List, ℕ, suc, zero, Bool, true, false, nat_eq, ltb, not, ap, ◌∙◌, sym, subst, refl, arith}
use Rattle.std.proofs.Common.{All, flat_map, get_or, length, map, set}
use Rattle.std.proofs.Math.Bool.{or-false, or_assoc, or_self}
use Rattle.std.proofs.lemmas.Bool.{eq-eqb, eqb-true, lt-ltb, ltb-true}
use Rattle.std.proofs.lemmas.List.{get_or_default}
use Rattle.std.proofs.lemmas.List.Elements.{All-head, All-tail, All-weaker}
use Rattle.std.proofs.lemmas.List.Folds.{list_any-append, list_any_none}
use Rattle.std.specs.Prelude.{bit_or}
use Rattle.std.specs.List.{list_any}
use Rattle.ld_class.specs.Blocks.{bits_on, classes_in}
use Rattle.ld_class.proofs.BlockLemmas.{any-bit, any-bits-set}
use Rattle.ld_class.proofs.Mapped.{list_any-map}
use Rattle.ld_rules.proofs.SameLemmas.{fails_each}
use Rattle.ld_tables.specs.declared.masks.Mask.{Mask}
use Rattle.ld_tables.specs.declared.masks.Word.{Word}
use Rattle.ld_tables.specs.Inner.Edges.{AreMasks, AreMore, any_bit, classes_of, word_at}
use Rattle.ld_tables.proofs.TellingLemmas.{any-flat_map}

-- an element that passes where it passed, or for something more
any-set : {X : Type 0} (p : X → Bool) (xs : List X) (n : ℕ) (x : X) (more : Bool) → n < length xs → p x ≡ (p (get_or xs n x) || more) → list_any p (set xs n x) ≡ (list_any p xs || more)
any-set p [] n x more low is = absurd (omega (arith, low))
any-set p (y ∷ ys) zero x more low is = ap (λ b. b || list_any p ys) is ∙ turn (p y) more (list_any p ys)
  where
    turn : (a b c : Bool) → ((a || b) || c) ≡ ((a || c) || b)
    turn true b c = refl
    turn false true true = refl
    turn false true false = refl
    turn false false true = refl
    turn false false false = refl
any-set p (y ∷ ys) (suc n) x more low is = ap (λ b. p y || b) (any-set p ys n x more (omega (arith, low)) is) ∙ sym (or_assoc (p y) (list_any p ys) more)

-- a bit is put on in a mask that there is
module _ (masks : List Mask) (at word place : ℕ) (old : Mask) (within : at < length masks) (is : get_or masks at old ≡ old) (same : old.word ≡ word) (low : place < 64) where
  abbrev with_bit : Mask
  with_bit = record old { bits = bit_or old.bits (1 * 2 ^ place % 2 ^ 64) }

  here : get_or masks at with_bit ≡ old
  here = get_or_default masks at with_bit old within ∙ is

  pub words-set : (test : ℕ → Bool) → list_any (λ (m : Mask). test m.word) (set masks at with_bit) ≡ (list_any (λ (m : Mask). test m.word) masks || test word)
  words-set test = any-set (λ (m : Mask). test m.word) masks at with_bit (test word) within
      (ap test same ∙ sym (or_self (test word)) ∙ ap (λ b. b || test word) (sym (ap (λ (m : Mask). test m.word) here ∙ ap test same)))

  pub bits-set : (test : ℕ → ℕ → Bool) → any_bit test (set masks at with_bit) ≡ (any_bit test masks || test word place)
  bits-set test = any-set (λ (m : Mask). list_any (test m.word) (bits_on m.bits)) masks at with_bit (test word place) within
      (any-bits-set (test old.word) old.bits place low
      ∙ (λ i. list_any (test (sym (ap (λ (m : Mask). m.word) here) i)) (bits_on (sym (ap (λ (m : Mask). m.bits) here) i)) || test (same i) place))

-- a mask is put last
pub bits-push : (masks : List Mask) (word place : ℕ) → place < 64 → (test : ℕ → ℕ → Bool) → any_bit test (masks ++ record { word = word; bits = 1 * 2 ^ place % 2 ^ 64 } ∷ []) ≡ (any_bit test masks || test word place)
bits-push masks word place low test =
    list_any-append (λ (m : Mask). list_any (test m.word) (bits_on m.bits)) masks (record { word = word; bits = 1 * 2 ^ place % 2 ^ 64 } ∷ [])
    ∙ ap (λ b. any_bit test masks || b) (or-false (list_any (test word) (bits_on (1 * 2 ^ place % 2 ^ 64))) ∙ any-bit (test word) place low)

-- The classes of masks.

-- the class that a bit stands for is this one
abbrev stands_for : List Word → ℕ → ℕ → ℕ → Bool
stands_for words from word place = nat_eq from (64 * (word_at words word).block + place)

pub any-class : (words : List Word) (masks : List Mask) (from : ℕ) → list_any (nat_eq from) (classes_of words masks) ≡ any_bit (stands_for words from) masks
any-class words masks from =
    any-flat_map (nat_eq from) (λ (m : Mask). classes_in (word_at words m.word).block m.bits) masks
    ∙ (λ i. list_any (λ (m : Mask). list_any-map (λ place. 64 * (word_at words m.word).block + place) (nat_eq from) (bits_on m.bits) i) masks)

-- words that are added leave them as they are
classes-kept : (a b : List Word) → AreMore a b → (masks : List Mask) → All (λ (m : Mask). m.word < length a) masks → classes_of b masks ≡ classes_of a masks
classes-kept a b more [] within = refl
classes-kept a b more (m ∷ masks) within =
    (λ i. classes_in (more.kept m.word (All-head (λ (m : Mask). m.word < length a) m masks within) i).block m.bits ++ classes-kept a b more masks (All-tail (λ (m : Mask). m.word < length a) m masks within) i)

pub AreMasks-kept : (a b : List Word) (class : ℕ) (froms : List ℕ) (masks : List Mask) → AreMore a b → AreMasks a class froms masks → AreMasks b class froms masks
AreMasks-kept a b class froms masks more are = record {
  within = All-weaker (λ (m : Mask). m.word < length a) (λ (m : Mask). m.word < length b) (λ m below. let x = more.more in omega (arith, below, x)) masks are.within;
  to = λ k d within. ap (λ (w : Word). w.to) (more.kept (get_or masks k d).word (are.within k d within)) ∙ are.to k d within;
  same = λ from. ap (list_any (nat_eq from)) (classes-kept a b more masks are.within) ∙ are.same from;
}

-- no class
pub AreMasks-none : (words : List Word) (class : ℕ) → AreMasks words class [] []
AreMasks-none words class = record { within = λ k d below. absurd (omega (arith, below)); to = λ k d below. absurd (omega (arith, below)); same = λ from. refl }

-- what passes for each word passes for each of more masks
each-word : (test : ℕ → Bool) (masks new : List Mask) (word : ℕ) → list_any (λ (m : Mask). not (test m.word)) new ≡ (list_any (λ (m : Mask). not (test m.word)) masks || not (test word))
    → All (λ (m : Mask). test m.word ≡ true) masks → test word ≡ true → All (λ (m : Mask). test m.word ≡ true) new
each-word test masks new word is all one k d within =
    back (test (get_or new k d).word) (fails_each (λ (m : Mask). not (test m.word)) new
    (is ∙ (λ i. list_any_none (λ (m : Mask). not (test m.word)) masks (λ j e low. ap not (all j e low)) i || not (one i))) k d within)
  where
    back : (b : Bool) → not b ≡ false → b ≡ true
    back true h = refl
    back false h = sym h

-- one class more
pub AreMasks-push : (a b : List Word) (class from number : ℕ) (froms : List ℕ) (masks new : List Mask) → AreMore a b → AreMasks a class froms masks → number < length b
    → word_at b number ≡ record { block = from / 64; to = class }
    → ((test : ℕ → Bool) → list_any (λ (m : Mask). test m.word) new ≡ (list_any (λ (m : Mask). test m.word) masks || test number))
    → ((test : ℕ → ℕ → Bool) → any_bit test new ≡ (any_bit test masks || test number (from % 64)))
    → AreMasks b class (froms ++ from ∷ []) new
AreMasks-push a b class from number froms masks new more before inside is words bits =
    let are = AreMasks-kept a b class froms masks more before in
    record {
      within = All-weaker (λ (m : Mask). ltb m.word (length b) ≡ true) (λ (m : Mask). m.word < length b) (λ m low. ltb-true m.word (length b) low) new
          (each-word (λ w. ltb w (length b)) masks new number (words (λ w. not (ltb w (length b)))) (All-weaker (λ (m : Mask). m.word < length b) (λ (m : Mask). ltb m.word (length b) ≡ true) (λ m low. lt-ltb m.word (length b) low) masks are.within) (lt-ltb number (length b) inside));
      to = All-weaker (λ (m : Mask). nat_eq (word_at b m.word).to class ≡ true) (λ (m : Mask). (word_at b m.word).to ≡ class) (λ m same. eqb-true (word_at b m.word).to class same) new
          (each-word (λ w. nat_eq (word_at b w).to class) masks new number (words (λ w. not (nat_eq (word_at b w).to class)))
          (All-weaker (λ (m : Mask). (word_at b m.word).to ≡ class) (λ (m : Mask). nat_eq (word_at b m.word).to class ≡ true) (λ m same. eq-eqb (word_at b m.word).to class same) masks are.to)
          (eq-eqb (word_at b number).to class (ap (λ (w : Word). w.to) is)));
      same = λ other.
          any-class b new other
          ∙ bits (stands_for b other)
          ∙ (λ i. (sym (any-class b masks other) ∙ are.same other) i || nat_eq other (stands i))
          ∙ sym (list_any-append (nat_eq other) froms (from ∷ []) ∙ ap (λ t. list_any (nat_eq other) froms || t) (or-false (nat_eq other from)));
    }
  where
    stands : 64 * (word_at b number).block + from % 64 ≡ from
    stands = ap (λ (w : Word). 64 * w.block + from % 64) is ∙ omega arith
