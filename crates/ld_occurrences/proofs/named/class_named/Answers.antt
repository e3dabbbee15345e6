-- A word that ends in `/` and a digit from 1 to 7.
use Rattle.std.proofs.Common.{rules, ◌≡◌, ◌≤◌, ◌<◌, ◌∙◌, ◌+◌, ◌-◌, ◌==◌, ◌++◌, ◌∷◌, [], ℕ, Bool, List, append_assoc, arith, ap, codes, decimal, get_or, if◌then◌else◌, length, sym, take}
use Rattle.std.proofs.lemmas.Bool.{eqb-true, false_from_ne_true}
use Rattle.std.proofs.lemmas.Fmt.{decimal_digit}
use Rattle.std.proofs.lemmas.List.{take_all, take_more}
use Rattle.ld_occurrences.specs.Named.{IsNamed}
use Rattle.ld_occurrences.proofs.named.class_named.Goals as goal

-- what is written of a number from 1 to 7
one_digit : (n : ℕ) → n ≤ 6 → (if (n + 1) == 0 then [] else codes "/" ++ decimal (n + 1)) ≡ 47 ∷ (48 + (n + 1)) ∷ []
one_digit n few =
    ap (λ (zero : Bool). if zero then [] else codes "/" ++ decimal (n + 1))
    (false_from_ne_true ((n + 1) == 0) (λ is. let none : n + 1 ≡ 0 = eqb-true (n + 1) 0 is in omega (arith, none)))
    ∙ ap (λ (ds : List ℕ). 47 ∷ ds) (decimal_digit (n + 1) (omega (arith, few)))

-- the front of a word with its last two bytes
last_two : (word : List ℕ) → 2 ≤ length word
    → take (length word - 2) word ++ get_or word (length word - 2) 0 ∷ get_or word (length word - 1) 0 ∷ [] ≡ word
last_two word two =
    let n = length word in
    let at : n - 2 < n = omega (arith, two) in
    let next : n - 2 + 1 ≡ n - 1 = omega (arith, two) in
    let last : n - 1 < n = omega (arith, two) in
    let all : n ≤ n - 1 + 1 = omega (arith, two) in
    sym (sym (take_all (n - 1 + 1) word all) ∙ take_more word (n - 1) 0 last
    ∙ ap (λ (m : ℕ). take m word ++ get_or word (n - 1) 0 ∷ []) (sym next)
    ∙ ap (λ (front : List ℕ). front ++ get_or word (n - 1) 0 ∷ []) (take_more word (n - 2) 0 at)
    ∙ append_assoc (take (n - 2) word) (get_or word (n - 2) 0 ∷ []) (get_or word (n - 1) 0 ∷ []))

named-subclass : (word : List ℕ) → 2 ≤ length word → get_or word (length word - 2) 0 ≡ 47
    → 49 ≤ get_or word (length word - 1) 0 → get_or word (length word - 1) 0 ≤ 55
    → IsNamed word (record { name = take (length word - 2) word; sub = get_or word (length word - 1) 0 - 48 })
named-subclass word two slash low high =
    let digit = get_or word (length word - 1) 0 in
    let front = take (length word - 2) word in
    let number : digit - 48 ≡ digit - 49 + 1 = omega (arith, low) in
    let back : 48 + (digit - 49 + 1) ≡ digit = omega (arith, low) in
    let few : digit - 49 ≤ 6 = omega (arith, high) in
    record {
      spelled =
          ap (λ (n : ℕ). front ++ (if n == 0 then [] else codes "/" ++ decimal n)) number
          ∙ ap (λ (rest : List ℕ). front ++ rest) (one_digit (digit - 49) few)
          ∙ (λ i. front ++ sym slash i ∷ back i ∷ [])
          ∙ last_two word two;
      subclass = λ name last is from_one to_seven zero. omega (arith, low, zero);
    }

pub returns-in-47 : goal.returns-in-47
returns-in-47 c =
    let slash : get_or c.args.word.now (length c.args.word.now - 2) 0 ≡ 47 = search rules in
    let low : 49 ≤ get_or c.args.word.now (length c.args.word.now - 1) 0 = omega arith in
    let high : get_or c.args.word.now (length c.args.word.now - 1) 0 ≤ 55 = omega arith in
    named-subclass c.args.word.now c.in-47.len_at_least slash low high
