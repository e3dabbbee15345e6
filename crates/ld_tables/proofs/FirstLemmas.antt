-- Lists to which more is added, each once.
use Rattle.std.proofs.Common.{◌≡◌, ◌≤◌, ◌∷◌, [], ◌++◌, List, Bool, ap, sym, ◌∙◌, arith, fold, length, take, if◌then◌else◌, length-append}
use Rattle.std.proofs.lemmas.List.{take-append-le, take-take, take_all}
use Rattle.std.specs.List.{list_any}

module _ {X : Type 0} (same : X → X → Bool) where
  abbrev pub with_one : List X → X → List X
  with_one xs x = xs ++ (if list_any (same x) xs then [] else x ∷ [])

  with_one-first : (xs : List X) (x : X) → take (length xs) (with_one xs x) ≡ xs
  with_one-first xs x = take-append-le (length xs) xs (if list_any (same x) xs then [] else x ∷ []) (omega arith) ∙ take_all (length xs) xs (omega arith)

  -- those that were there stay, and stand first
  pub with_each-first : (xs more : List X) → take (length xs) (fold with_one xs more) ≡ xs
  with_each-first xs [] = take_all (length xs) xs (omega arith)
  with_each-first xs (x ∷ more) =
      let short : length xs ≤ length (with_one xs x) = omega (arith, length-append xs (if list_any (same x) xs then [] else x ∷ [])) in
      sym (take-take (length xs) (length (with_one xs x)) (fold with_one (with_one xs x) more) short)
      ∙ ap (take (length xs)) (with_each-first (with_one xs x) more)
      ∙ with_one-first xs x
