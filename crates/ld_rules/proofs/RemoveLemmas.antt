-- A list without its last element that passes a test, seen through a map and a filter.
use Rattle.std.proofs.Common.{◌≡◌, ◌++◌, ◌∷◌, [], List, Bool, true, false, ◌||◌, cond, map, filter, refl, ap, sym, ◌∙◌}
use Rattle.std.proofs.lemmas.Bool.{true≢false, and_parts, and_from, or_left, or_right}
use Rattle.std.proofs.lemmas.List.Folds.{list_any-append}
use Rattle.std.specs.List.{list_all, list_any}
use Rattle.ld_class.proofs.Mapped.{list_any-map}
use Rattle.ld_rules.specs.Inner.Scanned.{remove_last}
use Rattle.ld_rules.proofs.OpenLemmas.{remove_last-none}

-- the last of a mapped list
pub map-remove_last : {X Y : Type 0} (f : X → Y) (p : Y → Bool) (xs : List X) → map f (remove_last (λ x. p (f x)) xs) ≡ remove_last p (map f xs)
map-remove_last f p [] = refl
map-remove_last f p (x ∷ xs) = by (list_any (λ y. p (f y)) xs) (p (f x)) (map-remove_last f p xs) ∙ ap
    (λ b. cond b (f x ∷ remove_last p (map f xs)) (cond (p (f x)) (map f xs) (f x ∷ map f xs))) (sym (list_any-map f p xs))
  where
    by : (a b : Bool) → map f (remove_last (λ x. p (f x)) xs) ≡ remove_last p (map f xs) → map f
        (cond a (x ∷ remove_last (λ x. p (f x)) xs) (cond b xs (x ∷ xs))) ≡ cond a (f x ∷ remove_last p (map f xs)) (cond b (map f xs) (f x ∷ map f xs))
    by true b rest = ap (λ ys. f x ∷ ys) rest
    by false true rest = refl
    by false false rest = refl

-- where each element that passes p passes q, a filter by q keeps what p finds
pub list_any-filter : {X : Type 0} (p q : X → Bool) → ((x : X) → p x ≡ true → q x ≡ true) → (xs : List X) → list_any p (filter q xs) ≡ list_any p xs
list_any-filter p q within [] = refl
list_any-filter p q within (x ∷ xs) = by (list_any-filter p q within xs) (q x) refl (p x) refl
  where
    by : list_any p (filter q xs) ≡ list_any p xs → (b : Bool) → q x ≡ b → (c : Bool) → p x ≡ c → list_any p (cond b (x ∷ filter q xs) (filter q xs)) ≡ (c || list_any p xs)
    by rest true is c eq = λ i. eq i || rest i
    by rest false is true eq = absurd (true≢false (sym (within x eq) ∙ is))
    by rest false is false eq = rest

pub filter-remove_last : {X : Type 0} (p q : X → Bool) → ((x : X) → p x ≡ true → q x ≡ true) → (xs : List X) → filter q (remove_last p xs) ≡ remove_last p (filter q xs)
filter-remove_last p q within [] = refl
filter-remove_last p q within (x ∷ xs) = by (filter-remove_last p q within xs) (list_any p xs) refl (q x) refl (p x) refl
  where
    by : filter q (remove_last p xs) ≡ remove_last p (filter q xs) → (a : Bool) → list_any p xs ≡ a → (b : Bool) → q x ≡ b → (c : Bool) → p x ≡ c →
        filter q (cond a (x ∷ remove_last p xs) (cond c xs (x ∷ xs))) ≡ remove_last p (cond b (x ∷ filter q xs) (filter q xs))
    by rest true some true is c eq = rw (is, list_any-filter p q within xs, some) (ap (λ ys. x ∷ ys) rest)
    by rest true some false is c eq = rw is rest
    by rest false none true is true eq = rw (list_any-filter p q within xs, none, eq) refl
    by rest false none true is false eq = rw (list_any-filter p q within xs, none, eq, is) refl
    by rest false none false is true eq = absurd (true≢false (sym (within x eq) ∙ is))
    by rest false none false is false eq = rw (is, remove_last-none p (filter q xs) (list_any-filter p q within xs ∙ none)) refl

-- where no element that passes p passes q, a filter by q doesn't see what is removed
pub filter-remove_other : {X : Type 0} (p q : X → Bool) → ((x : X) → p x ≡ true → q x ≡ false) → (xs : List X) → filter q (remove_last p xs) ≡ filter q xs
filter-remove_other p q without [] = refl
filter-remove_other p q without (x ∷ xs) = by (filter-remove_other p q without xs) (list_any p xs) (p x) refl
  where
    by : filter q (remove_last p xs) ≡ filter q xs → (a : Bool) → (c : Bool) → p x ≡ c → filter q (cond a (x ∷ remove_last p xs) (cond c xs (x ∷ xs))) ≡ cond (q x) (x ∷ filter q xs) (filter q xs)
    by rest true c eq = ap (λ ys. cond (q x) (x ∷ ys) ys) rest
    by rest false true eq = rw (without x eq) refl
    by rest false false eq = refl

-- the last element itself
pub remove_last-push : {X : Type 0} (p : X → Bool) (xs : List X) (x : X) → p x ≡ true → remove_last p (xs ++ x ∷ []) ≡ xs
remove_last-push p [] x passes = rw passes refl
remove_last-push p (y ∷ xs) x passes =
    let found : list_any p (xs ++ x ∷ []) ≡ true = list_any-append p xs (x ∷ []) ∙ or_right (list_any p xs) (p x || false) (or_left (p x) false passes) in
    rw found (ap (λ ys. y ∷ ys) (remove_last-push p xs x passes))

-- what holds of each element holds of each that is left
pub list_all-remove_last : {X : Type 0} (p q : X → Bool) (xs : List X) → list_all q xs ≡ true → list_all q (remove_last p xs) ≡ true
list_all-remove_last p q [] all = refl
list_all-remove_last p q (x ∷ xs) all =
    let parts = and_parts (q x) (list_all q xs) all in
    by (list_any p xs) (p x) parts.0 parts.1 (list_all-remove_last p q xs parts.1)
  where
    by : (a c : Bool) → q x ≡ true → list_all q xs ≡ true → list_all q (remove_last p xs) ≡ true → list_all q (cond a (x ∷ remove_last p xs) (cond c xs (x ∷ xs))) ≡ true
    by true c here there rest = and_from (q x) (list_all q (remove_last p xs)) here rest
    by false true here there rest = there
    by false false here there rest = and_from (q x) (list_all q xs) here there

-- a filter that all pass keeps all, and it keeps all of another filter
pub filter-all : {X : Type 0} (p q : X → Bool) (xs : List X) → list_all q xs ≡ true → filter q (filter p xs) ≡ filter p xs
filter-all p q [] all = refl
filter-all p q (x ∷ xs) all =
    let parts = and_parts (q x) (list_all q xs) all in
    by (p x) parts.0 (filter-all p q xs parts.1)
  where
    by : (b : Bool) → q x ≡ true → filter q (filter p xs) ≡ filter p xs → filter q (cond b (x ∷ filter p xs) (filter p xs)) ≡ cond b (x ∷ filter p xs) (filter p xs)
    by true here rest = rw here (ap (λ ys. x ∷ ys) rest)
    by false here rest = rest
