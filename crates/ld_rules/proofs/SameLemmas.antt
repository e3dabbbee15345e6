-- Lists with the same things, and lists to which things are added that aren't there yet.
use Rattle.std.proofs.Common.{◌≡◌, ◌≤◌, ◌++◌, ◌∷◌, [], ◌||◌, All, AllPairs, Bool, true, false, List, ℕ, not, suc, cond, length, get_or, append_assoc, arith}
use Rattle.std.proofs.Common.{fold, map, refl, ap, sym, subst, ◌∙◌, if◌then◌else◌}
use Rattle.std.proofs.Math.Bool.{or-false}
use Rattle.std.proofs.lemmas.Bool.{true≢false}
use Rattle.std.proofs.lemmas.List.{append-nil}
use Rattle.std.proofs.lemmas.List.Elements.{All-cons, All-head, All-nil, All-tail}
use Rattle.std.proofs.lemmas.List.Folds.{list_any-append, list_any_none}
use Rattle.std.proofs.lemmas.List.Quantifiers.{all_pairs_push}
use Rattle.std.specs.List.{filter, list_any}
use Rattle.ld_class.proofs.Mapped.{list_any-map}
use Rattle.ld_rules.specs.Inner.Scanned.{AreSame, with_new}

-- no element passes a test that none passes
pub fails_each : {X : Type 0} (p : X → Bool) (xs : List X) → list_any p xs ≡ false → All (λ x. p x ≡ false) xs
fails_each p [] none = All-nil (λ x. p x ≡ false)
fails_each {X} p (x ∷ xs) none = by (p x) refl none (fails_each p xs)
  where
    by : (b : Bool) → p x ≡ b → (b || list_any p xs) ≡ false → (list_any p xs ≡ false → All (λ y. p y ≡ false) xs) → All (λ y. p y ≡ false) (x ∷ xs)
    by true is found rest = absurd (true≢false found)
    by false is found rest = All-cons (λ y. p y ≡ false) x xs is (rest found)

pub same-map : {X Y : Type 0} (f : X → Y) (xs ys : List X) → AreSame xs ys → AreSame (map f xs) (map f ys)
same-map f xs ys same test = list_any-map f test xs ∙ same (λ x. test (f x)) ∙ sym (list_any-map f test ys)

-- what each has of the one list, each has of the other
pub same-all : {X : Type 0} (p : X → Bool) (xs ys : List X) → AreSame xs ys → All (λ x. p x ≡ true) xs → All (λ x. p x ≡ true) ys
same-all p xs ys same all k d within =
    back (p _) (fails_each (λ x. not (p x)) ys (sym (same (λ x. not (p x))) ∙ list_any_none (λ x. not (p x)) xs (λ i e low. ap not (all i e low))) k d within)
  where
    back : (b : Bool) → not b ≡ false → b ≡ true
    back true is = refl
    back false is = absurd (true≢false is)

module _ {X : Type 0} (same : X → X → Bool) where
  pub same-with_new : (xs ys : List X) (x : X) → AreSame xs ys → AreSame (with_new same xs x) (with_new same ys x)
  same-with_new xs ys x are test =
      list_any-append test xs (if list_any (same x) xs then [] else x ∷ [])
      ∙ (λ i. are test i || list_any test (if are (same x) i then [] else x ∷ []))
      ∙ sym (list_any-append test ys (if list_any (same x) ys then [] else x ∷ []))

  pub same-fold : (xs ys more : List X) → AreSame xs ys → AreSame (fold (with_new same) xs more) (fold (with_new same) ys more)
  same-fold xs ys [] are = are
  same-fold xs ys (x ∷ more) are = same-fold (with_new same xs x) (with_new same ys x) more (same-with_new xs ys x are)

  -- things no two of which are the same stay so
  pub apart-with_new : (xs : List X) (x : X) → AllPairs (λ a b. same b a ≡ false) xs → AllPairs (λ a b. same b a ≡ false) (with_new same xs x)
  apart-with_new xs x apart = by (list_any (same x) xs) refl
    where
      by : (b : Bool) → list_any (same x) xs ≡ b → AllPairs (λ a b. same b a ≡ false) (xs ++ (if b then [] else x ∷ []))
      by true is = subst (AllPairs (λ a b. same b a ≡ false)) (sym (append-nil xs)) apart
      by false is = all_pairs_push (λ a b. same b a ≡ false) xs x apart (fails_each (same x) xs is)

  pub apart-fold : (xs more : List X) → AllPairs (λ a b. same b a ≡ false) xs → AllPairs (λ a b. same b a ≡ false) (fold (with_new same) xs more)
  apart-fold xs [] apart = apart
  apart-fold xs (x ∷ more) apart = apart-fold (with_new same xs x) more (apart-with_new xs x apart)

pub filter-alike : {X : Type 0} (p q : X → Bool) (xs : List X) → All (λ x. p x ≡ q x) xs → filter p xs ≡ filter q xs
filter-alike p q [] all = refl
filter-alike p q (x ∷ xs) all =
    let rest = filter-alike p q xs (All-tail (λ x. p x ≡ q x) x xs all) in
    (λ i. cond (All-head (λ x. p x ≡ q x) x xs all i) (x ∷ rest i) (rest i))

-- What is added of things no two of which are the same: those that aren't there.
pub fold-new : {X : Type 0} (same : X → X → Bool) (xs more : List X) → AllPairs (λ a b. same b a ≡ false) more → fold (with_new same) xs more ≡ xs ++ filter (λ y. not (list_any (same y) xs)) more
fold-new same xs [] apart = sym (append-nil xs)
fold-new {X} same xs (x ∷ more) apart =
    fold-new same (with_new same xs x) more (λ i j d before within. apart (suc i) (suc j) d (omega (arith, before)) (omega (arith, within)))
    ∙ ap (λ ys. with_new same xs x ++ ys) (filter-alike (λ y. not (list_any (same y) (with_new same xs x))) (λ y. not (list_any (same y) xs)) more
    (λ k d within. ap not (list_any-append (same (get_or more k d)) xs (if list_any (same x) xs then [] else x ∷ []) ∙ beside (get_or more k d) (apart 0 (suc k) d (omega arith) (omega (arith, within))) (list_any (same x) xs))))
    ∙ append_assoc xs (if list_any (same x) xs then [] else x ∷ []) (filter (λ y. not (list_any (same y) xs)) more)
    ∙ ap (λ ys. xs ++ ys) (one (list_any (same x) xs))
  where
    beside : (y : X) → same y x ≡ false → (b : Bool) → (list_any (same y) xs || list_any (same y) (if b then [] else x ∷ [])) ≡ list_any (same y) xs
    beside y other true = or-false (list_any (same y) xs)
    beside y other false = ap (λ b. list_any (same y) xs || (b || false)) other ∙ or-false (list_any (same y) xs)

    one : (b : Bool) → (if b then [] else x ∷ []) ++ filter (λ y. not (list_any (same y) xs)) more ≡ cond (not b) (x ∷ filter (λ y. not (list_any (same y) xs)) more) (filter (λ y. not (list_any (same y) xs)) more)
    one true = refl
    one false = refl
