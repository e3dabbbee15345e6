-- The trace's own classes, by their names among all names.
use Rattle.std.proofs.Common.{◌≡◌, ◌<◌, ◌++◌, ◌∷◌, [], ◌||◌, List, ℕ, Bool, true, false, None, Some, Option}
use Rattle.std.proofs.Common.{All, length, get_or, nat_eq, refl, ap, sym, subst, ◌∙◌, arith, if◌then◌else◌}
use Rattle.std.proofs.lemmas.Bool.{true≢false, eq-eqb, false_from_ne_true, or_left, or_right}
use Rattle.std.proofs.lemmas.Bool.Decides.{Decides-eqb}
use Rattle.std.proofs.lemmas.List.{append-nil, get_or-map, length-map, map-append}
use Rattle.std.proofs.lemmas.List.Elements.{All-head, All-push, All-tail, All-weaker}
use Rattle.std.proofs.lemmas.List.Recursion.{or_at, or_from_places}
use Rattle.std.specs.List.{list_any}
use Rattle.ld_class.specs.Names.{IsNameAt, PlainClass, no_class, place_of, same_class, with_name}
use Rattle.ld_class.proofs.NameLemmas.{list_any-known, list_any-new, same_class-Decides}
use Rattle.ld_rules.proofs.StepLemmas.{with_new-names}
use Rattle.ld_facts.specs.Inner.Scan.{names_at}
use Rattle.ld_facts.proofs.NamedLemmas.{name-more, number-more}

-- names with one more among them, by the test whether it is there
module _ (names : List PlainClass) (name : PlainClass) where
  with-known : list_any (same_class name) names ≡ true → with_name names name ≡ names
  with-known is = sym (with_new-names names name) ∙ ap (λ (b : Bool). names ++ (if b then [] else name ∷ [])) is ∙ append-nil names

  with-new : list_any (same_class name) names ≡ false → with_name names name ≡ names ++ name ∷ []
  with-new is = sym (with_new-names names name) ∙ ap (λ (b : Bool). names ++ (if b then [] else name ∷ [])) is

  place-new : list_any (same_class name) names ≡ false → place_of names name ≡ None
  place-new is = by (place_of names name) refl
    where
      by : (r : Option ℕ) → place_of names name ≡ r → r ≡ None
      by None h = refl
      by (Some id) h = absurd (true≢false (sym (list_any-known names name id h) ∙ is))

-- the names of these classes have that of each
any-own : (names : List PlainClass) (own : List ℕ) (id : ℕ) (name : PlainClass) → list_any (nat_eq id) own ≡ true →
    get_or names id no_class ≡ name → list_any (same_class name) (names_at names own) ≡ true
any-own names [] id name there is = absurd (true≢false (sym there))
any-own names (x ∷ xs) id name there is = by (nat_eq id x) refl (any-own names xs id name)
  where
    by : (b : Bool) → nat_eq id x ≡ b → (list_any (nat_eq id) xs ≡ true → get_or names id no_class ≡ name → list_any (same_class name) (names_at names xs) ≡ true) →
        list_any (same_class name) (names_at names (x ∷ xs)) ≡ true
    by true same rest = or_left (same_class name (get_or names x no_class)) (list_any (same_class name) (names_at names xs))
        ((same_class-Decides name (get_or names x no_class)).1 (sym is ∙ ap (λ n. get_or names n no_class) ((Decides-eqb id x).0 same)))
    by false other rest = or_right (same_class name (get_or names x no_class)) (list_any (same_class name) (names_at names xs))
        (rest (ap (λ b. b || list_any (nat_eq id) xs) (sym other) ∙ there) is)

names_at-more : (names : List PlainClass) (name : PlainClass) (own : List ℕ) → All (λ n. n < length names) own → names_at (with_name names name) own ≡ names_at names own
names_at-more names name [] within = refl
names_at-more names name (x ∷ xs) within =
    let here = name-more names name x (All-head (λ n. n < length names) x xs within) in
    let rest = names_at-more names name xs (All-tail (λ n. n < length names) x xs within) in
    (λ i. here i ∷ rest i)

-- a class that is among these
module _ (names : List PlainClass) (own : List ℕ) (id : ℕ) (name : PlainClass) (at : IsNameAt names id name) (there : list_any (nat_eq id) own ≡ true) where
  pub own-known : names_at names own ≡ with_name (names_at names own) name
  own-known = sym (with-known (names_at names own) name (any-own names own id name there at.1))

  pub own-placed : place_of (names_at names own) name ≡ None → ⊥
  own-placed new = true≢false (sym (any-own names own id name there at.1) ∙ list_any-new (names_at names own) name new)

-- a name that none of these has
pub own-none : (names : List PlainClass) (own : List ℕ) (name : PlainClass) → All (λ n. n < length names) own →
    ((id : ℕ) → IsNameAt names id name → list_any (nat_eq id) own ≡ false) → place_of (names_at names own) name ≡ None
own-none names own name within none =
    place-new (names_at names own) name (or_from_places (list_any (same_class name)) (same_class name) refl (λ _ _. refl) (names_at names own) no_class differs)
  where
    differs : (i : ℕ) → i < length (names_at names own) → same_class name (get_or (names_at names own) i no_class) ≡ false
    differs i low = false_from_ne_true (same_class name (get_or (names_at names own) i no_class)) (λ is.
        let inside : i < length own = omega (arith, low, length-map own (λ n. get_or names n no_class)) in
        let at : get_or (names_at names own) i no_class ≡ get_or names (get_or own i 0) no_class = get_or-map (λ n. get_or names n no_class) own i 0 no_class inside in
        let same : name ≡ get_or (names_at names own) i no_class = (same_class-Decides name (get_or (names_at names own) i no_class)).0 is in
        let there : list_any (nat_eq (get_or own i 0)) own ≡ true = or_at (list_any (nat_eq (get_or own i 0))) (nat_eq (get_or own i 0)) refl (λ _ _. refl) own i 0 inside
        (eq-eqb (get_or own i 0) (get_or own i 0) refl) in
        true≢false (sym there ∙ none (get_or own i 0) (within i 0 inside, sym (same ∙ at))))

-- with it, they are one more
module _ (names : List PlainClass) (own : List ℕ) (name : PlainClass) (within : All (λ n. n < length names) own) (none : place_of (names_at names own) name ≡ None)
    (new : List PlainClass) (id : ℕ) (is : new ≡ with_name names name) (at : IsNameAt new id name) where
  same : names_at new own ≡ names_at names own
  same = ap (λ ns. names_at ns own) is ∙ names_at-more names name own within

  pub own-new : list_any (nat_eq id) own ≡ false
  own-new = false_from_ne_true (list_any (nat_eq id) own) (λ there.
      true≢false (sym (any-own new own id name there at.1) ∙ ap (list_any (same_class name)) same ∙ list_any-new (names_at names own) name none))

  pub own-more : names_at new (own ++ id ∷ []) ≡ with_name (names_at names own) name
  own-more =
      map-append (λ n. get_or new n no_class) own (id ∷ [])
      ∙ (λ i. same i ++ at.1 i ∷ [])
      ∙ sym (with-new (names_at names own) name (list_any-new (names_at names own) name none))

  pub own-within : All (λ n. n < length new) (own ++ id ∷ [])
  own-within = All-push (λ n. n < length new) own id
      (subst (λ (ns : List PlainClass). All (λ n. n < length ns) own) (sym is)
      (All-weaker (λ n. n < length names) (λ n. n < length (with_name names name)) (λ n low. number-more names name n low) own within)) at.0
