-- What adding names to others keeps, and what it gives.
use Rattle.std.proofs.Common.{◌≡◌, ◌||◌, ◌+◌, ◌<◌, ◌≤◌, ◌⊎◌, inl, inr, ◌++◌, ◌∷◌, [], List, ℕ, Bool, true, false, Option, Some, None, is_some, length, take}
use Rattle.std.proofs.Common.{get_or, refl, sym, ap, subst, ◌∙◌, if◌then◌else◌, arith, append_assoc, length-append}
use Rattle.std.proofs.lemmas.Bool.{or_left, or_right}
use Rattle.std.proofs.lemmas.List.{append-nil, length_push, take-append-le, take_all}
use Rattle.std.proofs.lemmas.List.Elements.{All-push}
use Rattle.std.proofs.lemmas.List.Folds.{list_any-append}
use Rattle.std.proofs.lemmas.List.Sums.{fold-append}
use Rattle.std.proofs.Math.Bool.{or-true}
use Rattle.std.specs.List.{list_any}
use Rattle.ld_class.specs.Names.{PlainClass, place_of, same_class, with_name}
use Rattle.ld_class.proofs.NameLemmas.{list_any-known, list_any-new, same_class-Decides}
use Rattle.ld_rules.specs.Outcome.{each_once}
use Rattle.ld_rules.proofs.PlaceLemmas.{alike_from_decides, any_each_once, by_pushes, each_once-more}
use Rattle.ld_batch.specs.Inner.Names.{AreThere, IsLonger, with_names}

-- one more name makes the list longer by at most one
pub length-with_name : (names : List PlainClass) (name : PlainClass) → (length names ≤ length (with_name names name)) × (length (with_name names name) ≤ length names + 1)
length-with_name names name = by (is_some (place_of names name))
  where
    by : (b : Bool) → (length names ≤ length (if b then names else names ++ name ∷ [])) × (length (if b then names else names ++ name ∷ []) ≤ length names + 1)
    by true = (omega arith, omega arith)
    by false = let longer = length-append names (name ∷ []) in (omega arith, omega arith)

-- and keeps what stands before
pub take-with_name : (names : List PlainClass) (name : PlainClass) (count : ℕ) → count ≤ length names → take count (with_name names name) ≡ take count names
take-with_name names name count within = by (is_some (place_of names name))
  where
    by : (b : Bool) → take count (if b then names else names ++ name ∷ []) ≡ take count names
    by true = refl
    by false = take-append-le count names (name ∷ []) within

-- a name is found where a test finds it
pub place_of-any : (names : List PlainClass) (name : PlainClass) → is_some (place_of names name) ≡ list_any (same_class name) names
place_of-any names name = by (place_of names name) refl
  where
    by : (r : Option ℕ) → place_of names name ≡ r → is_some (place_of names name) ≡ list_any (same_class name) names
    by None is = ap is_some is ∙ sym (list_any-new names name is)
    by (Some id) is = ap is_some is ∙ sym (list_any-known names name id is)

-- what is among the names stays there when one more is added, and that one is there too
any-with_name : (test : PlainClass → Bool) (names : List PlainClass) (name : PlainClass) → list_any test names ≡ true → list_any test (with_name names name) ≡ true
any-with_name test names name there = by (is_some (place_of names name))
  where
    by : (b : Bool) → list_any test (if b then names else names ++ name ∷ []) ≡ true
    by true = there
    by false = list_any-append test names (name ∷ []) ∙ or_left (list_any test names) (list_any test (name ∷ [])) there

own-with_name : (names : List PlainClass) (name : PlainClass) → list_any (same_class name) (with_name names name) ≡ true
own-with_name names name = by (is_some (place_of names name)) refl
  where
    by : (b : Bool) → is_some (place_of names name) ≡ b → list_any (same_class name) (if b then names else names ++ name ∷ []) ≡ true
    by true is = sym (place_of-any names name) ∙ is
    by false is =
        list_any-append (same_class name) names (name ∷ [])
        ∙ or_right (list_any (same_class name) names) (list_any (same_class name) (name ∷ [])) (or_left (same_class name name) false ((same_class-Decides name name).1 refl))

pub there-more : (names these : List PlainClass) (name : PlainClass) → AreThere names these → AreThere (with_name names name) (these ++ name ∷ [])
there-more names these name there =
    All-push (λ n. is_some (place_of (with_name names name) n) ≡ true) these name
    (λ k d within. place_of-any (with_name names name) (get_or these k d) ∙ any-with_name (same_class (get_or these k d)) names name (sym (place_of-any names (get_or these k d)) ∙ there k d within))
    (place_of-any (with_name names name) name ∙ own-with_name names name)

-- the names that were there keep their places when one more is added
pub longer_more : (old names : List PlainClass) (name : PlainClass) (more : ℕ) → IsLonger old names more → IsLonger old (with_name names name) (more + 1)
longer_more old names name more is =
    let length = length-with_name names name in
    record {
      front = take-with_name names name _ is.least ∙ is.front;
      least = omega (arith, is.least);
      most = omega (arith, is.most);
    }

-- nor do more in turn
pub longer_all : (names more : List PlainClass) → IsLonger names (with_names names more) (length more)
longer_all names more = by_pushes (λ these. IsLonger names (with_names names these) (length these))
    (record { front = take_all (length names) names (omega arith); least = omega arith; most = omega arith })
    (λ these name is.
    subst (λ all. IsLonger names all (length (these ++ name ∷ []))) (sym (fold-append with_name names these (name ∷ [])))
    (subst (IsLonger names (with_name (with_names names these) name)) (sym (length_push these name)) (longer_more names (with_names names these) name (length these) is)))
    more

-- a list's names, each once, with those of another list are the names of both, each once
pub with_name-each_once : (all : List PlainClass) (name : PlainClass) → with_name (each_once same_class all) name ≡ each_once same_class (all ++ name ∷ [])
with_name-each_once all name =
    ap (λ (b : Bool). if b then each_once same_class all else each_once same_class all ++ name ∷ []) (place_of-any (each_once same_class all) name)
    ∙ by (list_any (same_class name) (each_once same_class all))
    ∙ sym (each_once-more same_class (alike_from_decides same_class same_class-Decides) all name)
  where
    by : (b : Bool) → (if b then each_once same_class all else each_once same_class all ++ name ∷ []) ≡ each_once same_class all ++ (if b then [] else name ∷ [])
    by true = sym (append-nil (each_once same_class all))
    by false = refl

pub with_names-each_once : (all more : List PlainClass) → with_names (each_once same_class all) more ≡ each_once same_class (all ++ more)
with_names-each_once all [] = ap (each_once same_class) (sym (append-nil all))
with_names-each_once all (name ∷ more) =
    ap (λ names. with_names names more) (with_name-each_once all name)
    ∙ with_names-each_once (all ++ name ∷ []) more
    ∙ ap (each_once same_class) (append_assoc all (name ∷ []) more)

-- of names that come last it is the same whether each comes once
each_once-last : (all more : List PlainClass) → each_once same_class (all ++ each_once same_class more) ≡ each_once same_class (all ++ more)
each_once-last all more = by_pushes (λ names. each_once same_class (all ++ each_once same_class names) ≡ each_once same_class (all ++ names)) refl step more
  where
    alike : (x y : PlainClass) → same_class x y ≡ true → (z : PlainClass) → same_class x z ≡ same_class y z
    alike = alike_from_decides same_class same_class-Decides

    grown : List PlainClass → PlainClass → List PlainClass
    grown names name = names ++ (if list_any (same_class name) names then [] else name ∷ [])

    push : (names : List PlainClass) (name : PlainClass) → each_once same_class (names ++ name ∷ []) ≡ grown (each_once same_class names) name
    push names name = each_once-more same_class alike names name

    step : (names : List PlainClass) (name : PlainClass) → each_once same_class (all ++ each_once same_class names) ≡ each_once same_class (all ++ names)
        → each_once same_class (all ++ each_once same_class (names ++ name ∷ [])) ≡ each_once same_class (all ++ (names ++ name ∷ []))
    step names name before =
        ap (λ last. each_once same_class (all ++ last)) (push names name)
        ∙ by (list_any (same_class name) (each_once same_class names)) refl
        ∙ ap (each_once same_class) (append_assoc all names (name ∷ []))
      where
        there : list_any (same_class name) (each_once same_class names) ≡ true → list_any (same_class name) (each_once same_class (all ++ names)) ≡ true
        there is =
            any_each_once same_class alike name (all ++ names)
            ∙ list_any-append (same_class name) all names
            ∙ ap (λ b. list_any (same_class name) all || b) (sym (any_each_once same_class alike name names) ∙ is)
            ∙ or-true (list_any (same_class name) all)

        by : (b : Bool) → list_any (same_class name) (each_once same_class names) ≡ b
            → each_once same_class (all ++ (each_once same_class names ++ (if b then [] else name ∷ []))) ≡ each_once same_class ((all ++ names) ++ name ∷ [])
        by true is =
            ap (λ last. each_once same_class (all ++ last)) (append-nil (each_once same_class names))
            ∙ before
            ∙ sym (push (all ++ names) name ∙ ap (λ (b : Bool). each_once same_class (all ++ names) ++ (if b then [] else name ∷ [])) (there is) ∙ append-nil (each_once same_class (all ++ names)))
        by false is =
            ap (each_once same_class) (sym (append_assoc all (each_once same_class names) (name ∷ [])))
            ∙ push (all ++ each_once same_class names) name
            ∙ ap (λ some. grown some name) before
            ∙ sym (push (all ++ names) name)

-- the names of two lists, each once, together
pub with_names-both_once : (all more : List PlainClass) → with_names (each_once same_class all) (each_once same_class more) ≡ each_once same_class (all ++ more)
with_names-both_once all more = with_names-each_once all (each_once same_class more) ∙ each_once-last all more
