-- The elements of a list with their places, and the list with each element once.
use Rattle.std.proofs.Common.{◌≡◌, ◌<◌, ◌≤◌, ◌+◌, ◌++◌, ◌∷◌, [], List, ℕ, suc, Bool, true, false, ◌||◌, cond, length, take, map, flat_map, filter_map}
use Rattle.std.proofs.Common.{Option, Some, None, refl, ap, sym, subst, ◌∙◌, arith, if◌then◌else◌, append_assoc}
use Rattle.std.proofs.lemmas.Bool.{true≢false, and_parts, or_left, or_right}
use Rattle.std.proofs.lemmas.List.{take-append-le, take_at, append-nil}
use Rattle.std.proofs.lemmas.List.Elements.{filter_map-append}
use Rattle.std.proofs.lemmas.List.Folds.{list_any-append, find-append}
use Rattle.std.proofs.lemmas.List.Sums.{fold-append}
use Rattle.std.specs.Bool.{Decides}
use Rattle.std.specs.List.{cons_option, enumerate_from, find, fold, last_or, list_all, list_any}
use Rattle.std.specs.Option.{option_or}
use Rattle.ld_rules.specs.Outcome.{each_once}
use Rattle.ld_rules.specs.Inner.Scanned.{with_new}

or_false : (b : Bool) → (b || false) ≡ b
or_false true = refl
or_false false = refl

or_none : {X : Type 0} (o : Option X) → o ≡ option_or o None
or_none None = refl
or_none (Some x) = refl

-- what passes is found
found_where_any : {X : Type 0} (p : X → Bool) (xs : List X) (o : Option X) → list_any p xs ≡ true → find p xs ≡ option_or (find p xs) o
found_where_any p [] o there = absurd (true≢false (sym there))
found_where_any p (x ∷ xs) o there = by (p x) refl (found_where_any p xs o)
  where
    by : (b : Bool) → p x ≡ b → (list_any p xs ≡ true → find p xs ≡ option_or (find p xs) o) → cond b (Some x) (find p xs) ≡ option_or (cond b (Some x) (find p xs)) o
    by true is rest = refl
    by false is rest = rest (ap (λ b. b || list_any p xs) (sym is) ∙ there)

module _ {X : Type 0} (same : X → X → Bool) (p : X → Bool) where
  -- what is there stays
  pub any_with_new : (known : List X) (y : X) → list_any p known ≡ true → list_any p (with_new same known y) ≡ true
  any_with_new known y there = list_any-append p known (if list_any (same y) known then [] else y ∷ []) ∙ or_left (list_any p known) (list_any p (if list_any (same y) known then [] else y ∷ [])) there

  pub any_with_all : (known ys : List X) → list_any p known ≡ true → list_any p (fold (with_new same) known ys) ≡ true
  any_with_all known [] there = there
  any_with_all known (y ∷ ys) there = any_with_all (with_new same known y) ys (any_with_new known y there)

-- where all are there, nothing is added
pub all_known : {X : Type 0} (same : X → X → Bool) (xs ys : List X) → list_all (λ y. list_any (same y) xs) ys ≡ true → fold (with_new same) xs ys ≡ xs
all_known same xs [] all = refl
all_known same xs (y ∷ ys) all =
    let parts = and_parts (list_any (same y) xs) (list_all (λ z. list_any (same z) xs) ys) all in
    ap (λ (b : Bool). fold (with_new same) (xs ++ (if b then [] else y ∷ [])) ys) parts.0 ∙ ap (λ zs. fold (with_new same) zs ys) (append-nil xs) ∙ all_known same xs ys parts.1

-- one more element stands at the place that is the length
pub enumerate_push : {X : Type 0} (n : ℕ) (xs : List X) (x : X) → enumerate_from n (xs ++ x ∷ []) ≡ enumerate_from n xs ++ (n + length xs, x) ∷ []
enumerate_push n [] x = let same : n ≡ n + 0 = omega arith in ap (λ m. (m, x) ∷ []) same
enumerate_push n (y ∷ xs) x =
    let next : (n + 1) + length xs ≡ n + suc (length xs) = omega arith in
    ap (λ ps. (n, y) ∷ ps) (enumerate_push (n + 1) xs x ∙ ap (λ m. enumerate_from (n + 1) xs ++ (m, x) ∷ []) next)

-- the last element is the one at the end
pub last_or-push : {X : Type 0} (o : Option X) (xs : List X) (x : X) → last_or o (xs ++ x ∷ []) ≡ Some x
last_or-push o [] x = refl
last_or-push o (y ∷ xs) x = last_or-push (Some y) xs x

module _ {X Y : Type 0} where
  -- what agrees at each place below the end gives the same
  pub map_along : (f g : ℕ × X → Y) (n : ℕ) (xs : List X) → ((i : ℕ) (x : X) → n ≤ i → i < n + length xs → f (i, x) ≡ g (i, x)) → map f (enumerate_from n xs) ≡ map g (enumerate_from n xs)
  map_along f g n [] h = refl
  map_along f g n (x ∷ xs) h =
      let here = h n x (omega arith) (omega arith) in
      let rest = map_along f g (n + 1) xs (λ i y low high. h i y (omega arith) (omega arith)) in
      (λ i. here i ∷ rest i)

  pub filter_map_along : (f g : ℕ × X → Option Y) (n : ℕ) (xs : List X) → ((i : ℕ) (x : X) → n ≤ i → i < n + length xs → f (i, x) ≡ g (i, x)) →
      filter_map f (enumerate_from n xs) ≡ filter_map g (enumerate_from n xs)
  filter_map_along f g n [] h = refl
  filter_map_along f g n (x ∷ xs) h =
      let here = h n x (omega arith) (omega arith) in
      let rest = filter_map_along f g (n + 1) xs (λ i y low high. h i y (omega arith) (omega arith)) in
      (λ i. cons_option (here i) (rest i))

  pub flat_map_along : (f g : ℕ × X → List Y) (n : ℕ) (xs : List X) → ((i : ℕ) (x : X) → n ≤ i → i < n + length xs → f (i, x) ≡ g (i, x)) → flat_map f
      (enumerate_from n xs) ≡ flat_map g (enumerate_from n xs)
  flat_map_along f g n [] h = refl
  flat_map_along f g n (x ∷ xs) h =
      let here = h n x (omega arith) (omega arith) in
      let rest = flat_map_along f g (n + 1) xs (λ i y low high. h i y (omega arith) (omega arith)) in
      (λ i. here i ++ rest i)

  pub flat_map-append : (f : X → List Y) (xs ys : List X) → flat_map f (xs ++ ys) ≡ flat_map f xs ++ flat_map f ys
  flat_map-append f [] ys = refl
  flat_map-append f (x ∷ xs) ys = ap (λ zs. f x ++ zs) (flat_map-append f xs ys) ∙ sym (append_assoc (f x) (flat_map f xs) (flat_map f ys))

module _ {X : Type 0} (same : X → X → Bool) where
  -- an element that stands already is left out, another is added at the end
  pub each_once-push : (xs : List X) (x : X) → each_once same (xs ++ x ∷ []) ≡ each_once same xs ++ (if list_any (same x) xs then [] else x ∷ [])
  each_once-push xs x =
      let place : 0 + length xs ≡ length xs = omega arith in
      ap (filter_map (λ p. if list_any (same p.1) (take p.0 (xs ++ x ∷ [])) then None else Some p.1)) (enumerate_push 0 xs x)
      ∙ filter_map-append (λ p. if list_any (same p.1) (take p.0 (xs ++ x ∷ [])) then None else Some p.1) (enumerate_from 0 xs) ((0 + length xs, x) ∷ [])
      ∙ (λ i. filter_map_along (λ p. if list_any (same p.1) (take p.0 (xs ++ x ∷ [])) then None else Some p.1)
      (λ p. if list_any (same p.1) (take p.0 xs) then None else Some p.1) 0 xs
      (λ n y low high. ap (λ ys. if list_any (same y) ys then None else Some y) (take-append-le n xs (x ∷ []) (omega arith))) i
      ++ cons_option (if list_any (same x) (take (place i) (xs ++ x ∷ [])) then None else Some x) [])
      ∙ ap (λ ys. each_once same xs ++ cons_option (if list_any (same x) ys then None else Some x) []) (take_at xs (x ∷ []) (length xs) refl)
      ∙ ap (λ ys. each_once same xs ++ ys) (by (list_any (same x) xs))
    where
      by : (b : Bool) → cons_option (if b then None else Some x) [] ≡ (if b then [] else x ∷ [])
      by true = refl
      by false = refl

-- what holds of no elements, and of one more where it holds of some, holds of all lists
pub by_pushes : {X : Type 0} (P : List X → Type 0) → P [] → ((xs : List X) (x : X) → P xs → P (xs ++ x ∷ [])) → (xs : List X) → P xs
by_pushes {X} P none step xs = from [] xs none
  where
    from : (front xs : List X) → P front → P (front ++ xs)
    from front [] h = subst P (sym (append-nil front)) h
    from front (x ∷ xs) h = subst P (append_assoc front (x ∷ []) xs) (from (front ++ x ∷ []) xs (step front x h))

module _ {X : Type 0} (same : X → X → Bool) (alike : (x y : X) → same x y ≡ true → (z : X) → same x z ≡ same y z) where
  -- the list with each element once has what the list has
  pub any_each_once : (x : X) (xs : List X) → list_any (same x) (each_once same xs) ≡ list_any (same x) xs
  any_each_once x xs = by_pushes (λ ys. list_any (same x) (each_once same ys) ≡ list_any (same x) ys) refl step xs
    where
      added : (ys : List X) (y : X) → list_any (same x) (each_once same ys) ≡ list_any (same x) ys → (b : Bool) → list_any (same y) ys ≡ b → list_any
          (same x) (each_once same ys ++ (if b then [] else y ∷ [])) ≡ (list_any (same x) ys || (same x y || false))
      added ys y h true is = ap (list_any (same x)) (append-nil (each_once same ys)) ∙ h ∙ known (same x y) refl
        where
          known : (c : Bool) → same x y ≡ c → list_any (same x) ys ≡ (list_any (same x) ys || (c || false))
          known true eq = let there : list_any (same x) ys ≡ true = ap (λ (p : X → Bool). list_any p ys) (λ i z. alike x y eq z i) ∙ is in rw there refl
          known false eq = sym (or_false (list_any (same x) ys))
      added ys y h false is = list_any-append (same x) (each_once same ys) (y ∷ []) ∙ ap (λ b. b || (same x y || false)) h

      step : (ys : List X) (y : X) → list_any (same x) (each_once same ys) ≡ list_any (same x) ys → list_any (same x) (each_once same (ys ++ y ∷ [])) ≡ list_any (same x) (ys ++ y ∷ [])
      step ys y h = ap (list_any (same x)) (each_once-push same ys y) ∙ added ys y h (list_any (same y) ys) refl ∙ sym (list_any-append (same x) ys (y ∷ []))

  -- the list with each element once, with one more element
  pub each_once-more : (xs : List X) (x : X) → each_once same (xs ++ x ∷ []) ≡ each_once same xs ++ (if list_any (same x) (each_once same xs) then [] else x ∷ [])
  each_once-more xs x = each_once-push same xs x ∙ ap (λ (b : Bool). each_once same xs ++ (if b then [] else x ∷ [])) (sym (any_each_once x xs))

  -- what is found first is the one that is kept
  pub find_each_once : (x : X) (xs : List X) → find (same x) (each_once same xs) ≡ find (same x) xs
  find_each_once x xs = by_pushes (λ ys. find (same x) (each_once same ys) ≡ find (same x) ys) refl step xs
    where
      step : (ys : List X) (y : X) → find (same x) (each_once same ys) ≡ find (same x) ys → find (same x) (each_once same (ys ++ y ∷ [])) ≡ find (same x) (ys ++ y ∷ [])
      step ys y h = ap (find (same x)) (each_once-push same ys y) ∙ added (list_any (same y) ys) refl ∙ sym (find-append (same x) ys (y ∷ []))
        where
          added : (b : Bool) → list_any (same y) ys ≡ b → find (same x) (each_once same ys ++ (if b then [] else y ∷ [])) ≡ option_or (find (same x) ys) (find (same x) (y ∷ []))
          added true is = ap (find (same x)) (append-nil (each_once same ys)) ∙ h ∙ known (same x y) refl
            where
              known : (c : Bool) → same x y ≡ c → find (same x) ys ≡ option_or (find (same x) ys) (cond c (Some y) None)
              known true eq = found_where_any (same x) ys (Some y) (ap (λ (p : X → Bool). list_any p ys) (λ i z. alike x y eq z i) ∙ is)
              known false eq = or_none (find (same x) ys)
          added false is = find-append (same x) (each_once same ys) (y ∷ []) ∙ ap (λ o. option_or o (find (same x) (y ∷ []))) h

  -- the list with each element once, with more elements: each is added where it isn't there yet
  pub each_once-append : (xs ys : List X) → each_once same (xs ++ ys) ≡ fold (with_new same) (each_once same xs) ys
  each_once-append xs [] = ap (each_once same) (append-nil xs)
  each_once-append xs (y ∷ ys) = ap (each_once same) (sym (append_assoc xs (y ∷ []) ys)) ∙ each_once-append (xs ++ y ∷ []) ys ∙ ap (λ zs. fold (with_new same) zs ys) (each_once-more xs y)

  -- what is among the elements that are added is there then
  pub any_of_added : (x : X) (known ys : List X) → list_any (same x) ys ≡ true → list_any (same x) (fold (with_new same) known ys) ≡ true
  any_of_added x known [] there = absurd (true≢false (sym there))
  any_of_added x known (y ∷ ys) there = by (same x y) refl (any_of_added x (with_new same known y) ys)
    where
      added : (b : Bool) → list_any (same y) known ≡ b → same x y ≡ true → list_any (same x) (known ++ (if b then [] else y ∷ [])) ≡ true
      added true is eq = ap (list_any (same x)) (append-nil known) ∙ ap (λ (p : X → Bool). list_any p known) (λ i z. alike x y eq z i) ∙ is
      added false is eq = list_any-append (same x) known (y ∷ []) ∙ or_right (list_any (same x) known) (same x y || false) (or_left (same x y) false eq)

      by : (b : Bool) → same x y ≡ b → (list_any (same x) ys ≡ true → list_any (same x) (fold (with_new same) (with_new same known y) ys) ≡ true) → list_any
          (same x) (fold (with_new same) (with_new same known y) ys) ≡ true
      by true eq rest = any_with_all same (same x) (with_new same known y) ys (added (list_any (same y) known) refl eq)
      by false eq rest = rest (ap (λ b. b || list_any (same x) ys) (sym eq) ∙ there)

  -- one more among those that are added is one more in the end
  pub added-more : (known ys : List X) (y : X) → fold (with_new same) known (with_new same ys y) ≡ with_new same (fold (with_new same) known ys) y
  added-more known ys y = by (list_any (same y) ys) refl
    where
      by : (b : Bool) → list_any (same y) ys ≡ b → fold (with_new same) known (ys ++ (if b then [] else y ∷ [])) ≡ with_new same (fold (with_new same) known ys) y
      by true is =
          ap (fold (with_new same) known) (append-nil ys)
          ∙ sym (append-nil (fold (with_new same) known ys))
          ∙ ap (λ (b : Bool). fold (with_new same) known ys ++ (if b then [] else y ∷ [])) (sym (any_of_added y known ys is))
      by false is = fold-append (with_new same) known ys (y ∷ [])

-- a test that tells equal elements treats equal ones alike
pub alike_from_decides : {X : Type 0} (same : X → X → Bool) → ((a b : X) → Decides (same a b) (a ≡ b)) → (x y : X) → same x y ≡ true → (z : X) → same x z ≡ same y z
alike_from_decides same decides x y is z = ap (λ w. same w z) ((decides x y).0 is)
