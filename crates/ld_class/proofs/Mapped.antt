-- What a test finds in a mapped list, and that what is distinct stays so under a map.
use Rattle.std.proofs.Common.{◌≡◌, ◌+◌, ◌||◌, ◌++◌, ◌∙◌, Bool, true, false, List, [], ◌∷◌}
use Rattle.std.proofs.Common.{Some, None, cond, if◌then◌else◌, ltb, map, not, refl, ap, sym}
use Rattle.std.proofs.lemmas.List.{length-map, map-append}
use Rattle.indexmap.specs.IndexSet.{insert_key}
use Rattle.std.specs.List.{AllByRecursion, IsDistinct, list_any, position, position_or_len}

module _ {X Y : Type 0} (f : X → Y) where
  pub position_or_len-map : (p : Y → Bool) (xs : List X)
      → position_or_len p (map f xs) ≡ position_or_len (λ x. p (f x)) xs
  position_or_len-map p [] = refl
  position_or_len-map p (x ∷ xs) =
      ap (λ n. cond (not (p (f x))) (1 + n) 0) (position_or_len-map p xs)

  pub position-map : (p : Y → Bool) (xs : List X)
      → position p (map f xs) ≡ position (λ x. p (f x)) xs
  position-map p xs =
      let at = position_or_len-map p xs in
      λ i. cond (ltb (at i) (length-map xs f i)) (Some (at i)) None

  pub list_any-map : (p : Y → Bool) (xs : List X)
      → list_any p (map f xs) ≡ list_any (λ x. p (f x)) xs
  list_any-map p [] = refl
  list_any-map p (x ∷ xs) = ap (λ b. p (f x) || b) (list_any-map p xs)

  AllByRecursion-map : (P : Y → Type 0) (xs : List X) → AllByRecursion (λ x. P (f x)) xs
      → AllByRecursion P (map f xs)
  AllByRecursion-map P [] h = h
  AllByRecursion-map P (x ∷ xs) h = (h.0, AllByRecursion-map P xs h.1)

  module _ (eq : Y → Y → Bool) where
    pub IsDistinct-map : (xs : List X) → IsDistinct (λ a b. eq (f a) (f b)) xs
        → IsDistinct eq (map f xs)
    unfolding IsDistinct
    IsDistinct-map [] h = h
    IsDistinct-map (x ∷ xs) h =
        (AllByRecursion-map (λ y. eq (f x) y ≡ false) xs h.0, IsDistinct-map xs h.1)

    -- a set's keys after an insert, seen through the map
    pub insert_key-map : (xs : List X) (x : X)
        → map f (insert_key (λ a b. eq (f a) (f b)) xs x) ≡ insert_key eq (map f xs) (f x)
    insert_key-map xs x =
        by (list_any (λ y. eq (f x) (f y)) xs)
        ∙ sym (ap (λ b. if b then map f xs else map f xs ++ f x ∷ []) (list_any-map (eq (f x)) xs))
      where
        by : (b : Bool)
            → map f (if b then xs else xs ++ x ∷ [])
            ≡ (if b then map f xs else map f xs ++ f x ∷ [])
        by true = refl
        by false = map-append f xs (x ∷ [])
