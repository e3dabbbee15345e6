-- What the keys of a set say.
use Rattle.std.proofs.Common.{◌≡◌, ◌||◌, Bool, true, false, cond, List, [], ◌∷◌, map, refl, ap}
use Rattle.std.specs.List.{list_any}

pub list_any-map : {X Y : Type 0} (f : X → Y) (p : Y → Bool) (xs : List X) → list_any p (map f xs) ≡ list_any (λ x. p (f x)) xs
list_any-map f p [] = refl
list_any-map f p (x ∷ xs) = ap (λ b. p (f x) || b) (list_any-map f p xs)

-- one test more, of two that stand in another order
pub one_more : (a b others : Bool) → (cond a true b || others) ≡ (b || (a || others))
one_more true true others = refl
one_more true false others = refl
one_more false b others = refl
