-- Lists of jobs, by a part of each job.
use Rattle.std.proofs.Common.{◌≡◌, ◌∙◌, List, [], ◌∷◌, ◌++◌, All, map, ap, append_assoc}
use Rattle.std.proofs.lemmas.List.{map-append}
use Rattle.std.proofs.lemmas.List.Elements.{All-nil, All-cons, All-head, All-tail}

-- what is true of all parts is true of the part of each job
pub All-under_map : {X Y : Type 0} (P : X → Type 0) (f : Y → X) (ys : List Y) → All P (map f ys) → All (λ y. P (f y)) ys
All-under_map P f [] all = All-nil (λ y. P (f y))
All-under_map P f (y ∷ ys) all =
    All-cons (λ y. P (f y)) y ys (All-head P (f y) (map f ys) all) (All-under_map P f ys (All-tail P (f y) (map f ys) all))

-- the part of one more job stood first of the rest
pub map_moved : {X Y : Type 0} (f : Y → X) (ys : List Y) (y : Y) (rest : List X) → map f (ys ++ y ∷ []) ++ rest ≡ map f ys ++ (f y ∷ rest)
map_moved f ys y rest = ap (λ xs. xs ++ rest) (map-append f ys (y ∷ [])) ∙ append_assoc (map f ys) (f y ∷ []) rest
