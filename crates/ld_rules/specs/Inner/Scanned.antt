-- What a scan does to its lists, by what stands at the positions that it has read. Of public contracts
-- those of a scan alone cite this file.
use Rattle.std.specs.Prelude.{◌≡◌, Bool, List, [], ◌∷◌, ◌++◌, cond, if◌then◌else◌}
use Rattle.std.specs.List.{list_any}
use Rattle.ld_rules.specs.Dependency.{Dependency, Seen, same_dependency}
use Rattle.ld_rules.specs.Usage.{Use, same_use}

-- the list without the last element that passes the test
abbrev pub remove_last : {X : Type 0} → (X → Bool) → List X → List X
remove_last p [] = []
remove_last p (x ∷ xs) = cond (list_any p xs) (x ∷ remove_last p xs) (cond (p x) xs (x ∷ xs))

-- the list, with y at its end where nothing the same is there
abbrev pub with_new : {X : Type 0} → (X → X → Bool) → List X → X → List X
with_new same xs y = xs ++ (if list_any (same y) xs then [] else y ∷ [])

-- the same things, in whatever order and however often: no test tells them apart
abbrev pub AreSame : {X : Type 0} → List X → List X → Type 0
AreSame {X} xs ys = (test : X → Bool) → list_any test xs ≡ list_any test ys

-- of the same two classes, at whatever line
abbrev pub same_dependency_seen : Seen Dependency → Seen Dependency → Bool
same_dependency_seen a b = same_dependency a.what b.what

-- of the same bit of the same class, at whatever line
abbrev pub same_use_seen : Seen Use → Seen Use → Bool
same_use_seen a b = same_use a.what b.what
