-- Lists of names: a name's place is its position in the list, from 0. A class is named by bytes and by
-- the number of a subclass, a task by bytes alone.
use Rattle.std.specs.Prelude.{◌≡◌, ◌<◌, ℕ, Bool, ◌&&◌, ◌==◌, Option, List, [], ◌∷◌, ◌++◌}
use Rattle.std.specs.Prelude.{length, position, is_some, slice_index_or, if◌then◌else◌}
use Rattle.std.specs.Str.{bytes_eq}
use Rattle.ld_class.specs.declared.names.ClassName.{ClassName}

-- the name of a class without where it lies in memory: `sub` is 0 for the class itself, and N for its
-- subclass `name/N`
pub record PlainClass : Type 0 where
  pub name : List ℕ
  pub sub : ℕ

abbrev pub plain_class : ClassName → PlainClass
plain_class class = record { name = class.name.now; sub = class.sub }

abbrev pub same_class : PlainClass → PlainClass → Bool
same_class a b = bytes_eq a.name b.name && a.sub == b.sub

-- what stands for the name at a place past the end
abbrev pub no_class : PlainClass
no_class = record { name = []; sub = 0 }

-- Of any type of names: `same` tells whether two are the same, and `none` stands for the name at a
-- place past the end.

-- `name` stands at the place `id`
abbrev pub IsAt : {A : Type 0} → A → List A → ℕ → A → Type 0
IsAt none names id name = (id < length names) × (slice_index_or names id none ≡ name)

-- no name stands at two places
abbrev pub AreApart : {A : Type 0} → A → List A → Type 0
AreApart {A} none names =
    (i j : ℕ) (name : A) → IsAt none names i name → IsAt none names j name → i ≡ j

-- the first place at which `name` stands, if it stands at one
abbrev pub first_place : {A : Type 0} → (A → A → Bool) → List A → A → Option ℕ
first_place same names name = position (same name) names

-- the names with `name` among them: as they are where it stands there, else with it at the end
abbrev pub with_one : {A : Type 0} → (A → A → Bool) → List A → A → List A
with_one same names name =
    if is_some (first_place same names name) then names else names ++ name ∷ []

-- of classes

abbrev pub IsNameAt : List PlainClass → ℕ → PlainClass → Type 0
IsNameAt names id name = IsAt no_class names id name

abbrev pub AreDistinct : List PlainClass → Type 0
AreDistinct names = AreApart no_class names

abbrev pub place_of : List PlainClass → PlainClass → Option ℕ
place_of names name = first_place same_class names name

abbrev pub with_name : List PlainClass → PlainClass → List PlainClass
with_name names name = with_one same_class names name

-- of tasks

-- a task named as a class is, without a subclass
abbrev pub class_of_task : List ℕ → PlainClass
class_of_task task = record { name = task; sub = 0 }

abbrev pub IsTaskAt : List (List ℕ) → ℕ → List ℕ → Type 0
IsTaskAt tasks id task = IsAt [] tasks id task

abbrev pub AreDistinctTasks : List (List ℕ) → Type 0
AreDistinctTasks tasks = AreApart [] tasks

abbrev pub place_of_task : List (List ℕ) → List ℕ → Option ℕ
place_of_task tasks task = first_place bytes_eq tasks task

abbrev pub with_task : List (List ℕ) → List ℕ → List (List ℕ)
with_task tasks task = with_one bytes_eq tasks task
