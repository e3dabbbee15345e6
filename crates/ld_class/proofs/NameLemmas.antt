-- What follows for the names of classes and of tasks, for this crate and for those above it.
use Rattle.std.proofs.Common.{◌≡◌, ◌&&◌, ◌↔◌, ◌++◌, ◌∙◌, eqb, Bool, true, false, ℕ, List, [], ◌∷◌}
use Rattle.std.proofs.Common.{Option, Some, None, if◌then◌else◌, is_some, map, refl, ap}
use Rattle.std.proofs.Common.{sym}
use Rattle.std.proofs.lemmas.Bool.Decides.{Decides-and, Decides-eqb, Decides-like}
use Rattle.std.proofs.lemmas.List.{map-append}
use Rattle.std.proofs.lemmas.Slice.Eq.{bytes_eq-Decides}
use Rattle.std.specs.Bool.{Decides}
use Rattle.std.specs.List.{list_any, position}
use Rattle.std.specs.Str.{bytes_eq}
use Rattle.ld_class.specs.Names.{AreDistinct, IsNameAt, PlainClass}
use Rattle.ld_class.specs.Names.{class_of_task, no_class, place_of, place_of_task, same_class}
use Rattle.ld_class.specs.Names.{with_name, with_task}
use Rattle.ld_class.proofs.AnyNames as any
use Rattle.ld_class.proofs.Mapped.{position-map}

-- the test tells equal names
pub same_class-Decides : (a b : PlainClass) → Decides (same_class a b) (a ≡ b)
same_class-Decides a b =
    Decides-like (same_class a b) (λ h. λ i. record { name = h.0 i; sub = h.1 i })
    (λ h. (ap (λ c. c.name) h, ap (λ c. c.sub) h))
    (Decides-and (bytes_eq a.name b.name) (eqb a.sub b.sub) (bytes_eq-Decides a.name b.name)
    (Decides-eqb a.sub b.sub))

-- what holds of names of any type, of classes
module _ (names : List PlainClass) (name : PlainClass) where
  pub place_of-Some : (id : ℕ) → place_of names name ≡ Some id → IsNameAt names id name
  place_of-Some = any.first_place-Some same_class no_class same_class-Decides names name

  pub place_of-None : (id : ℕ) → place_of names name ≡ None → ¬ IsNameAt names id name
  place_of-None = any.first_place-None same_class no_class same_class-Decides names name

  pub place_of-at : (id : ℕ) → AreDistinct names → IsNameAt names id name
      → place_of names name ≡ Some id
  place_of-at = any.first_place-at same_class no_class same_class-Decides names name

  pub place_of-exact : (r : Option ℕ) → AreDistinct names → r ≡ place_of names name → (id : ℕ)
      → (r ≡ Some id) ↔ IsNameAt names id name
  place_of-exact = any.first_place-exact same_class no_class same_class-Decides names name

  pub with_name-known : (id : ℕ) → place_of names name ≡ Some id → with_name names name ≡ names
  with_name-known = any.with_one-known same_class no_class same_class-Decides names name

  pub list_any-known : (id : ℕ) → place_of names name ≡ Some id
      → list_any (same_class name) names ≡ true
  list_any-known = any.list_any-known same_class no_class same_class-Decides names name

  pub list_any-new : place_of names name ≡ None → list_any (same_class name) names ≡ false
  list_any-new = any.list_any-new same_class no_class same_class-Decides names name

-- tasks, named as classes are

and_true : (b : Bool) → (b && true) ≡ b
and_true true = refl
and_true false = refl

module _ (tasks : List (List ℕ)) where
  place_of-classes : (task : List ℕ)
      → place_of (map class_of_task tasks) (class_of_task task) ≡ place_of_task tasks task
  place_of-classes task =
      position-map class_of_task (same_class (class_of_task task)) tasks
      ∙ (λ i. position (λ t. and_true (bytes_eq task t) i) tasks)

  pub with_name-classes : (task : List ℕ)
      → with_name (map class_of_task tasks) (class_of_task task)
      ≡ map class_of_task (with_task tasks task)
  with_name-classes task =
      ap (λ r. if is_some r then map class_of_task tasks
      else map class_of_task tasks ++ class_of_task task ∷ []) (place_of-classes task)
      ∙ by (is_some (place_of_task tasks task))
    where
      by : (b : Bool)
          → (if b then map class_of_task tasks else map class_of_task tasks ++ class_of_task task ∷ [])
          ≡ map class_of_task (if b then tasks else tasks ++ task ∷ [])
      by true = refl
      by false = sym (map-append class_of_task tasks (task ∷ []))

abbrev pub tasks_of : List PlainClass → List (List ℕ)
tasks_of classes = map (λ class. class.name) classes

-- each task's name is that of its class
pub tasks_of-classes : (tasks : List (List ℕ)) → tasks_of (map class_of_task tasks) ≡ tasks
tasks_of-classes [] = refl
tasks_of-classes (task ∷ tasks) = ap (λ others. task ∷ others) (tasks_of-classes tasks)
