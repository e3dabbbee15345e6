-- The numbers of the classes in the order of their names. No public contract cites this file.
use Rattle.std.specs.Prelude.{◌≡◌, ℕ, ◌<◌, List, length, All, slice_index_or}
use Rattle.ld_class.specs.Names.{PlainClass, no_class}
use Rattle.std.proofs.Common.{inl, inr, ap, subst, sym, ◌∙◌, is_lt, true≢false}
use Rattle.std.proofs.Props.{props}
use Rattle.std.proofs.lemmas.Cmp.{nat_list_cmp_total, tied_itself}
use Rattle.std.specs.Cmp.Lexicographic.{slice_cmp}
use Rattle.std.specs.Ordering.{nat_cmp}
use Rattle.std.specs.declared.cmp.Ordering.TheVariants.{Less}
use Rattle.ld_union.specs.Findings.{IsBefore, IsTextBefore}

-- the name of a class
abbrev pub class_name : List PlainClass → ℕ → PlainClass
class_name classes class = slice_index_or classes class no_class

-- the class at a place of the order
abbrev pub class_at : List ℕ → ℕ → ℕ
class_at numbers i = slice_index_or numbers i 0

-- the place of a class in the order
abbrev pub place_of_class : List ℕ → ℕ → ℕ
place_of_class places c = slice_index_or places c 0

-- the name at a place of the order
abbrev pub name_at : List PlainClass → List ℕ → ℕ → PlainClass
name_at classes numbers i = class_name classes (class_at numbers i)

-- the names at these places come one after the other
abbrev pub AreRising : (ℕ → PlainClass) → ℕ → Type 0
AreRising names count = (i j : ℕ) → i < j → j < count → IsBefore (names i) (names j)

-- that a name comes before another is so in one way, since a text isn't before itself
pub IsBefore-prop : (a b : PlainClass) → IsProp (IsBefore a b)
IsBefore-prop a b x y = by x y
  where
    apart : IsTextBefore a.name b.name → a.name ≡ b.name → ⊥
    apart x same = true≢false (sym (ap is_lt (subst (λ n. slice_cmp nat_cmp a.name n ≡ Less) (sym same) x))
        ∙ ap is_lt (tied_itself nat_list_cmp_total a.name))

    first : IsProp (IsTextBefore a.name b.name)
    first = hlevel props

    second : IsProp ((a.name ≡ b.name) × (a.sub < b.sub))
    second = hlevel props

    by : (x y : IsBefore a b) → x ≡ y
    by (inl x) (inl y) = ap inl (first x y)
    by (inl x) (inr y) = absurd (apart x y.0)
    by (inr x) (inl y) = absurd (apart y x.0)
    by (inr x) (inr y) = ap inr (second x y)

-- by these `AreByName` is a fact
pub ruleset by_name_props = (props, IsBefore-prop)

-- each number once, in the order of the names, and for each class its place there
pub record AreByName (classes : List PlainClass) (numbers places : List ℕ) : Type 0 where
  pub count : length numbers ≡ length classes
  pub within : All (λ c. c < length classes) numbers
  pub rising : AreRising (name_at classes numbers) (length numbers)
  pub placed : length places ≡ length classes
  pub place : (i : ℕ) → i < length numbers → place_of_class places (class_at numbers i) ≡ i
  pub every : (c : ℕ) → c < length classes
      → (place_of_class places c < length numbers) × (class_at numbers (place_of_class places c) ≡ c)
