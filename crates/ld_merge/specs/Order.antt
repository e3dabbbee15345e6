-- The order of merged items.
use Rattle.std.specs.Prelude.{ℕ, ◌≡◌, ◌<◌, ◌≤◌, ◌==◌, List, [], ◌∷◌, Option, Some, None, if◌then◌else◌}
use Rattle.ld_pages.specs.declared.cursor.Item.{Item}
use Rattle.ld_pages.specs.Pages.{time_of}
use Rattle.ld_merge.specs.declared.entry.Entry.{Entry}

-- no later, and at the same time of no higher processor
pub record IsBefore (a b : Entry) : Type 0 where
  pub no_later : time_of a.item ≤ time_of b.item
  pub tie : time_of a.item ≡ time_of b.item → a.processor ≤ b.processor

-- None stands before each.
abbrev pub IsAfter : Option Entry → Entry → Type 0
IsAfter None e = Unit {0}
IsAfter (Some last) e = IsBefore last e

-- Each entry is after the one before it, the first after this one.
abbrev pub AreAfter : Option Entry → List Entry → Type 0
AreAfter last [] = Unit {0}
AreAfter last (e ∷ es) = IsAfter last e × AreAfter (Some e) es

-- the items of a processor
abbrev pub items_of : ℕ → List Entry → List Item
items_of k [] = []
items_of k (e ∷ es) = if e.processor == k then e.item ∷ items_of k es else items_of k es

-- Their processors are the first n.
abbrev pub AreBelow : ℕ → List Entry → Type 0
AreBelow n [] = Unit {0}
AreBelow n (e ∷ es) = (e.processor < n) × AreBelow n es
