-- What the pages of a processor give, as a whole: by the steps from one position to the next.
use Rattle.std.specs.Prelude.{ℕ, ◌≡◌, List, [], ◌∷◌, Option, Some, None}
use Rattle.ld_pages.specs.declared.layout.Layout.{Layout}
use Rattle.ld_pages.specs.declared.cursor.Cursor.{Cursor}
use Rattle.ld_pages.specs.declared.cursor.Fault.{Fault}
use Rattle.ld_pages.specs.declared.cursor.Item.{Item}
use Rattle.ld_pages.specs.declared.cursor.Step.TheVariants as steps
use Rattle.ld_pages.specs.Pages.{start, step_at}

-- From a cursor on the bytes give these items, each in its place, and then they end, or have this fault.
pub data Reads (l : Layout) (bytes : List ℕ) : Cursor → List Item → Option Fault → Type 0 where
  ended : {c : Cursor} → step_at l bytes c ≡ steps.Ended → Reads l bytes c [] None
  wrong : {c : Cursor} {f : Fault} → step_at l bytes c ≡ steps.Wrong f → Reads l bytes c [] (Some f)
  goes : {c d : Cursor} {is : List Item} {f : Option Fault} → step_at l bytes c ≡ steps.Goes d → Reads l bytes d is f → Reads l bytes c is f
  gives : {c d : Cursor} {i : Item} {is : List Item} {f : Option Fault} → step_at l bytes c ≡ steps.Gives i d → Reads l bytes d is f → Reads l bytes c (i ∷ is) f

-- All pages give these items, and then they end, or have this fault.
abbrev pub PagesGive : Layout → List ℕ → List Item → Option Fault → Type 0
PagesGive l bytes is f = Reads l bytes start is f
