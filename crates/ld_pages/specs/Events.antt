-- What the pages of a processor have left.
use Rattle.std.specs.Prelude.{◌≡◌, ◌≤◌, List, [], ◌∷◌, Option, None, length}
use Rattle.ld_pages.specs.declared.events.Events.{Events}
use Rattle.ld_pages.specs.declared.cursor.Fault.{Fault}
use Rattle.ld_pages.specs.declared.cursor.Item.{Item}
use Rattle.ld_pages.specs.Pages.{IsInside, time_of}
use Rattle.ld_pages.specs.Reads.{Reads}

-- What wasn't read yet gives these items, and then ends, or has this fault.
abbrev pub Gives : Events → List Item → Option Fault → Type 0
Gives e = Reads e.layout e.bytes.now e.cursor

-- An item is the first of what was left, and what follows it is left now. Its data stand in the bytes, which are the
-- same, and time didn't go back.
pub record Continues (old : Events) (item : Item) (new : Events) : Type 0 where
  pub first : (is : List Item) (f : Option Fault) → Gives new is f → Gives old (item ∷ is) f
  pub inside : IsInside (length new.bytes.now) item
  pub timed : time_of item ≡ new.cursor.time
  pub later : old.cursor.time ≤ new.cursor.time
  pub bytes : new.bytes.now ≡ old.bytes.now

-- Nothing was left, and nothing is left now.
pub record Ends (old new : Events) : Type 0 where
  pub at_end : Gives new [] None
  pub rest : (is : List Item) (f : Option Fault) → Gives new is f → Gives old is f
