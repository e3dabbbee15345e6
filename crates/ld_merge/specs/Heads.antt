-- What the processors have left, each with its next item in front.
use Rattle.std.specs.Prelude.{ℕ, ◌≡◌, ◌<◌, ◌≤◌, List, [], ◌∷◌, Option, Some, None, get_or, length, nat_lt, if◌then◌else◌}
use Rattle.ld_pages.specs.declared.events.Events.{Events}
use Rattle.ld_pages.specs.declared.cursor.Fault.{Fault}
use Rattle.ld_pages.specs.declared.cursor.Item.{Item}
use Rattle.ld_pages.specs.Events.{Gives}
use Rattle.ld_pages.specs.Pages.{time_of}
use Rattle.ld_merge.specs.declared.entry.Entry.{Entry}
use Rattle.ld_merge.specs.declared.head.Head.{Head}
use Rattle.ld_merge.specs.Order.{AreAfter, AreBelow, IsAfter, items_of}

abbrev pub entry : ℕ → Item → Entry
entry k i = record { processor = k; item = i }

-- an item in front, if there is one, and what the pages behind it give
abbrev pub Fronts : Option Item → Events → List Item → Option Fault → Type 0
Fronts None events is f = Gives events is f
Fronts (Some i) events is f = (js : List Item) × (is ≡ i ∷ js) × Gives events js f

-- what a head has left
abbrev pub Left : Head → List Item → Option Fault → Type 0
Left h is f = Fronts h.item h.events is f

-- What the head has left is what the pages have left.
abbrev pub IsOf : Events → Head → Type 0
IsOf events h = (is : List Item) (f : Option Fault) → Left h is f → Gives events is f

-- The pages without an item in front have ended.
abbrev pub IsEnd : Option Item → Events → Type 0
IsEnd None events = Gives events [] None
IsEnd (Some i) events = Unit {0}

-- An item has the time that the pages have come to, and that is no earlier than this one.
abbrev pub IsTimed : ℕ → Option Item → ℕ → Type 0
IsTimed since None time = Unit {0}
IsTimed since (Some i) time = (time_of i ≡ time) × (since ≤ time)

-- an item of a processor is after an entry
abbrev pub IsBehind : Option Entry → ℕ → Option Item → Type 0
IsBehind last k None = Unit {0}
IsBehind last k (Some i) = IsAfter last (entry k i)

-- What holds of the head of processor k behind an entry.
pub record IsHead (last : Option Entry) (k : ℕ) (h : Head) : Type 0 where
  pub timed : IsTimed 0 h.item h.events.cursor.time
  pub behind : IsBehind last k h.item
  pub at_end : IsEnd h.item h.events

abbrev pub AreHeads : Option Entry → List Head → Type 0
AreHeads last heads = (k : ℕ) (d : Head) → k < length heads → IsHead last k (get_or heads k d)

-- An item in front that is the least so far, and one of processor k.
abbrev pub pick : Option Entry → ℕ → Option Item → Option Entry
pick best k None = best
pick None k (Some i) = Some (entry k i)
pick (Some b) k (Some i) = if nat_lt (time_of i) (time_of b.item) then Some (entry k i) else Some b

-- No processor has an item, or none has one before the least.
abbrev pub IsLeastOf : Option Entry → ℕ → Option Item → Type 0
IsLeastOf None k None = Unit {0}
IsLeastOf None k (Some i) = ⊥
IsLeastOf (Some e) k item = IsBehind (Some e) k item

-- This entry is the item in front of its processor, one of the first n.
abbrev pub IsInFront : List Head → ℕ → Option Entry → Type 0
IsInFront heads n None = Unit {0}
IsInFront heads n (Some e) = (e.processor < n) × ((d : Head) → (get_or heads e.processor d).item ≡ Some e.item)

-- the least of the items in front of the first n processors
pub record IsLeast (heads : List Head) (n : ℕ) (best : Option Entry) : Type 0 where
  pub found : IsInFront heads n best
  pub least : (k : ℕ) (d : Head) → k < n → IsLeastOf best k (get_or heads k d).item

-- What the heads have left, merged behind an entry.
pub record IsMergeFrom (heads : List Head) (last : Option Entry) (out : List Entry) : Type 0 where
  pub each : (k : ℕ) (d : Head) → k < length heads → Left (get_or heads k d) (items_of k out) None
  pub known : AreBelow (length heads) out
  pub ordered : AreAfter last out
