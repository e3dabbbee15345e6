-- What an edge that is new does to the ranks. No public contract cites this file.
use Rattle.std.specs.Prelude.{◌≡◌, ℕ, ◌<◌, Bool, true, false, List, slice_index}
use Rattle.ld_graph.specs.declared.ranks.Insert.{Insert}
use Rattle.ld_graph.specs.declared.ranks.Insert.TheVariants.{Known, Kept, Moved, Closed, AfterCycle}
use Rattle.ld_graph.specs.Inner.Repairs.{IsRepaired, IsOrReaches}

-- the answer for an edge from a to b that isn't there yet, whether there was a cycle and is one, and
-- the ranks before and after
abbrev pub IsPlaced : (step : ℕ → ℕ → Type 0) → (a b : ℕ) → Insert → (was now : Bool)
    → (old new : List ℕ) → Type 0
IsPlaced step a b Known was now old new = ⊥
IsPlaced step a b Kept was now old new =
    (was ≡ false) × ((now ≡ false) × ((new ≡ old) × (slice_index old a < slice_index old b)))
IsPlaced step a b (Moved expanded) was now old new =
    (was ≡ false) × ((now ≡ false) × ((slice_index old b < slice_index old a)
    × IsRepaired step a b old new expanded))
IsPlaced step a b Closed was now old new =
    (was ≡ false) × ((now ≡ true) × ((new ≡ old) × IsOrReaches step b a))
IsPlaced step a b AfterCycle was now old new = (was ≡ true) × ((now ≡ true) × (new ≡ old))
