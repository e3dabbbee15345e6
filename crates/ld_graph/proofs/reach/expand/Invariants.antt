use Rattle.std.proofs.Common.{◌≡◌, ◌≤◌, ◌⊎◌, ℕ, List, Contains, length, set, take, true}
use Rattle.ld_graph.specs.Lists.{IsNear, list_at}
use Rattle.ld_graph.specs.Walks.{HasWalk}
use Rattle.ld_graph.specs.Inner.KeptReach.{IsSpread, all_ahead, ahead_from}
use Rattle.ld_graph.proofs.reach.expand.Given as goal

abbrev pub invariant-loop-next : goal.invariant-loop-next
invariant-loop-next l = record {
  len : length l.sources.each ≡ length l.fn.sources.each;
  room : l.sources.room ≡ l.fn.sources.room;
  longer : length l.fn.sources.reached ≤ length l.sources.reached;
  front : (n : ℕ) → n ≤ length l.fn.sources.reached → take n l.sources.reached ≡ take n l.fn.sources.reached;
  spread : (done : ℕ) (seeds : List ℕ) → done ≤ length l.fn.sources.reached
      → IsSpread (IsNear l.fn.reader.lists.after.lists) seeds (all_ahead (IsNear l.fn.reader.lists.after.lists) l.class) l.fn.sources.each
      (set l.fn.marks.each l.class true) l.fn.sources.reached done
      → Contains seeds l.from × ((l.from ≡ l.class) ⊎ HasWalk (IsNear l.fn.reader.lists.after.lists) l.from l.class)
      → IsSpread (IsNear l.fn.reader.lists.after.lists) seeds (ahead_from (list_at l.fn.reader.lists.after.lists l.class) l.class l.next-index) l.sources.each
      l.marks.each l.sources.reached done;
}
