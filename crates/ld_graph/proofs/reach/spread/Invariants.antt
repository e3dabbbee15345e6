use Rattle.std.proofs.Common.{◌-◌, ◌≤◌, List, ℕ, length}
use Rattle.ld_graph.specs.Lists.{IsNear}
use Rattle.ld_graph.specs.Inner.KeptReach.{AreExpanded, IsSpread, none_ahead}
use Rattle.ld_graph.proofs.reach.spread.Given as goal

abbrev pub invariant-loop-done : goal.invariant-loop-done
invariant-loop-done l = record {
  within : (l.known ≤ l.done) × (l.done ≤ length l.sources.reached);
  expanded : AreExpanded l.fn.reader l.fn.marks l.fn.sources l.reader l.marks l.sources;
  spread : (seeds : List ℕ) → IsSpread (IsNear l.fn.reader.lists.after.lists) seeds none_ahead l.fn.sources.each l.fn.marks.each l.fn.sources.reached l.known
      → IsSpread (IsNear l.fn.reader.lists.after.lists) seeds none_ahead l.sources.each l.marks.each l.sources.reached l.done;
}

-- each class gets its source once, so there is an end
abbrev pub decreases-loop-done : goal.decreases-loop-done
decreases-loop-done l = length l.fn.sources.each - l.done
