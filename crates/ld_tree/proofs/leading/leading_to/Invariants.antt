use Rattle.std.proofs.Common.{◌≡◌, ◌+◌, ◌-◌, ◌<◌, ◌≤◌, ℕ, Contains, count_by, is_none, length}
use Rattle.ld_graph.specs.Edges.{IsEdge}
use Rattle.ld_graph.specs.Touched.{AreTouched}
use Rattle.ld_graph.specs.Inner.Levels.{HasLevel}
use Rattle.ld_tree.specs.Trees.{nth}
use Rattle.ld_tree.proofs.leading.leading_to.Given as goal

abbrev pub invariant-loop-done : goal.invariant-loop-done
invariant-loop-done l = record {
  size : length l.marks.items ≡ l.graph.classes;
  upto : l.done ≤ length l.found.items;
  touched : AreTouched l.marks.items l.found.items;
  ends : (e : ℕ) → Contains l.ends e → HasLevel l.marks.items e;
  closed : (i x : ℕ) → i < l.done → IsEdge l.graph.edges x (nth l.found.items i) → HasLevel l.marks.items x;
}

abbrev pub decreases-loop-done : goal.decreases-loop-done
decreases-loop-done l = count_by is_none l.marks.items + length l.found.items - l.done
