use Rattle.std.proofs.Common.{◌≡◌, ◌+◌, ◌<◌, ◌≤◌, ℕ, count_by, get_or, is_none, length}
use Rattle.ld_graph.specs.Touched.{AreTouched}
use Rattle.ld_graph.specs.Inner.Levels.{HasLevel}
use Rattle.ld_tree.specs.Trees.{nth}
use Rattle.ld_tree.proofs.leading.mark.Given as goal

abbrev pub invariant-loop-x : goal.invariant-loop-x
invariant-loop-x l = record {
  size : length l.marks.items ≡ length l.fn.marks.items;
  count : count_by is_none l.marks.items + length l.found.items ≡ count_by is_none l.fn.marks.items + length l.fn.found.items;
  touched : AreTouched l.marks.items l.found.items;
  longer : length l.fn.found.items ≤ length l.found.items;
  front : (k : ℕ) → k < length l.fn.found.items → nth l.found.items k ≡ nth l.fn.found.items k;
  kept : (x : ℕ) → HasLevel l.fn.marks.items x → HasLevel l.marks.items x;
  all : (k : ℕ) → k < l.x-index → HasLevel l.marks.items (get_or l.near k 0);
}
