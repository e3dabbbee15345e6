use Rattle.std.proofs.Common.{◌≡◌, ◌<◌, ◌≤◌, ℕ, length, get_or, Some}
use Rattle.ld_graph.specs.Inner.Levels.{level_at}
use Rattle.ld_tree.proofs.tree.forget.Given as goal

abbrev pub invariant-loop-class : goal.invariant-loop-class
invariant-loop-class l = record {
  size : length l.numbers.items ≡ length l.fn.numbers.items;
  left : (x k : ℕ) → level_at l.numbers.items x ≡ Some k → (j : ℕ) × ((l.class-index ≤ j) × ((j < length l.found) × (get_or l.found j 0 ≡ x)));
}
