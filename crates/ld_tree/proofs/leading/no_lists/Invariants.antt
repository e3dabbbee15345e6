use Rattle.std.proofs.Common.{◌≡◌, ℕ, [], length}
use Rattle.ld_graph.specs.Lists.{list_at}
use Rattle.ld_tree.specs.Inner.{items_of}
use Rattle.ld_tree.proofs.leading.no_lists.Given as goal

abbrev pub invariant-loop : goal.invariant-loop
invariant-loop l = record {
  len : length l.lists.items ≡ l.counter;
  none : (x : ℕ) → list_at (items_of l.lists.items) x ≡ [];
}
