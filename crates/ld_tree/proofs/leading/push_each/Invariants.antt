use Rattle.std.proofs.Common.{◌≡◌, ◌<◌, ◌++◌, ◌∷◌, [], ℕ, get_or, length}
use Rattle.ld_graph.specs.Lists.{list_at}
use Rattle.ld_tree.specs.Inner.{items_of}
use Rattle.ld_tree.proofs.leading.push_each.Given as goal

abbrev pub invariant-loop-x : goal.invariant-loop-x
invariant-loop-x l = record {
  size : length l.lists.items ≡ length l.fn.lists.items;
  on : (k : ℕ) → k < l.x-index → list_at (items_of l.lists.items) (get_or l.near k 0) ≡ list_at (items_of l.fn.lists.items) (get_or l.near k 0) ++ l.class ∷ [];
  off : (x : ℕ) → ((k : ℕ) → k < l.x-index → ¬ (get_or l.near k 0 ≡ x)) → list_at (items_of l.lists.items) x ≡ list_at (items_of l.fn.lists.items) x;
}
