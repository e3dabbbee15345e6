use Rattle.std.proofs.Common.{◌≡◌, ◌≤◌, map, take, length, vec_capacity}
use Rattle.ld_order.proofs.sorted.take_nodes.Given as goal

abbrev pub invariant-loop-entry : goal.invariant-loop-entry
invariant-loop-entry l = record {
  items : l.sorted.items ≡ map (λ entry. entry.node) (take l.entry-index l.pool);
  room : length l.pool ≤ vec_capacity l.sorted;
  kept : vec_capacity l.fn.sorted ≤ vec_capacity l.sorted;
}
