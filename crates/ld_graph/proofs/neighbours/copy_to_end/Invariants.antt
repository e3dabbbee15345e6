use Rattle.std.proofs.Common.{◌≡◌, ◌≤◌, ◌++◌, take, drop, vec_capacity}
use Rattle.ld_graph.proofs.neighbours.copy_to_end.Given as goal

abbrev pub invariant-loop-i : goal.invariant-loop-i
invariant-loop-i l = record {
  items : l.slots.items ≡ l.fn.slots.items ++ take l.i (drop l.start l.fn.slots.items);
  capacity : vec_capacity l.fn.slots ≤ vec_capacity l.slots;
}
