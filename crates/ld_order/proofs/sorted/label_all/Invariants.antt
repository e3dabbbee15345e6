use Rattle.std.proofs.Common.{◌≡◌, ◌≤◌, map, take, length, vec_capacity}
use Rattle.ld_order.specs.Inner.Labels.{labelled}
use Rattle.ld_order.proofs.sorted.label_all.Given as goal

abbrev pub invariant-loop-class : goal.invariant-loop-class
invariant-loop-class l = record {
  items : l.pool.items ≡ map (labelled l.labels) (take l.class-index l.classes);
  room : length l.classes ≤ vec_capacity l.pool;
  kept : vec_capacity l.fn.pool ≤ vec_capacity l.pool;
}
