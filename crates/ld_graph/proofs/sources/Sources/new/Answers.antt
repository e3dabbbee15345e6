use Rattle.std.proofs.Common.{arith}
use Rattle.ld_graph.proofs.ReachLemmas.{AreReached-none}
use Rattle.ld_graph.proofs.sources.Sources.new.Goals as goal

pub invariant_of-result : goal.invariant_of-result
invariant_of-result c = record {
  listed = rw (c.new.ensures.items, c.new-2.ensures.items) AreReached-none;
  each_once = rw (c.new.ensures.items) (omega (arith, c.new-2.ensures.len));
  within = omega (arith, c.new.ensures.len);
  room_each = omega arith;
  room_reached = omega arith;
}
