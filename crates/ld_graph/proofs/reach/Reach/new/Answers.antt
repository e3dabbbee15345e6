use Rattle.std.proofs.Common.{◌∙◌, ap, arith, length, sym}
use Rattle.ld_graph.proofs.reach.Reach.new.Goals as goal

pub invariant_of-result : goal.invariant_of-result
invariant_of-result c = let none = ap length c.new-2.ensures.each in record {
  same = ap length c.new.ensures.each ∙ sym none;
  counted = rw (c.new-2.ensures.each) c.new-2.ensures.count;
  room_sources = omega (arith, none);
  room_marks = omega (arith, none);
  few = omega (arith, none);
}
