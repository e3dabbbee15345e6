use Rattle.std.proofs.Common.{◌≡◌, ◌+◌, ◌-◌, ◌≤◌, [], count_by, is_none, length}
use Rattle.ld_graph.specs.Touched.{AreTouched}
use Rattle.ld_tree.specs.Inner.{IsPart}
use Rattle.ld_tree.proofs.tree.grow.Given as goal

abbrev pub invariant-loop-done : goal.invariant-loop-done
invariant-loop-done l = record {
  size : length l.numbers.items ≡ length l.fn.numbers.items;
  upto : l.done ≤ length l.found.items;
  touched : AreTouched l.numbers.items l.found.items;
  part : IsPart l.leading l.start (l.done + 1) [] 0 l.found.items l.from.items l.numbers.items;
}

-- each class is found once, so there is an end: what was found and what wasn't together never grow
abbrev pub decreases-loop-done : goal.decreases-loop-done
decreases-loop-done l = count_by is_none l.numbers.items + length l.found.items - l.done
