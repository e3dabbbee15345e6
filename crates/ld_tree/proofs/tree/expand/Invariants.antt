use Rattle.std.proofs.Common.{◌≡◌, ◌+◌, ◌≤◌, count_by, is_none, length}
use Rattle.ld_graph.specs.Touched.{AreTouched}
use Rattle.ld_tree.specs.Inner.{IsPart}
use Rattle.ld_tree.specs.Trees.{class_at_place}
use Rattle.ld_tree.proofs.tree.expand.Given as goal

abbrev pub invariant-loop-x : goal.invariant-loop-x
invariant-loop-x l = record {
  size : length l.numbers.items ≡ length l.fn.numbers.items;
  count : count_by is_none l.numbers.items + length l.found.items ≡ count_by is_none l.fn.numbers.items + length l.fn.found.items;
  longer : length l.fn.found.items ≤ length l.found.items;
  at : class_at_place l.start l.found.items l.place ≡ class_at_place l.start l.fn.found.items l.place;
  touched : AreTouched l.numbers.items l.found.items;
  part : IsPart l.leading l.start l.place l.near l.x-index l.found.items l.from.items l.numbers.items;
}
