use Rattle.std.proofs.Common.{◌≡◌, length}
use Rattle.ld_tree.specs.Inner.{AreBuilt, items_of}
use Rattle.ld_tree.proofs.leading.Leading.new.Given as goal

abbrev pub invariant-loop-class : goal.invariant-loop-class
invariant-loop-class l = record {
  size : length l.lists.items ≡ l.graph.classes;
  built : AreBuilt l.graph.edges l.numbers l.places l.marks.items l.class-index (items_of l.lists.items);
}
