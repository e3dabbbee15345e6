use Rattle.std.proofs.Common.{◌≡◌, ◌++◌, length, map}
use Rattle.ld_class.specs.Blocks.{bits_on, classes_in}
use Rattle.ld_tables.specs.Inner.Edges.{edge_to, edges_in}
use Rattle.ld_tables.proofs.facts.add_facts.Given as goal

abbrev pub invariant-loop-left : goal.invariant-loop-left
invariant-loop-left l = l.facts.items ++ map (edge_to l.telling.word.to l.telling.line) (classes_in l.telling.word.block l.left) ≡ l.fn.facts.items ++ edges_in l.telling

abbrev pub decreases-loop-left : goal.decreases-loop-left
decreases-loop-left l = length (bits_on l.left)
