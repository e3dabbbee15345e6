use Rattle.std.proofs.Common.{reverse}
use Rattle.ld_tree.proofs.ClimbLemmas.{IsClimb}
use Rattle.ld_tree.proofs.tree.Tree.walk.Given as goal

abbrev pub invariant-loop-place : goal.invariant-loop-place
invariant-loop-place l = IsClimb l.leading l.start l.self l.number l.place (reverse l.walk.items)

abbrev pub decreases-loop-place : goal.decreases-loop-place
decreases-loop-place l = l.place
