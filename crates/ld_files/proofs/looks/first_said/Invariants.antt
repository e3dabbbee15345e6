-- The first line that says something is one of those that are left.
use Rattle.std.proofs.Common.{◌≡◌, length}
use Rattle.ld_files.specs.Looks.{first_said}
use Rattle.ld_files.proofs.looks.first_said.Given as goal

abbrev pub invariant-loop-line : goal.invariant-loop-line
invariant-loop-line l = first_said l.rest ≡ first_said l.bytes

abbrev pub decreases-loop-line : goal.decreases-loop-line
decreases-loop-line l = length l.rest
