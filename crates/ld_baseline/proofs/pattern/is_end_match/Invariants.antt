-- Some end of what is left matches what is left of the pattern if some end of the name matches the pattern.
use Rattle.std.proofs.Common.{◌≡◌, ◌+◌, length}
use Rattle.ld_baseline.specs.Match.{is_match, some_end}
use Rattle.ld_baseline.proofs.pattern.is_end_match.Given as goal

abbrev pub invariant-loop-behind : goal.invariant-loop-behind
invariant-loop-behind l = some_end (is_match l.left) l.rest ≡ some_end (is_match l.pattern) l.name

abbrev pub decreases-loop-behind : goal.decreases-loop-behind
decreases-loop-behind l = length l.left + length l.rest
