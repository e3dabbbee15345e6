-- What is written comes before what of the lines left isn't there.
use Rattle.std.proofs.Common.{◌≡◌, ◌+◌, ◌++◌, ◌≤◌, length}
use Rattle.std.specs.List.{count_by}
use Rattle.ld_trace.specs.Lines.{lines}
use Rattle.ld_baseline.specs.Gone.{going, is_gone, is_in}
use Rattle.ld_baseline.proofs.gone.going.Given as goal

abbrev pub invariant-loop-line : goal.invariant-loop-line
invariant-loop-line l = record {
  text : l.text.items ++ going (is_in l.violations) l.rest ≡ going (is_in l.violations) l.known;
  count : l.count + count_by (is_gone (is_in l.violations)) (lines l.rest) ≡ count_by (is_gone (is_in l.violations)) (lines l.known);
  within : l.count + length l.rest ≤ length l.known;
}

abbrev pub decreases-loop-line : goal.decreases-loop-line
decreases-loop-line l = length l.rest
