-- What is written comes before the lines left.
use Rattle.std.proofs.Common.{◌≡◌, ◌++◌, flat_map, length}
use Rattle.ld_trace.specs.Lines.{lines}
use Rattle.ld_colours.specs.Colours.{styled}
use Rattle.ld_colours.proofs.colours.coloured.Given as goal

abbrev pub invariant-loop-line : goal.invariant-loop-line
invariant-loop-line l = l.shown.items ++ flat_map styled (lines l.rest) ≡ flat_map styled (lines l.text)

abbrev pub decreases-loop-line : goal.decreases-loop-line
decreases-loop-line l = length l.rest
