-- The dependency of each row so far is there.
use Rattle.std.specs.Prelude.{take}
use Rattle.ld_cut.proofs.ShowsLemmas.{ShowsRows}
use Rattle.ld_cut.proofs.alike.shows_dependencies.Given as goal

abbrev pub invariant-loop-row : goal.invariant-loop-row
invariant-loop-row l = ShowsRows l.book l.other (take l.row-index l.row-items)
