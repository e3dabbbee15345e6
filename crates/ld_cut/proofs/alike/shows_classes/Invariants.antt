-- Each class so far is there, with its bits.
use Rattle.ld_cut.proofs.ShowsLemmas.{ShowsBelow}
use Rattle.ld_cut.proofs.alike.shows_classes.Given as goal

abbrev pub invariant-loop-id : goal.invariant-loop-id
invariant-loop-id l = ShowsBelow l.book l.other l.id
