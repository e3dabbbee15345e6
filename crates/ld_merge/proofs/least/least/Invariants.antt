-- The least of the processors so far.
use Rattle.ld_merge.specs.Heads.{IsLeast}
use Rattle.ld_merge.proofs.least.least.Given as goal

abbrev pub invariant-heads : goal.invariant-heads
invariant-heads l = IsLeast l.heads.items l.processor l.best
