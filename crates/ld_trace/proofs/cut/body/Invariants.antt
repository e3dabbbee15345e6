-- The lines so far are no headers, and what they leave is what is not read yet.
use Rattle.std.proofs.Common.{length}
use Rattle.ld_trace.specs.Inner.Splitting.{AreSkipped}
use Rattle.ld_trace.proofs.cut.body.Given as goal

abbrev pub invariant-loop-after : goal.invariant-loop-after
invariant-loop-after l = AreSkipped l.bytes l.count l.rest

abbrev pub decreases-loop-after : goal.decreases-loop-after
decreases-loop-after l = length l.rest
