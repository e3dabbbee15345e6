-- The fields of a number stand among the kinds that are left.
use Rattle.std.proofs.Common.{◌≡◌, length}
use Rattle.ld_kernel.specs.Events.{fields_with}
use Rattle.ld_kernel.proofs.decode.fields_with.Given as goal

abbrev pub invariant-loop-rest : goal.invariant-loop-rest
invariant-loop-rest l = fields_with l.id l.rest ≡ fields_with l.id l.kinds

abbrev pub decreases-loop-rest : goal.decreases-loop-rest
decreases-loop-rest l = length l.rest
