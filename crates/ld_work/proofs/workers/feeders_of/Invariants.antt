use Rattle.std.specs.Prelude.{◌≡◌, All, false, length}
use Rattle.ld_work.proofs.workers.feeders_of.Given as goal

abbrev pub invariant-loop-feeder : goal.invariant-loop-feeder
invariant-loop-feeder g l = record {
  count : length l.feeders.items ≡ length l.yielded;
  none : l.any_refused ≡ false → All (λ d. d.refused ≡ false) l.yielded;
}
