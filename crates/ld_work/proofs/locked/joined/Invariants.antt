use Rattle.std.specs.Prelude.{◌≡◌, length}
use Rattle.std.specs.List.{sum_by}
use Rattle.ld_work.proofs.locked.joined.Given as goal

abbrev pub invariant-loop-feeder : goal.invariant-loop-feeder
invariant-loop-feeder g l =
    (l.traces.parts ≡ length l.yielded) × (l.traces.amount ≡ sum_by (λ t. t.traces) l.yielded)
    × (l.events.parts ≡ length l.yielded) × (l.events.amount ≡ sum_by (λ t. t.events) l.yielded)
