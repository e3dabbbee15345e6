use Rattle.std.specs.Prelude.{◌≡◌, ◌++◌, length, map}
use Rattle.ld_work.proofs.workers.jobs_of.Given as goal

abbrev pub invariant-loop-feeder : goal.invariant-loop-feeder
invariant-loop-feeder g l = record {
  seats : map (λ job. job.seat) l.jobs.items ++ l.feeder-iterator.b.rest.items ≡ l.fn.seats.items;
  left : length l.feeder-iterator.a.rest.items ≡ length l.feeder-iterator.b.rest.items;
}
