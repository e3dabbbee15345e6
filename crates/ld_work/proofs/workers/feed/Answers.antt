use Rattle.std.proofs.lemmas.List.Elements.{All-same}
use Rattle.ld_tickets.specs.Draw.{IsSeatOf}
use Rattle.ld_work.proofs.JobLemmas.{All-under_map}
use Rattle.ld_work.proofs.workers.feed.Goals as goal

pub run-requires-clause-seats : goal.run-requires-clause-seats
run-requires-clause-seats g c κs within =
    let P = IsSeatOf c.in_ok-tickets.tickets in
    let seats = c.in_ok-tickets.seats.items in
    All-under_map P (λ job. job.seat) c.in_ok-jobs.jobs.items (All-same P _ seats c.in_ok-jobs.ensures.seats c.in_ok-tickets.ensures.seats)
