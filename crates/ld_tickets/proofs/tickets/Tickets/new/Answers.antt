use Rattle.std.proofs.Common.{ap, arith}
use Rattle.ld_tickets.proofs.Steps.{splits}
use Rattle.ld_tickets.proofs.tickets.Tickets.new.Goals as goal

pub split_seat-requires : goal.split_seat-requires
split_seat-requires c =
    let i = c.loop.invariant in (
      i.table.0,
      omega (arith, c.in_ok-table.ensures.0),
      splits _ _ _ (omega (arith, i.left, i.made, c.loop-test.true)) (ap (λ v. v.ended) i.first),
    )
