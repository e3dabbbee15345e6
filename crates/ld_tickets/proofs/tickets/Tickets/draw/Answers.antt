use Rattle.std.proofs.Common.{◌∙◌, sym, ap, arith, if◌then◌else◌}
use Rattle.ld_tickets.proofs.Steps.{draws_at}
use Rattle.ld_tickets.proofs.tickets.Tickets.draw.Goals as goal

pub fetch_add-number-requires : goal.fetch_add-number-requires
fetch_add-number-requires c =
    let seat = c.seat.inside.seat in (
      ap (λ s. s.table) c.seat.view_is ∙ (c.requires.0 ∙ sym (ap (λ t. t.table) c.self.view_is)),
      omega (arith, c.self.invariant.0),
      draws_at _ _ seat.id seat.me c.seat.invariant.1 (c.seat.invariant.2 ∙ ap (λ b. if b then 1 else 0) c.if-seat.false),
    )
