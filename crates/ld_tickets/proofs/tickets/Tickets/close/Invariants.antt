use Rattle.std.proofs.Common.{◌≡◌, ◌+◌, ◌<◌, ℕ, [], All, count_by, length, map, nat_eq}
use Rattle.ld_tickets.specs.Draw.{times_in}
use Rattle.ld_tickets.proofs.tickets.Tickets.close.Given as goal

abbrev pub invariant-loop-other : goal.invariant-loop-other
invariant-loop-other l = record {
  all : (l.all.table_id ≡ l.table.shared.table_id) × (l.all.me.1 ≡ []);
  some : 0 < l.all.me.0.seats;
  rest : All (λ seat. seat.table ≡ l.table.shared.table_id) l.other-iterator.rest.items;
  seats : l.all.me.0.seats + length l.other-iterator.rest.items ≡ length l.fn.seats.items;
  numbers : (x : ℕ) → count_by (nat_eq x) l.all.me.0.drawn + times_in x (map (λ seat. seat.drawn) l.other-iterator.rest.items)
      ≡ times_in x (map (λ seat. seat.drawn) l.fn.seats.items);
  ended : l.all.me.0.ended + count_by (λ seat. seat.ended) l.other-iterator.rest.items ≡ count_by (λ seat. seat.ended) l.fn.seats.items;
}
