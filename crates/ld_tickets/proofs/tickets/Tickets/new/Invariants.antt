use Rattle.std.proofs.Common.{◌≡◌, ◌+◌, [], All, false, vec_len}
use Rattle.ld_tickets.proofs.tickets.Tickets.new.Given as goal

abbrev pub invariant-loop : goal.invariant-loop
invariant-loop l = record {
  table : (l.first.table_id ≡ l.table.shared.table_id) × (l.first.me.1 ≡ []);
  first : l.first.me.0 ≡ record { n = l.n; asked = l.seats; seats = l.first.me.0.seats; drawn = []; ended = 0 };
  left : l.first.me.0.seats + vec_len l.made ≡ l.seats;
  made : vec_len l.made + 1 ≡ l.counter;
  each : All (λ seat. seat ≡ record { table = l.table.shared.table_id; n = l.n; drawn = []; ended = false }) l.made.items;
}
