use Rattle.std.proofs.Common.{rules, [], arith, nat_eq, refl}
use Rattle.std.proofs.lemmas.Map.Keys.{IsDistinct-from_apart}
use Rattle.ld_book.proofs.listing.Listing.new.Goals as goal

pub invariant_of-result : goal.invariant_of-result
invariant_of-result c = record {
  outcomes = rw (c.new.ensures.items) (search rules);
  fit = rw (c.new.ensures.items) (search rules);
  distinct = rw (c.new.ensures.items) (IsDistinct-from_apart nat_eq [] (λ i j d lower within. absurd (omega (arith, within))));
  marks = rw (c.new.ensures.items, c.new-2.ensures.items) (λ number. refl);
  events = rw (c.new.ensures.items) (search rules);
  refused = rw (c.new.ensures.items) (search rules);
  room_traces = omega (arith, c.new.ensures.len);
  most_marks = rw (c.new-2.ensures.items) (omega arith);
  room_marks = λ some. absurd (omega (arith, some));
}
