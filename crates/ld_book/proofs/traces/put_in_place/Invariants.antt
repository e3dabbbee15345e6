use Rattle.std.specs.Prelude.{◌≡◌, length}
use Rattle.std.specs.List.Sorted.{IsPermutation}
use Rattle.ld_book.proofs.traces.put_in_place.Given as goal

-- they stand in another order
abbrev pub invariant-loop : goal.invariant-loop
invariant-loop l = record {
  moved : IsPermutation l.fn.listed l.listed;
  count : length l.listed ≡ length l.fn.listed;
}

-- they stand in another order
abbrev pub invariant-loop-place : goal.invariant-loop-place
invariant-loop-place l = record {
  moved : IsPermutation l.fn.listed l.listed;
  count : length l.listed ≡ length l.fn.listed;
}
