use Rattle.std.proofs.Common.{◌≡◌, ℕ, false, if◌then◌else◌, get_or, length, nat_eq, take}
use Rattle.std.specs.List.{list_any}
use Rattle.ld_tables.proofs.marked_set.unmark.Given as goal

abbrev pub invariant-loop-number : goal.invariant-loop-number
invariant-loop-number l = record {
  many : length l.marks.items ≡ length l.fn.marks.items;
  off : (k : ℕ) → get_or l.marks.items k false ≡ (if list_any (nat_eq k) (take l.number-index l.numbers) then false else get_or l.fn.marks.items k false);
}
