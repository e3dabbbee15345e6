-- The bits so far are noted.
use Rattle.std.specs.Prelude.{◌≡◌, ◌||◌, ℕ, nat_eq, take}
use Rattle.std.specs.List.{list_any}
use Rattle.ld_reduce.specs.Reduction.{is_in}
use Rattle.ld_reduce.proofs.book.note_bits.Given as goal

abbrev pub invariant-loop-first : goal.invariant-loop-first
invariant-loop-first l = (number : ℕ) → list_any (nat_eq number) l.firsts ≡ (list_any (is_in number) (take l.first-index l.seen) || list_any (nat_eq number) l.fn.firsts)
