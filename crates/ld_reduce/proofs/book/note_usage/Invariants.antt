-- The bits of the classes so far are noted.
use Rattle.std.specs.Prelude.{◌≡◌, ◌||◌, ℕ, nat_eq, take}
use Rattle.std.specs.List.{list_any}
use Rattle.ld_book.specs.OfUnion.declared.usage.UsageRow.{UsageRow}
use Rattle.ld_reduce.specs.Reduction.{is_in}
use Rattle.ld_reduce.proofs.book.note_usage.Given as goal

abbrev pub invariant-loop-row : goal.invariant-loop-row
invariant-loop-row l = (number : ℕ) → list_any (nat_eq number) l.firsts
    ≡ (list_any (λ (row : UsageRow). list_any (is_in number) row.first) (take l.row-index l.rows) || list_any (nat_eq number) l.fn.firsts)
