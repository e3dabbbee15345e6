-- The dependencies so far are noted.
use Rattle.std.specs.Prelude.{◌≡◌, ◌==◌, ◌||◌, ℕ, nat_eq, take}
use Rattle.std.specs.List.{list_any}
use Rattle.ld_book.specs.OfUnion.declared.dependencies.Witnessed.{Witnessed}
use Rattle.ld_reduce.proofs.book.note_dependencies.Given as goal

abbrev pub invariant-loop-row : goal.invariant-loop-row
invariant-loop-row l = (number : ℕ) → list_any (nat_eq number) l.firsts
    ≡ (list_any (λ (row : Witnessed). number == row.first.number) (take l.row-index l.rows) || list_any (nat_eq number) l.fn.firsts)
