use Rattle.std.specs.Prelude.{◌<◌, ◌≤◌, ℕ, slice_index_or}
use Rattle.ld_rules.specs.declared.outcome.Listed.{Listed}
use Rattle.ld_book.proofs.traces.are_in_order.Given as goal

-- so far the numbers don't fall
abbrev pub invariant-loop-place : goal.invariant-loop-place
invariant-loop-place l = (i j : ℕ) (d : Listed) → i ≤ j → j < l.place → (slice_index_or l.listed i d).source.number ≤ (slice_index_or l.listed j d).source.number
