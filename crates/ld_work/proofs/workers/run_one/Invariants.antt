use Rattle.std.specs.Prelude.{◌+◌, ◌-◌, ◌++◌, ◌<◌, ◌≤◌, ℕ, All, None, IfSome, length}
use Rattle.std.specs.List.{last_or}
use Rattle.ld_tickets.specs.Draw.{IsSeatOf}
use Rattle.ld_work.proofs.workers.run_one.Given as goal

-- What a seat drew rises, so it drew no more numbers than lie below the last, and the last number that was read is
-- one of them.
abbrev pub invariant-loop-number : goal.invariant-loop-number
invariant-loop-number g l = record {
  seat : IsSeatOf l.tickets l.seat;
  rises : (k : ℕ) → All (λ number. number < k) l.seat.drawn → length l.seat.drawn ≤ length l.initial.seat.drawn + k;
  last : (k : ℕ) → All (λ number. number < k) l.seat.drawn
      → IfSome (last_or None (l.told.behind ++ l.told.sources)) (λ last. last.number < k);
}

abbrev pub decreases-loop-number : goal.decreases-loop-number
decreases-loop-number g l = length l.initial.seat.drawn + length l.sources - length l.seat.drawn
