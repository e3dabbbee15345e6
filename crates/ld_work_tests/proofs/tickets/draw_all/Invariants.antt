use Rattle.ld_work.specs.Draw.{IsSeatOf}
use Rattle.ld_work_tests.proofs.tickets.draw_all.Given as goal

abbrev pub invariant-loop : goal.invariant-loop
invariant-loop l = IsSeatOf l.tickets l.seat
