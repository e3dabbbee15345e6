-- What is left leads to what all lines lead to.
use Rattle.std.proofs.Common.{◌≡◌, ℕ, List, All, fold, length}
use Rattle.ld_cut.specs.State.{after_any, events_in}
use Rattle.ld_cut.specs.Inner.Kept.{IsTold, stands, task_in}
use Rattle.ld_cut.proofs.tasks.Tasks.pass.Given as goal

abbrev pub invariant-loop-line : goal.invariant-loop-line
invariant-loop-line l = record {
  same : (of : List ℕ) → fold (after_any of) (stands (task_in l.self of)) (events_in l.rest) ≡ fold (after_any of) (stands (task_in l.fn.self of)) (events_in l.lines);
  told : All IsTold l.self;
}

abbrev pub decreases-loop-line : goal.decreases-loop-line
decreases-loop-line l = length l.rest
