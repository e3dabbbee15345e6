use Rattle.std.specs.Prelude.{All}
use Rattle.ld_explain.specs.Steps.{IsAtFirst}
use Rattle.ld_explain.proofs.violations.add_steps.Given as goal

abbrev pub invariant-loop-place : goal.invariant-loop-place
invariant-loop-place l = All (IsAtFirst l.book) l.steps.items
