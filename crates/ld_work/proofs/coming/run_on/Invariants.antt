use Rattle.std.specs.Prelude.{◌++◌, ◌<◌, None, IfSome}
use Rattle.std.specs.List.{last_or}
use Rattle.ld_work.proofs.coming.run_on.Given as goal

abbrev pub invariant-loop : goal.invariant-loop
invariant-loop g l = IfSome (last_or None (l.told.behind ++ l.told.sources)) (λ last. last.number < l.from)
