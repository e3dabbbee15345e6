use Rattle.std.specs.Prelude.{◌++◌, ◌<◌, None, IfSome}
use Rattle.std.specs.List.{last_or}
use Rattle.ld_work.proofs.coming.read_cut.Given as goal

abbrev pub invariant-loop-source : goal.invariant-loop-source
invariant-loop-source g l = IfSome (last_or None (l.told.behind ++ l.told.sources)) (λ last. last.number < l.next)
