use Rattle.std.proofs.Common.{None, arith, ◌++◌}
use Rattle.std.proofs.lemmas.Option.{IfSome_then}
use Rattle.std.specs.List.{last_or}
use Rattle.ld_work.proofs.coming.read_next.Goals as goal

pub read-requires-clause-above : goal.read-requires-clause-above
read-requires-clause-above g c =
    IfSome_then (last_or None (c.args.told.now.behind ++ c.args.told.now.sources)) c.requires.above (λ last below. omega (arith, below))

pub returns : goal.returns
returns g c =
    record { above = IfSome_then (last_or None (c.read.new.told.behind ++ c.read.new.told.sources)) c.in_ok-read.ensures (λ last is. omega (arith, is)) }
