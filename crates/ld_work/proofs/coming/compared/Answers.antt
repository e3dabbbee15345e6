use Rattle.std.proofs.Common.{All, map, subst}
use Rattle.std.specs.List.{Contains}
use Rattle.ld_trace.specs.Sources.{plain}
use Rattle.ld_work.proofs.coming.compared.Goals as goal

pub settled-requires-clause-among : goal.settled-requires-clause-among
settled-requires-clause-among c = subst (All (Contains (map plain c.args.sources.now))) c.listed.ensures.sources c.in-None.ensures
