use Rattle.std.proofs.Common.{◌≡◌, map, take}
use Rattle.ld_trace.specs.Sources.{plain}
use Rattle.ld_origin.specs.Origin.{plain_home}
use Rattle.lockgraph.specs.Groups.{home_in}
use Rattle.lockgraph.proofs.found.headers_of.Given as goal

abbrev pub invariant-loop-source : goal.invariant-loop-source
invariant-loop-source l = map plain_home l.homes.items ≡ map (home_in l.name) (map plain (take l.source-index l.sources))
