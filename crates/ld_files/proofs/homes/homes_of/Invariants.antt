-- The traces so far have their homes.
use Rattle.std.specs.Prelude.{map, take}
use Rattle.ld_trace.specs.Sources.{plain}
use Rattle.ld_origin.specs.Origin.{plain_home}
use Rattle.ld_files.specs.Homes.{AreHomes}
use Rattle.ld_files.proofs.homes.homes_of.Given as goal

abbrev pub invariant-loop-source : goal.invariant-loop-source
invariant-loop-source l = AreHomes l.places (map plain (take l.source-index l.sources)) (map plain_home l.homes.items)
