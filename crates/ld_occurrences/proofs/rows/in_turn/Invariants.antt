use Rattle.std.proofs.Common.{◌≡◌, filter_map, map, take}
use Rattle.ld_occurrences.specs.Named.{plain_dependency}
use Rattle.ld_occurrences.specs.Occurrences.{occurrence_in, plain_occurrence, traces_of}
use Rattle.ld_occurrences.proofs.rows.in_turn.Given as goal

abbrev pub invariant-loop-trace : goal.invariant-loop-trace
invariant-loop-trace l =
    map plain_occurrence l.rows.items ≡ filter_map (occurrence_in (plain_dependency l.fn.what)) (traces_of (take l.trace-index l.traces))
