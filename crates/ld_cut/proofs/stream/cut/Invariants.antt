-- The traces so far are cut, and there is room for the others.
use Rattle.std.proofs.Common.{◌≡◌, ◌≤◌, ◌+◌, ◌-◌, List, length, map, take}
use Rattle.ld_trace.specs.Sources.{PlainSource, plain}
use Rattle.ld_trace.specs.declared.source.TheConstants.{MOST_TRACES}
use Rattle.ld_reduce.specs.Written.{written}
use Rattle.ld_cut.specs.Cut.{AreCut, all_pieces}
use Rattle.ld_cut.proofs.stream.cut.Given as goal

abbrev pub invariant-loop-source : goal.invariant-loop-source
invariant-loop-source l = (pieces : List (List PlainSource))
    × AreCut l.lines (map plain (take l.source-index l.sources)) pieces
    × (l.text.items ≡ written (all_pieces pieces))
    × (length (all_pieces pieces) + l.room ≤ l.source-index + (MOST_TRACES - length l.sources))
    × (l.room ≤ MOST_TRACES)
