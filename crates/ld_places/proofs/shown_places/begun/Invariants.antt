use Rattle.std.proofs.Common.{◌-◌, ◌<◌, ◌≤◌, length, map}
use Rattle.ld_trace.specs.Sources.{plain}
use Rattle.ld_places.specs.ShownPlaces.{source_at}
use Rattle.ld_places.proofs.shown_places.begun.Given as goal

abbrev pub invariant-loop-low : goal.invariant-loop-low
invariant-loop-low l = record {
  order : l.low ≤ l.high;
  within : l.high ≤ length l.sources;
  behind : 0 < l.low → (source_at (map plain l.sources) (l.low - 1)).first_line - 1 ≤ l.line;
  before : l.high < length l.sources → l.line < (source_at (map plain l.sources) l.high).first_line - 1;
}

abbrev pub decreases-loop-low : goal.decreases-loop-low
decreases-loop-low l = l.high - l.low
