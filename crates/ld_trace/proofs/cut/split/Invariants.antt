-- The lines so far have no fault and open the sections so far; what is left begins with a header.
use Rattle.std.proofs.Common.{◌≡◌, ◌+◌, ◌++◌, ◌≤◌, false, length, map, All}
use Rattle.ld_trace.specs.declared.source.TheConstants.{LONGEST_STREAM, MOST_TRACES}
use Rattle.ld_trace.specs.Lines.{lines}
use Rattle.ld_trace.specs.Sources.{Fits, headers_before, opened_at, plain, sections}
use Rattle.ld_trace.specs.Inner.Splitting.{IsCutAt, given_from}
use Rattle.ld_trace.proofs.cut.split.Given as goal

abbrev pub invariant-loop-head : goal.invariant-loop-head
invariant-loop-head l = let all = lines l.bytes in record {
  cut : IsCutAt all l.rest.count l.rest.bytes.now;
  headers : headers_before all l.rest.count ≡ l.number;
  opened : l.refused ≡ false → map plain l.sources.items ++ given_from (opened_at all) all l.rest.count ≡ sections all;
  fit : All (λ source. Fits (plain source)) l.sources.items;
  within : l.rest.count + length l.rest.bytes.now ≤ length l.bytes;
  long : length l.bytes ≤ LONGEST_STREAM;
  few : l.number ≤ MOST_TRACES;
}

abbrev pub decreases-loop-head : goal.decreases-loop-head
decreases-loop-head l = length l.rest.bytes.now
