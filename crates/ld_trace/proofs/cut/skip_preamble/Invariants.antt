-- The lines so far say nothing, so they have no fault and open no section.
use Rattle.std.proofs.Common.{◌≡◌, ◌+◌, ◌≤◌, length, drop}
use Rattle.ld_trace.specs.Lines.{lines}
use Rattle.ld_trace.specs.Sources.{fault_at, headers_before, line_faults, opened_at, sections}
use Rattle.ld_trace.specs.Inner.Splitting.{given_from}
use Rattle.ld_trace.proofs.cut.skip_preamble.Given as goal

abbrev pub invariant-loop-line : goal.invariant-loop-line
invariant-loop-line l = let all = lines l.bytes in record {
  left : lines l.rest ≡ drop l.count all;
  faults : line_faults all ≡ given_from (fault_at all) all l.count;
  opened : sections all ≡ given_from (opened_at all) all l.count;
  headers : headers_before all l.count ≡ 0;
  within : l.count + length l.rest ≤ length l.bytes;
}

abbrev pub decreases-loop-line : goal.decreases-loop-line
decreases-loop-line l = length l.rest
