use Rattle.std.proofs.Common.{◌≡◌, List, length, map}
use Rattle.ld_trace.specs.Sources.{PlainSource}
use Rattle.ld_union.specs.Inner.ByName.{name_at}
use Rattle.ld_union.specs.Inner.Rows.{AreCycleRowsOf, IsPassed}
use Rattle.ld_union.specs.Findings.{plain_cycle_row}
use Rattle.ld_union.specs.Inner.Union.{Shows}
use Rattle.ld_union.proofs.findings.cycles.cycle_rows.Given as goal

abbrev pub invariant-loop-from : goal.invariant-loop-from
invariant-loop-from l = record {
  len : length l.distances ≡ length l.fn.indexed.union.now.classes;
  rows : (sources : List PlainSource) → Shows sources l.fn.indexed.union.now
      → AreCycleRowsOf sources (λ p. IsPassed (name_at l.fn.indexed.union.now.classes l.fn.indexed.order.now.numbers.items) l.from-index p.0) (map plain_cycle_row l.rows.items);
}
