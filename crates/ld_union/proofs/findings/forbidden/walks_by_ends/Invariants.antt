use Rattle.std.proofs.Common.{◌≡◌, All, List, length, map}
use Rattle.ld_trace.specs.Sources.{PlainSource}
use Rattle.ld_union.specs.Inner.ByName.{name_at}
use Rattle.ld_union.specs.Inner.Rows.{AreEndRowsOf, IsPassed}
use Rattle.ld_union.specs.Inner.Union.{Shows}
use Rattle.ld_union.specs.Inner.Walks.{IsWithin, walk_row}
use Rattle.ld_union.proofs.findings.forbidden.walks_by_ends.Given as goal

abbrev pub invariant-loop-from : goal.invariant-loop-from
invariant-loop-from l = record {
  size : length l.tree.numbers ≡ length l.fn.indexed.union.now.classes;
  within : All (IsWithin (length l.fn.indexed.union.now.classes)) l.walks;
  rows : (sources : List PlainSource) → Shows sources l.fn.indexed.union.now
      → AreEndRowsOf sources l.state (λ p. IsPassed (name_at l.fn.indexed.union.now.classes l.from-items) l.from-index p.0) (map (walk_row l.fn.indexed.union.now l.state) l.walks);
}
