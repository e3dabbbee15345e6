use Rattle.std.proofs.Common.{◌≡◌, All, List, length, map}
use Rattle.ld_trace.specs.Sources.{PlainSource}
use Rattle.ld_union.specs.Inner.ByName.{class_at, class_name, name_at}
use Rattle.ld_union.specs.Inner.Rows.{AreBehind, AreEndRowsOf, IsPassed}
use Rattle.ld_union.specs.Inner.Walks.{IsWithin, walk_row}
use Rattle.ld_union.specs.Inner.Union.{Shows}
use Rattle.ld_union.proofs.findings.forbidden.walks_from.Given as goal

abbrev pub invariant-loop-place : goal.invariant-loop-place
invariant-loop-place l = record {
  within : All (IsWithin (length l.fn.indexed.union.now.classes)) l.walks;
  rows : (sources : List PlainSource) → Shows sources l.fn.indexed.union.now
      → AreBehind (AreEndRowsOf sources l.fn.state (λ p. (p.0 ≡ class_name l.fn.indexed.union.now.classes l.first.class)
      × IsPassed (λ k. name_at l.fn.indexed.union.now.classes l.fn.indexed.order.now.numbers.items (class_at l.place-items k)) l.place-index p.1))
      (map (walk_row l.fn.indexed.union.now l.fn.state) l.fn.walks) (map (walk_row l.fn.indexed.union.now l.fn.state) l.walks);
}
