use Rattle.std.proofs.Common.{◌≡◌, List, map}
use Rattle.ld_trace.specs.Sources.{PlainSource}
use Rattle.ld_union.specs.Inner.ByName.{name_at}
use Rattle.ld_union.specs.Inner.Rows.{AreConflictRowsOf, IsPassed}
use Rattle.ld_union.specs.Findings.{plain_conflict_row}
use Rattle.ld_union.specs.Inner.Union.{Shows}
use Rattle.ld_union.proofs.findings.conflicts.conflicts_of.Given as goal

abbrev pub invariant-loop-class : goal.invariant-loop-class
invariant-loop-class l = (sources : List PlainSource) → Shows sources l.fn.indexed.union.now
    → AreConflictRowsOf sources (λ p. (p.0 ≡ l.state) × IsPassed (name_at l.fn.indexed.union.now.classes l.fn.indexed.order.now.numbers.items) l.class-index p.1) (map plain_conflict_row l.rows.items)
