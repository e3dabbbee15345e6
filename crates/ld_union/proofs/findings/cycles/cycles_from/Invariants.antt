use Rattle.std.proofs.Common.{◌≡◌, List, map}
use Rattle.ld_trace.specs.Sources.{PlainSource}
use Rattle.ld_union.specs.Inner.ByName.{class_name, name_at}
use Rattle.ld_union.specs.Inner.Rows.{AreCycleRowsOf, IsPassed}
use Rattle.ld_union.specs.Findings.{plain_cycle_row}
use Rattle.ld_union.specs.Inner.Union.{Shows}
use Rattle.ld_union.proofs.findings.cycles.cycles_from.Given as goal

abbrev pub invariant-loop-to : goal.invariant-loop-to
invariant-loop-to l = (sources : List PlainSource) → Shows sources l.fn.indexed.union.now
    → AreCycleRowsOf sources (λ p. (p.0 ≡ class_name l.fn.indexed.union.now.classes l.from) × IsPassed (name_at l.fn.indexed.union.now.classes l.to-items) l.to-index p.1)
    (map plain_cycle_row l.rows.items)
