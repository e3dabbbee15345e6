use Rattle.std.proofs.Common.{◌≡◌, map, take}
use Rattle.ld_union.specs.Inner.ByName.{class_at}
use Rattle.ld_union.proofs.findings.cycles.ends_on_cycle.Given as goal

abbrev pub invariant-loop-place : goal.invariant-loop-place
invariant-loop-place l = l.ends.items ≡ map (class_at l.fn.indexed.order.now.numbers.items) (take l.place-index l.place-items)
