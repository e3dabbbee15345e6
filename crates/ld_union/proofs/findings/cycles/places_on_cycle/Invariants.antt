use Rattle.std.proofs.Common.{◌≡◌, get_or}
use Rattle.ld_union.proofs.StayingLemmas.{AreStaying}
use Rattle.ld_union.proofs.findings.cycles.places_on_cycle.Given as goal

abbrev pub invariant-loop-to : goal.invariant-loop-to
invariant-loop-to l = AreStaying l.to-items l.fn.indexed.order.now.places.items (λ c. get_or l.components c 0 ≡ get_or l.components l.from 0) l.to-index l.places.items
