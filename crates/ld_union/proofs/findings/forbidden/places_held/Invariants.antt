use Rattle.std.proofs.Common.{◌≡◌, get_or, true}
use Rattle.ld_class.specs.Usage.{has_bit, no_bits}
use Rattle.ld_union.specs.Usage.{bits_of}
use Rattle.ld_union.proofs.StayingLemmas.{AreStaying}
use Rattle.ld_union.proofs.findings.forbidden.places_held.Given as goal

abbrev pub invariant-loop-class : goal.invariant-loop-class
invariant-loop-class l = AreStaying l.found l.fn.indexed.order.now.places.items (λ c. has_bit (get_or (bits_of l.fn.indexed.union.now.usage) c no_bits) l.held ≡ true) l.class-index l.places.items
