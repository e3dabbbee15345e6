use Rattle.std.proofs.Common.{◌+◌, ◌<◌, ◌≤◌, ◌∙◌, ℕ, length, arith, ap, sym}
use Rattle.ld_order.proofs.ClassLemmas.{ring_some, same_ring}
use Rattle.ld_order.proofs.order.Order.room.Goals as goal

some : (k n : ℕ) → k + 1 ≤ n → 0 < n
some k n h = omega (arith, h)

pub begin-requires-clause-ring : goal.begin-requires-clause-ring
begin-requires-clause-ring c = λ s.
    let e = c.reserve_nodes.ensures in
    same_ring e.labels e.next e.prev
    (ring_some c.self.inside c.self.invariant (λ z. let n = ap length e.labels in omega (arith, s, z, n)))

pub begin-requires-clause-next_len : goal.begin-requires-clause-next_len
begin-requires-clause-next_len c =
    let e = c.reserve_nodes.ensures in ap length e.next ∙ c.self.invariant.next_len ∙ sym (ap length e.labels)

pub begin-requires-clause-prev_len : goal.begin-requires-clause-prev_len
begin-requires-clause-prev_len c =
    let e = c.reserve_nodes.ensures in ap length e.prev ∙ c.self.invariant.prev_len ∙ sym (ap length e.labels)

pub begin-requires-clause-labels_room : goal.begin-requires-clause-labels_room
begin-requires-clause-labels_room c = some _ _ c.in_ok-reserve_nodes.ensures.room.0

pub begin-requires-clause-next_room : goal.begin-requires-clause-next_room
begin-requires-clause-next_room c = some _ _ c.in_ok-reserve_nodes.ensures.room.1.0

pub begin-requires-clause-prev_room : goal.begin-requires-clause-prev_room
begin-requires-clause-prev_room c = some _ _ c.in_ok-reserve_nodes.ensures.room.1.1
