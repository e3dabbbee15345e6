use Rattle.std.proofs.Common.{◌<◌, ◌+◌, ◌++◌, ◌∷◌, [], ◌∙◌, max, length, arith, ap, get_or}
use Rattle.std.proofs.lemmas.List.{length_push}
use Rattle.ld_order.specs.declared.labels.TheConstants.{STEP}
use Rattle.ld_order.specs.declared.ring.TheConstants.{FIRST}
use Rattle.ld_order.specs.Inner.Kept.{ranks_of}
use Rattle.ld_order.proofs.ClassLemmas.{ranks_appended, ranks_len, ranks_same}
use Rattle.ld_order.proofs.PlaceOfLemmas.{last_most}
use Rattle.ld_order.proofs.order.Order.add_class.Goals as goal

pub append-requires-clause-labels_room : goal.append-requires-clause-labels_room
append-requires-clause-labels_room c =
    let i = c.self.invariant in let n = ranks_len c.self.inside.labels.items in
    let a = ap (λ o. length o.ranks) c.self.view_is in let b = ap (λ o. o.room) c.self.view_is in
    let s = i.labels_room (omega (arith, c.requires, b)) in
    omega (arith, s, n, a, b, c.requires, c.make_room_at_end.ensures.len, c.make_room_at_end.ensures.room)

pub append-requires-clause-next_room : goal.append-requires-clause-next_room
append-requires-clause-next_room c =
    let i = c.self.invariant in let n = ranks_len c.self.inside.labels.items in
    let a = ap (λ o. length o.ranks) c.self.view_is in let b = ap (λ o. o.room) c.self.view_is in
    let s = i.next_room (omega (arith, c.requires, b)) in
    omega (arith, s, n, a, b, c.requires, c.make_room_at_end.ensures.len)

pub append-requires-clause-prev_room : goal.append-requires-clause-prev_room
append-requires-clause-prev_room c =
    let i = c.self.invariant in let n = ranks_len c.self.inside.labels.items in
    let a = ap (λ o. length o.ranks) c.self.view_is in let b = ap (λ o. o.room) c.self.view_is in
    let s = i.prev_room (omega (arith, c.requires, b)) in
    omega (arith, s, n, a, b, c.requires, c.make_room_at_end.ensures.len)

pub push_reserved-requires : goal.push_reserved-requires
push_reserved-requires c =
    let i = c.self.invariant in let n = ranks_len c.self.inside.labels.items in
    let a = ap (λ o. length o.ranks) c.self.view_is in let b = ap (λ o. o.room) c.self.view_is in
    omega (arith, i.ranks_len, i.ranks_room, n, a, b, c.requires, c.self.inside.ranks.ok.0)

pub invariant_of-self : goal.invariant_of-self
invariant_of-self c =
    let i = c.self.invariant in let n = ranks_len c.self.inside.labels.items in
    let a = ap (λ o. length o.ranks) c.self.view_is in let b = ap (λ o. o.room) c.self.view_is in
    let some : 0 < c.self.inside.room = omega (arith, c.requires, b) in
    let l = ap length c.append.ensures.labels in
    let p = length_push c.make_room_at_end.new.labels.items (max (get_or c.make_room_at_end.new.labels.items (get_or c.self.inside.prev.items 0 0) 0 + STEP) FIRST) in
    let q = ap length c.push_reserved.ensures.items in let t = length_push c.self.inside.ranks.items 0 in
    record {
      next_len = c.append.ensures.ring.next_len;
      prev_len = c.append.ensures.ring.prev_len;
      ranks_len = omega (arith, l, p, q, t, i.ranks_len, c.make_room_at_end.ensures.len, c.append.ensures.ring.links.some);
      none = λ e. absurd (omega (arith, e, some));
      ring = λ _. c.append.ensures.ring;
      within = omega (arith, l, p, n, a, b, c.requires, c.make_room_at_end.ensures.len);
      few = i.few;
      labels_room = λ s. let w = i.labels_room s in omega (arith, w, c.append.ensures.room.0, c.make_room_at_end.ensures.room);
      next_room = λ s. let w = i.next_room s in omega (arith, w, c.append.ensures.room.1.0);
      prev_room = λ s. let w = i.prev_room s in omega (arith, w, c.append.ensures.room.1.1);
      pool_room = i.pool_room;
      sorted_room = i.sorted_room;
      ranks_room = omega (arith, i.ranks_room, c.push_reserved.ensures.capacity);
    }

pub returns-clause-ranks : goal.returns-clause-ranks
returns-clause-ranks c =
    let mid = c.make_room_at_end.new.labels.items in
    let r = c.make_room_at_end.ensures.ring in
    let e = ranks_same c.self.inside.labels.items mid c.make_room_at_end.ensures.len c.make_room_at_end.ensures.order
    ∙ ap (λ o. o.ranks) c.self.view_is in
    ap ranks_of c.append.ensures.labels
    ∙ ranks_appended mid _ r.links.some (λ k h.
    let m = last_most (length mid) (λ x. get_or mid x 0) (λ x. get_or c.deref.result.now x 0) (λ x. get_or c.deref-2.result.now x 0) r.links k h in
    let v = ap (λ l. get_or mid (get_or l 0 0) 0) c.deref-2.ensures.value in omega (arith, m, v))
    ∙ ap (λ r. r ++ length r ∷ []) e
