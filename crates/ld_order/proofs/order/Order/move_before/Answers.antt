use Rattle.std.proofs.Common.{◌≡◌, ◌≢◌, ◌<◌, ◌≤◌, ◌+◌, ◌∙◌, ℕ, length, arith, ap, sym, subst, get_or, Contains}
use Rattle.std.proofs.lemmas.List.{get_or_read}
use Rattle.ld_order.specs.Orders.{HaveMoved}
use Rattle.ld_order.specs.Inner.Kept.{ranks_of}
use Rattle.ld_order.proofs.ClassLemmas.{apart_before, before_in, class_below, free_before, place_before, ring_of}
use Rattle.ld_order.proofs.order.Order.move_before.Goals as goal

pub index-at-requires : goal.index-at-requires
index-at-requires c =
    let l = class_below c.self.inside c.args.b (subst (λ o. c.args.b < length o.ranks) (sym c.self.view_is) c.requires.b) in
    omega (arith, l, c.self.invariant.prev_len)

pub move_classes-requires-clause-ring : goal.move_classes-requires-clause-ring
move_classes-requires-clause-ring c =
    ring_of c.self.inside c.self.invariant c.args.b (subst (λ o. c.args.b < length o.ranks) (sym c.self.view_is) c.requires.b)

pub move_classes-requires-clause-at : goal.move_classes-requires-clause-at
move_classes-requires-clause-at c =
    let h : c.args.b < length (ranks_of c.self.inside.labels.items) = subst (λ o. c.args.b < length o.ranks) (sym c.self.view_is) c.requires.b in
    let l = class_below c.self.inside c.args.b h in
    before_in c.self.inside.labels.items c.self.inside.next.items c.self.inside.prev.items (ring_of c.self.inside c.self.invariant c.args.b h)
    c.args.b l c.index-at.result.now
    (get_or_read c.self.inside.prev.items (c.args.b + 1) c.index-at.result.now (omega (arith, l, c.self.invariant.prev_len)) c.index-at.ensures 0)

pub move_classes-requires-clause-classes : goal.move_classes-requires-clause-classes
move_classes-requires-clause-classes c = λ x n.
    class_below c.self.inside x (subst (λ o. x < length o.ranks) (sym c.self.view_is) (c.requires.classes x n))

pub move_classes-requires-clause-free : goal.move_classes-requires-clause-free
move_classes-requires-clause-free c = λ x n.
    let h : c.args.b < length (ranks_of c.self.inside.labels.items) = subst (λ o. c.args.b < length o.ranks) (sym c.self.view_is) c.requires.b in
    let l = class_below c.self.inside c.args.b h in
    free_before c.self.inside.labels.items c.self.inside.next.items c.self.inside.prev.items (ring_of c.self.inside c.self.invariant c.args.b h)
    c.args.b l c.index-at.result.now
    (get_or_read c.self.inside.prev.items (c.args.b + 1) c.index-at.result.now (omega (arith, l, c.self.invariant.prev_len)) c.index-at.ensures 0)
    x (class_below c.self.inside x (subst (λ o. x < length o.ranks) (sym c.self.view_is) (c.requires.classes x n)))
    (subst (λ o. get_or o.ranks c.args.b 0 < get_or o.ranks x 0) (sym c.self.view_is) (c.requires.above x n))

pub move_classes-requires-clause-apart : goal.move_classes-requires-clause-apart
move_classes-requires-clause-apart c = λ x n.
    let h : c.args.b < length (ranks_of c.self.inside.labels.items) = subst (λ o. c.args.b < length o.ranks) (sym c.self.view_is) c.requires.b in
    let l = class_below c.self.inside c.args.b h in
    apart_before c.self.inside.labels.items c.self.inside.next.items c.self.inside.prev.items (ring_of c.self.inside c.self.invariant c.args.b h)
    c.args.b l c.index-at.result.now
    (get_or_read c.self.inside.prev.items (c.args.b + 1) c.index-at.result.now (omega (arith, l, c.self.invariant.prev_len)) c.index-at.ensures 0)
    x (class_below c.self.inside x (subst (λ o. x < length o.ranks) (sym c.self.view_is) (c.requires.classes x n)))
    (subst (λ o. get_or o.ranks c.args.b 0 < get_or o.ranks x 0) (sym c.self.view_is) (c.requires.above x n))

pub returns-clause-moved : goal.returns-clause-moved
returns-clause-moved c =
    let h : c.args.b < length (ranks_of c.self.inside.labels.items) = subst (λ o. c.args.b < length o.ranks) (sym c.self.view_is) c.requires.b in
    let l = class_below c.self.inside c.args.b h in
    subst (λ o. HaveMoved (Contains c.args.classes.now) (get_or o.ranks c.args.b 0) o.ranks (ranks_of c.move_classes.new.labels.items)) c.self.view_is
    (c.move_classes.ensures.moved (get_or (ranks_of c.self.inside.labels.items) c.args.b 0)
    (place_before c.self.inside.labels.items c.self.inside.next.items c.self.inside.prev.items (ring_of c.self.inside c.self.invariant c.args.b h)
    c.args.b l c.index-at.result.now
    (get_or_read c.self.inside.prev.items (c.args.b + 1) c.index-at.result.now (omega (arith, l, c.self.invariant.prev_len)) c.index-at.ensures 0)))
