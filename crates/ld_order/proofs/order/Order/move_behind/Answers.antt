use Rattle.std.proofs.Common.{◌≡◌, ◌≢◌, ◌<◌, ◌≤◌, ◌+◌, ◌∙◌, ℕ, length, arith, ap, sym, subst, get_or, Contains}
use Rattle.ld_order.specs.Orders.{HaveMoved}
use Rattle.ld_order.specs.Inner.Kept.{ranks_of}
use Rattle.ld_order.proofs.ClassLemmas.{apart_behind, class_below, free_behind, place_behind, ring_of}
use Rattle.ld_order.proofs.order.Order.move_behind.Goals as goal

pub overflow_add-a : goal.overflow_add-a
overflow_add-a c =
    let l = class_below c.self.inside c.args.a (subst (λ o. c.args.a < length o.ranks) (sym c.self.view_is) c.requires.a) in
    omega (arith, l, c.self.invariant.within, c.self.invariant.few)

pub move_classes-requires-clause-ring : goal.move_classes-requires-clause-ring
move_classes-requires-clause-ring c =
    ring_of c.self.inside c.self.invariant c.args.a (subst (λ o. c.args.a < length o.ranks) (sym c.self.view_is) c.requires.a)

pub move_classes-requires-clause-at : goal.move_classes-requires-clause-at
move_classes-requires-clause-at c =
    class_below c.self.inside c.args.a (subst (λ o. c.args.a < length o.ranks) (sym c.self.view_is) c.requires.a)

pub move_classes-requires-clause-classes : goal.move_classes-requires-clause-classes
move_classes-requires-clause-classes c = λ x n.
    class_below c.self.inside x (subst (λ o. x < length o.ranks) (sym c.self.view_is) (c.requires.classes x n))

pub move_classes-requires-clause-free : goal.move_classes-requires-clause-free
move_classes-requires-clause-free c = λ x n.
    let h : c.args.a < length (ranks_of c.self.inside.labels.items) = subst (λ o. c.args.a < length o.ranks) (sym c.self.view_is) c.requires.a in
    free_behind c.self.inside.labels.items c.self.inside.next.items c.self.inside.prev.items (ring_of c.self.inside c.self.invariant c.args.a h)
    c.args.a (class_below c.self.inside c.args.a h) x
    (subst (λ o. get_or o.ranks x 0 < get_or o.ranks c.args.a 0) (sym c.self.view_is) (c.requires.below x n))

pub move_classes-requires-clause-apart : goal.move_classes-requires-clause-apart
move_classes-requires-clause-apart c = λ x n.
    let h : c.args.a < length (ranks_of c.self.inside.labels.items) = subst (λ o. c.args.a < length o.ranks) (sym c.self.view_is) c.requires.a in
    apart_behind c.self.inside.labels.items c.self.inside.next.items c.self.inside.prev.items (ring_of c.self.inside c.self.invariant c.args.a h)
    c.args.a (class_below c.self.inside c.args.a h) x
    (class_below c.self.inside x (subst (λ o. x < length o.ranks) (sym c.self.view_is) (c.requires.classes x n)))
    (subst (λ o. get_or o.ranks x 0 < get_or o.ranks c.args.a 0) (sym c.self.view_is) (c.requires.below x n))

pub returns-clause-moved : goal.returns-clause-moved
returns-clause-moved c =
    let h : c.args.a < length (ranks_of c.self.inside.labels.items) = subst (λ o. c.args.a < length o.ranks) (sym c.self.view_is) c.requires.a in
    subst (λ o. HaveMoved (Contains c.args.classes.now) (get_or o.ranks c.args.a 0 + 1) o.ranks (ranks_of c.move_classes.new.labels.items)) c.self.view_is
    (c.move_classes.ensures.moved (get_or (ranks_of c.self.inside.labels.items) c.args.a 0 + 1)
    (place_behind c.self.inside.labels.items c.self.inside.next.items c.self.inside.prev.items (ring_of c.self.inside c.self.invariant c.args.a h)
    c.args.a (class_below c.self.inside c.args.a h)))
