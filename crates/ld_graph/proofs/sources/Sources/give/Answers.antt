use Rattle.std.proofs.Common.{◌≡◌, ◌<◌, ◌∙◌, None, Some, ap, arith, false, get_or, is_some, length, set, subst, sym}
use Rattle.std.proofs.lemmas.List.{get_or_read, length-set}
use Rattle.ld_graph.specs.Inner.Sources.{AreReached, Sourced}
use Rattle.ld_graph.proofs.ReachLemmas.{AreReached-given}
use Rattle.ld_graph.proofs.SpreadLemmas.{count_marked, none_is}
use Rattle.ld_graph.proofs.sources.Sources.give.Goals as goal
use Rattle.ld_graph.proofs.sources.Sources.give.Goals.{Else-is_some}

within : (c : Else-is_some) → c.args.class < length c.self.inside.each.items
within c = omega (arith, c.requires, ap (λ (s : Sourced). length s.each) c.self.view_is)

free : (c : Else-is_some) → is_some (get_or c.self.inside.each.items c.args.class None) ≡ false
free c = ap is_some (sym (get_or_read c.self.inside.each.items c.args.class c.index.result.now (within c) c.index.ensures None))
    ∙ sym c.is_some.ensures ∙ c.if-is_some.false

pub push_reserved-requires : goal.push_reserved-requires
push_reserved-requires c =
    let e = (goal.at.push_reserved-requires c).Else-is_some in
    let none = count_marked c.self.inside.each.items c.args.class c.args.from (within e) (none_is (get_or c.self.inside.each.items c.args.class None) (free e)) in
    omega (arith, none, c.self.invariant.each_once, c.self.invariant.within, c.self.invariant.room_reached)

pub invariant_of-self : goal.invariant_of-self
invariant_of-self c =
    let e = (goal.at.invariant_of-self c).Else-is_some in
    let i = c.self.invariant in
    let each = c.self.inside.each.items in
    let none = count_marked each c.args.class c.args.from (within e) (none_is (get_or each c.args.class None) (free e)) in
    let len = length-set each c.args.class (Some c.args.from) in
    record {
      listed = subst (AreReached (set each c.args.class (Some c.args.from))) (sym c.push_reserved.ensures.items)
          (AreReached-given each c.self.inside.reached.items c.args.class c.args.from i.listed (within e) (free e));
      each_once = omega (arith, none, i.each_once, c.push_reserved.ensures.len, len);
      within = omega (arith, i.within, len);
      room_each = omega (arith, i.room_each);
      room_reached = omega (arith, i.room_reached, c.push_reserved.ensures.capacity);
    }
