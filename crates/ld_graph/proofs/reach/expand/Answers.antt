use Rattle.std.proofs.Common.{◌≡◌, ◌≤◌, ◌+◌, ◌⊎◌, Contains, ap, false, get_or, length, arith, subst, sym, set, true, inl, refl, ◌∙◌}
use Rattle.std.proofs.lemmas.List.{length-set}
use Rattle.std.proofs.lemmas.List.Elements.{Contains-get_or}
use Rattle.ld_graph.specs.Inner.KeptReach.{all_ahead, ahead_from, none_ahead}
use Rattle.ld_graph.specs.Lists.{IsNear, list_at}
use Rattle.ld_graph.proofs.ReachLemmas.{IsGiven-front, ahead-all, ahead-next, ahead-none, IsSource-next, mark_stays, spread-given, spread-longer}
use Rattle.ld_graph.proofs.reach.expand.Goals as goal

pub loop-next-init : goal.loop-next-init
loop-next-init c =
    let near = list_at c.args.reader.now.lists.after.lists c.args.class in
    record {
      len = refl;
      room = refl;
      longer = omega arith;
      front = λ n within. refl;
      spread = λ done seeds within spread why. rw (c.once-next-items.ensures.on) (spread-longer (IsNear c.args.reader.now.lists.after.lists)
          (IsNear c.args.reader.now.lists.after.lists) seeds
          (all_ahead (IsNear c.args.reader.now.lists.after.lists) c.args.class) (ahead_from near c.args.class 0) c.args.sources.now.each
          (set c.args.marks.now.each c.args.class true) c.args.sources.now.reached done (λ x y h. h) (λ x y on h. inl h)
          (λ x y h. ahead-all near c.args.class x y (h.0, subst (λ k. IsNear c.args.reader.now.lists.after.lists k y) h.0 h.1)) spread);
    }

pub give-requires : goal.give-requires
give-requires c =
    let item = get_or c.once-next-items.result.now c.loop-next.next-index 0 in
    let here = Contains-get_or c.once-next-items.result.now c.loop-next.next-index 0 c.loop-next-test.true in
    let within = c.requires.ends c.args.class item (subst (λ l. Contains l item) c.once-next-items.ensures.near here) in
    omega (arith, within, c.requires.same, c.loop-next.invariant.len)

pub loop-next-preserved : goal.loop-next-preserved
loop-next-preserved c =
    let near = list_at c.args.reader.now.lists.after.lists c.args.class in
    let step = IsNear c.args.reader.now.lists.after.lists in
    let item = get_or c.once-next-items.result.now c.loop-next.next-index 0 in
    let here : Contains near item =
    subst (λ l. Contains l item) c.once-next-items.ensures.near (Contains-get_or c.once-next-items.result.now c.loop-next.next-index 0 c.loop-next-test.true) in
    let i = c.loop-next.invariant in
    let old = c.loop-next.sources in
    let new = c.give.new.self in
    record {
      len = c.give.ensures.len ∙ i.len;
      room = c.give.ensures.room ∙ i.room;
      longer = let more = (IsGiven-front item c.args.from old.each old.reached new.each new.reached 0 (omega arith) c.give.ensures.given).1 in omega (arith, i.longer, more);
      front = λ n within. (IsGiven-front item c.args.from old.each old.reached new.each new.reached n (omega (arith, within, i.longer)) c.give.ensures.given).0 ∙ i.front n within;
      spread = λ done seeds within spread why. spread-given step seeds (ahead_from near c.args.class c.loop-next.next-index)
          (ahead_from near c.args.class (c.loop-next.next-index + 1)) item c.args.from
          old.each c.once-next-items.new.self.each old.reached done new.each new.reached (omega (arith, within, i.longer))
          (i.spread done seeds within spread why) (IsSource-next step seeds c.args.class c.args.from item why here)
          (omega (arith, c.requires.ends c.args.class item here, c.requires.same, i.len))
          (λ x y h. subst (λ l. ahead_from near c.args.class (c.loop-next.next-index + 1) x y ⊎ (y ≡ get_or l c.loop-next.next-index 0)) (sym c.once-next-items.ensures.near)
          (ahead-next near c.args.class c.loop-next.next-index x y h)) c.give.ensures.given;
    }

pub returns-clause-expanded : goal.returns-clause-expanded
returns-clause-expanded c =
    let i = c.loop-next.invariant in
    record {
      lists = c.once-next-items.ensures.lists;
      read = omega (arith, c.once-next-items.ensures.step, c.once-next-items.ensures.count);
      counted = c.once-next-items.ensures.counted;
      len_marks = ap length c.once-next-items.ensures.on ∙ length-set c.args.marks.now.each c.args.class true;
      room_marks = c.once-next-items.ensures.room;
      stays = λ x on. subst (λ marks. get_or marks x false ≡ true) (sym c.once-next-items.ensures.on) (mark_stays c.args.marks.now.each c.args.class x on);
      len = i.len;
      room = i.room;
      longer = i.longer;
      front = i.front;
    }

pub returns-clause-spread : goal.returns-clause-spread
returns-clause-spread c =
    let near = list_at c.args.reader.now.lists.after.lists c.args.class in
    let past : length near ≤ c.loop-next.next-index = subst (λ l. length l ≤ c.loop-next.next-index) c.once-next-items.ensures.near (omega (arith, c.loop-next-test.false)) in
    λ done seeds within spread why. spread-longer (IsNear c.args.reader.now.lists.after.lists) (IsNear c.args.reader.now.lists.after.lists) seeds
    (ahead_from near c.args.class c.loop-next.next-index) none_ahead
    c.loop-next.sources.each c.once-next-items.new.self.each c.loop-next.sources.reached done (λ x y h. h) (λ x y on h. inl h)
    (λ x y h. ahead-none near c.args.class c.loop-next.next-index x y past h) (c.loop-next.invariant.spread done seeds within spread why)
