use Rattle.std.proofs.Common.{◌≡◌, ◌∙◌, ap, set, subst, sym, true≢false, below_more, ◌<◌, length, arith, Some, None}
use Rattle.std.proofs.Common.{get_or}
use Rattle.std.proofs.lemmas.List.{get_or-set_same, get_or_default}
use Rattle.std.specs.Option.{is_some}
use Rattle.ld_graph.specs.Inner.Insides.{IsInsideOf, StaysIn}
use Rattle.ld_graph.specs.Inner.Levels.{level_at, HasLevel}
use Rattle.ld_graph.proofs.SpreadLemmas.{near_here, Spreads-more, some_is, none_is}
use Rattle.ld_graph.proofs.SpreadLemmas.{count_marked, kept_marked}
use Rattle.ld_graph.proofs.TouchedLemmas.{within_if}
use Rattle.ld_graph.proofs.levels.expand.Goals as goal
use Rattle.ld_graph.proofs.levels.expand.Goals.{then-is_none+then-stays_in, then-is_none+else-stays_in, else-is_none}

pub stays_in-requires : goal.stays_in-requires
stays_in-requires c =
    let n = c.requires.ends (get_or c.args.near.now c.loop-x.x-index 0)
    (near_here c.args.near.now c.loop-x.x-index c.loop-x-test.true) in
    within_if c.args.components (length c.args.levels.now) (get_or c.args.near.now c.loop-x.x-index 0) c.requires.components n

pub bounds-levels-x : goal.bounds-levels-x
bounds-levels-x c =
    omega (arith, c.requires.ends _ (near_here c.args.near.now c.loop-x.x-index c.loop-x-test.true), c.loop-x.auto.levels)

pub bounds-levels-x-then-stays_in : goal.bounds-levels-x-then-stays_in
bounds-levels-x-then-stays_in c =
    omega (arith, c.requires.ends _ (near_here c.args.near.now c.loop-x.x-index c.loop-x-test.true), c.loop-x.auto.levels)

pub push_reserved-requires : goal.push_reserved-requires
push_reserved-requires c =
    let n = c.requires.ends (get_or c.args.near.now c.loop-x.x-index 0)
    (near_here c.args.near.now c.loop-x.x-index c.loop-x-test.true) in
    let l = c.loop-x.auto.levels in
    let free : level_at c.loop-x.levels (get_or c.args.near.now c.loop-x.x-index 0) ≡ None =
    none_is (level_at c.loop-x.levels (get_or c.args.near.now c.loop-x.x-index 0))
    (ap (λ o. is_some o) (get_or_default c.loop-x.levels (get_or c.args.near.now c.loop-x.x-index 0) None c.index-levels-x.result (omega (arith, n, l)))
    ∙ c.if-is_none.ensures) in
    let m = count_marked c.loop-x.levels (get_or c.args.near.now c.loop-x.x-index 0)
    c.args.level (omega (arith, n, l)) free in
    let i = c.loop-x.invariant in
    omega (arith, m, i.count, i.capacity, c.requires.room)

pub loop-x-preserved : goal.loop-x-preserved
loop-x-preserved c =
    let x = get_or c.args.near.now c.loop-x.x-index 0 in
    let here = near_here c.args.near.now c.loop-x.x-index c.loop-x-test.true in
    let n = c.requires.ends x here in
    let l = c.loop-x.auto.levels in
    let within : x < length c.loop-x.levels = omega (arith, n, l) in
    let i = c.loop-x.invariant in
    elim c.if-is_none.branch [
      | then-is_none+then-stays_in w ↦
          let free : level_at c.loop-x.levels x ≡ None = none_is (level_at c.loop-x.levels x) (ap (λ o. is_some o) (get_or_default c.loop-x.levels x None c.index-levels-x.result within) ∙ w.if-is_none.ensures) in
          rw (w.levels-is, w.queue-is, w.of.ensures) (record {
            count = let m = count_marked c.loop-x.levels x c.args.level within free in omega (arith, m, i.count, w.push_reserved.ensures.len);
            capacity = omega (arith, i.capacity, w.push_reserved.ensures.capacity);
            spread = rw w.push_reserved.ensures.items (Spreads-more (IsInsideOf c.args.components c.args.component c.args.near.now) c.args.level c.args.levels.now c.args.queue.now.items
                c.loop-x.levels c.loop-x.queue.items i.spread x (here, w.stays_in.ensures.0 w.if-stays_in.true) within free);
            reached = below_more (λ k. StaysIn c.args.components c.args.component (get_or c.args.near.now k 0)
                → HasLevel (set c.loop-x.levels x (Some c.args.level)) (get_or c.args.near.now k 0)) _
                (λ k b in_component. let r = i.reached k b in_component in (r.0, kept_marked c.loop-x.levels x c.args.level free (get_or c.args.near.now k 0) r.0 r.1))
                (λ in_component. (c.args.level, get_or-set_same c.loop-x.levels x (Some c.args.level) None within));
          })
      | then-is_none+else-stays_in w ↦
          rw (w.levels-is, w.queue-is) (record {
            count = i.count;
            capacity = i.capacity;
            spread = i.spread;
            reached = below_more (λ k. StaysIn c.args.components c.args.component (get_or c.args.near.now k 0) → HasLevel c.loop-x.levels (get_or c.args.near.now k 0)) _
                i.reached (λ in_component. absurd (true≢false (sym (w.stays_in.ensures.1 in_component) ∙ w.if-stays_in.false)));
          })
      | else-is_none w ↦
          rw (w.levels-is, w.queue-is) (record {
            count = i.count;
            capacity = i.capacity;
            spread = i.spread;
            reached = below_more (λ k. StaysIn c.args.components c.args.component (get_or c.args.near.now k 0) → HasLevel c.loop-x.levels (get_or c.args.near.now k 0)) _
                i.reached (λ in_component. some_is (level_at c.loop-x.levels x) (ap (λ o. is_some o) (get_or_default c.loop-x.levels x None c.index-levels-x.result within) ∙ w.if-is_none.ensures));
          })
    ]

pub returns-clause-reached : goal.returns-clause-reached
returns-clause-reached c = λ x n.
    let m = n.0.1 in
    let s = get_or_default c.args.near.now n.0.0 0 x m ∙ n.0.2 in
    subst (HasLevel c.loop-x.levels) s (c.loop-x.invariant.reached n.0.0 (omega (arith, m, c.loop-x-test.false)) (subst (StaysIn c.args.components c.args.component) (sym s) n.1))
