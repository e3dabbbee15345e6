use Rattle.std.proofs.Common.{◌+◌, ◌-◌, ◌∙◌, arith, get_or, length, refl}
use Rattle.std.proofs.lemmas.List.{length-set}
use Rattle.ld_order.proofs.ClassLemmas.{filled, past_head, rank-some}
use Rattle.ld_order.proofs.RankLemmas.{rank-below, rank-head, rank-step}
use Rattle.ld_order.proofs.ring.fill.Goals as goal

pub loop-place-init : goal.loop-place-init
loop-place-init c =
    let r = c.requires.ring.links in
    let z = rank-head (length c.args.labels.now) (λ k. get_or c.args.labels.now k 0) (λ k. get_or c.args.next.now k 0) (λ k. get_or c.args.prev.now k 0) r in
    record {
      within = (r.next_in 0 (r.some, λ e. (let s = r.some in omega (arith, e, s)))).0;
      here = λ l. let s = rank-step (length c.args.labels.now) (λ k. get_or c.args.labels.now k 0) (λ k. get_or c.args.next.now k 0) (λ k. get_or c.args.prev.now k 0) r
          0 r.some (omega (arith, z, l, c.requires.len)) in omega (arith, s, z);
      len = refl;
      done = λ d h l. let s = rank-some c.args.labels.now c.args.next.now c.args.prev.now c.requires.ring (d + 1) (omega (arith, h, c.requires.len)) (omega arith) in
          absurd (omega (arith, l, s));
    }

pub overflow_sub-ranks : goal.overflow_sub-ranks
overflow_sub-ranks c =
    past_head c.args.labels.now c.args.next.now c.args.prev.now c.requires.ring c.loop-place.node c.loop-place.place
    (c.loop-place.invariant.here c.loop-place-test.true)

pub loop-place-preserved : goal.loop-place-preserved
loop-place-preserved c =
    let i = c.loop-place.invariant in
    let t = c.loop-place-test.true in
    let r = c.requires.ring.links in
    let some = past_head c.args.labels.now c.args.next.now c.args.prev.now c.requires.ring c.loop-place.node c.loop-place.place (i.here t) in
    record {
      within = (r.next_in c.loop-place.node (i.within, λ e. omega (arith, e, i.within))).0;
      here = λ l. let h = i.here t in
          let s = rank-step (length c.args.labels.now) (λ k. get_or c.args.labels.now k 0) (λ k. get_or c.args.next.now k 0) (λ k. get_or c.args.prev.now k 0) r
          c.loop-place.node i.within (omega (arith, h, l, c.requires.len)) in omega (arith, s, h);
      len = length-set c.loop-place.ranks (c.loop-place.node - 1) c.loop-place.place ∙ i.len;
      done = λ d h k. filled c.args.labels.now c.args.next.now c.args.prev.now c.requires.ring c.loop-place.ranks c.loop-place.node c.loop-place.place
          i.within some (i.here t) (omega (arith, i.within, some, i.len, c.requires.len)) d (omega (arith, h, c.requires.len)) k (i.done d h);
    }

pub returns-clause-ranks : goal.returns-clause-ranks
returns-clause-ranks c = λ d h.
    let i = c.loop-place.invariant in
    let b = rank-below (length c.args.labels.now) (λ k. get_or c.args.labels.now k 0) (d + 1) (omega (arith, h, c.requires.len)) in
    i.done d h (omega (arith, b, c.loop-place-test.false, i.len, c.requires.len))
