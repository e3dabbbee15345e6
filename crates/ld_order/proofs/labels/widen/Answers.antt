use Rattle.std.proofs.Common.{arith, get_or, length}
use Rattle.ld_order.proofs.RankLemmas.{rank-below, rank-next}
use Rattle.ld_order.proofs.SparseLemmas.{room_here, room_last}
use Rattle.ld_order.proofs.labels.widen.Goals as goal

pub returns-in-Some-clause-next : goal.returns-in-Some-clause-next
returns-in-Some-clause-next c = λ z.
    let r = c.requires.ring.links in let h = c.requires.at in
    let a = rank-next (length c.args.labels.now) (λ k. get_or c.args.labels.now k 0) (λ k. get_or c.args.next.now k 0) (λ k. get_or c.args.prev.now k 0) r c.args.at h z in
    room_here (length c.args.labels.now) (λ k. get_or c.args.labels.now k 0) (λ k. get_or c.spread.new.labels k 0) c.args.at
    c.args.left c.in-Some.stretch.count c.in-Some.stretch.step h c.in-Some.ensures c.spread.ensures.spread
    (get_or c.args.next.now c.args.at 0) (r.next_in c.args.at (h, λ z. omega (arith, z, h))).0 a

pub returns-in-Some-clause-last : goal.returns-in-Some-clause-last
returns-in-Some-clause-last c =
    room_last (length c.args.labels.now) (λ k. get_or c.args.labels.now k 0) (λ k. get_or c.spread.new.labels k 0) c.args.at
    c.args.left c.in-Some.stretch.count c.in-Some.stretch.step c.requires.at c.in-Some.ensures c.spread.ensures.spread

pub returns-in-None-clause-next : goal.returns-in-None-clause-next
returns-in-None-clause-next c = λ z.
    let r = c.requires.ring.links in let h = c.requires.at in let e = c.relabel.ensures.labels in
    let a = rank-next (length c.args.labels.now) (λ k. get_or c.args.labels.now k 0) (λ k. get_or c.args.next.now k 0) (λ k. get_or c.args.prev.now k 0) r c.args.at h z in
    let u = e c.args.at h in
    let v = e (get_or c.args.next.now c.args.at 0) (r.next_in c.args.at (h, λ w. omega (arith, w, h))).0 in
    omega (arith, a, u, v, c.requires.most)

pub returns-in-None-clause-last : goal.returns-in-None-clause-last
returns-in-None-clause-last c =
    let h = c.requires.at in let u = c.relabel.ensures.labels c.args.at h in
    let b = rank-below (length c.args.labels.now) (λ k. get_or c.args.labels.now k 0) c.args.at h in
    omega (arith, u, b, c.requires.few, c.requires.most)
