use Rattle.std.proofs.Common.{arith, get_or, length}
use Rattle.ld_order.proofs.RankLemmas.{rank-below, rank-last, rank-next, rank-tells}
use Rattle.ld_order.proofs.SparseLemmas.{sparse_here}
use Rattle.ld_order.proofs.labels.sparse.Goals as goal

pub loop-node-init : goal.loop-node-init
loop-node-init c =
    let r = c.requires.ring.links in let h = c.requires.at in
    record {
      within = (r.next_in c.args.at (h, λ z. omega (arith, z, h))).0;
      here = λ z. let a = rank-next (length c.args.labels.now) (λ k. get_or c.args.labels.now k 0) (λ k. get_or c.args.next.now k 0) (λ k. get_or c.args.prev.now k 0) r c.args.at h z in omega (arith, a);
      end = λ z. let a = rank-last (length c.args.labels.now) (λ k. get_or c.args.labels.now k 0) (λ k. get_or c.args.next.now k 0) (λ k. get_or c.args.prev.now k 0) r c.args.at h z in omega (arith, a);
      nodes = let a = rank-below (length c.args.labels.now) (λ k. get_or c.args.labels.now k 0) c.args.at h in omega (arith, a);
    }

pub overflow_sub-width : goal.overflow_sub-width
overflow_sub-width c =
    let i = c.loop-node.invariant in
    let h = i.here (λ z. omega (arith, z, c.loop-node-test.true)) in
    let a = rank-tells (length c.args.labels.now) (λ k. get_or c.args.labels.now k 0) c.args.at c.loop-node.node (omega (arith, h)) in
    omega (arith, a)

pub loop-node-preserved : goal.loop-node-preserved
loop-node-preserved c =
    let r = c.requires.ring.links in let i = c.loop-node.invariant in let h = i.within in
    let e = i.here (λ z. omega (arith, z, c.loop-node-test.true)) in
    record {
      within = (r.next_in c.loop-node.node (h, λ z. omega (arith, z, h))).0;
      here = λ z. let a = rank-next (length c.args.labels.now) (λ k. get_or c.args.labels.now k 0) (λ k. get_or c.args.next.now k 0) (λ k. get_or c.args.prev.now k 0) r c.loop-node.node h z in omega (arith, a, e);
      end = λ z. let a = rank-last (length c.args.labels.now) (λ k. get_or c.args.labels.now k 0) (λ k. get_or c.args.next.now k 0) (λ k. get_or c.args.prev.now k 0) r c.loop-node.node h z in omega (arith, a, e);
      nodes = let a = rank-below (length c.args.labels.now) (λ k. get_or c.args.labels.now k 0) c.loop-node.node h in omega (arith, a, e);
    }

pub returns-then-width-parts : goal.returns-then-width-parts
returns-then-width-parts c =
    let i = c.loop-node.invariant in
    let e = i.here (λ z. omega (arith, z, c.loop-node-test.true)) in
    let a = rank-tells (length c.args.labels.now) (λ k. get_or c.args.labels.now k 0) c.args.at c.loop-node.node (omega (arith, e)) in
    sparse_here (length c.args.labels.now) (λ k. get_or c.args.labels.now k 0) c.args.at c.args.left c.loop-node.count c.loop-node.node i.within i.nodes e
    (omega (arith, c.type_inv.labels)) a c.if-width-parts.true

pub returns-then-labels-at : goal.returns-then-labels-at
returns-then-labels-at c =
    let i = c.loop-node.invariant in
    let e = i.end (omega (arith, c.loop-node-test.false)) in
    record {
      nodes = i.nodes;
      some = omega arith;
      fits = omega (arith, c.if-labels-at.true);
      stretch = λ d h k. let b = rank-below (length c.args.labels.now) (λ k. get_or c.args.labels.now k 0) d h in absurd (omega (arith, b, k, e));
    }
