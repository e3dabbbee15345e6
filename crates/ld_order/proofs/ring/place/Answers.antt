use Rattle.std.proofs.Common.{get_or, set, refl}
use Rattle.ld_order.proofs.PlaceLemmas.{placed}
use Rattle.ld_order.proofs.ring.place.Goals as goal

pub returns-clause-ring : goal.returns-clause-ring
returns-clause-ring c =
    let r = c.requires in
    placed c.args.labels.now c.args.next.now c.args.prev.now r.ring c.args.node r.some r.node c.args.at r.at r.other r.moves c.args.label r.low r.high
    (set c.args.next.now (get_or c.args.prev.now c.args.node 0) (get_or c.args.next.now c.args.node 0))
    (set c.args.prev.now (get_or c.args.next.now c.args.node 0) (get_or c.args.prev.now c.args.node 0)) _ _ refl refl refl refl
