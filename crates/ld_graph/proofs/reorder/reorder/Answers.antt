use Rattle.std.proofs.Common.{arith}
use Rattle.ld_graph.proofs.RepairLemmas.{repaired_backward, repaired_forward}
use Rattle.ld_graph.proofs.reorder.reorder.Goals as goal

pub returns-in-Backward-clause-repaired : goal.returns-in-Backward-clause-repaired
returns-in-Backward-clause-repaired g c =
    let f = c.find_by_rank-ended.ensures in
    repaired_backward c.args.lists.now c.requires.turned _ _ f.ranks c.requires.rises _ _ c.requires.against _ _ f.first.0 f.first.1
    c.found.ensures.once c.found-2.ensures.once _ (omega (arith, f.some)) (omega (arith, f.read)) c.in-Backward.ensures.ended.0
    c.in-Backward.ensures.ended.1 c.settle_backward.result c.settle_backward.ensures.mended c.settle_backward.ensures.apart

pub returns-in-Forward-clause-repaired : goal.returns-in-Forward-clause-repaired
returns-in-Forward-clause-repaired g c =
    let f = c.find_by_rank-ended.ensures in
    repaired_forward c.args.lists.now c.requires.turned _ _ f.ranks c.requires.rises _ _ c.requires.against _ _ f.first.0 f.first.1
    c.found.ensures.once c.found-2.ensures.once _ (omega (arith, f.some)) (omega (arith, f.read)) c.in-Forward.ensures.ended.0
    c.in-Forward.ensures.ended.1 c.settle_forward.result c.settle_forward.ensures.mended c.settle_forward.ensures.apart
