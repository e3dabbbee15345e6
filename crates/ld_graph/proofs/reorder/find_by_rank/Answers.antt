use Rattle.std.proofs.Common.{arith}
use Rattle.ld_graph.proofs.RepairLemmas.{ended_ranked}
use Rattle.ld_graph.proofs.reorder.find_by_rank.Goals as goal

pub find_affected-requires-clause-after : goal.find_affected-requires-clause-after
find_affected-requires-clause-after g c = λ x y n. let e = c.requires.ends x y n in omega (arith, e.1, c.labels.ensures.len)

pub find_affected-requires-clause-before : goal.find_affected-requires-clause-before
find_affected-requires-clause-before g c = λ x y n.
    let e = c.requires.ends y x ((c.requires.turned y x).1 n) in omega (arith, e.0, c.labels.ensures.len)

pub returns-clause-ended : goal.returns-clause-ended
returns-clause-ended g c =
    ended_ranked c.args.order.now.ranks c.labels.result.now c.labels.ensures.len c.labels.ensures.order c.args.a c.args.b
    c.requires.a c.requires.b c.args.lists.now (λ x y n. (c.requires.ends x y n).1)
    (λ x y n. (c.requires.ends y x ((c.requires.turned y x).1 n)).0) c.find_affected.result
    c.find_affected.new.backward.found c.find_affected.new.forward.found c.find_affected.ensures.ended
