use Rattle.std.proofs.Common.{◌+◌, Contains, arith, get_or, subst}
use Rattle.ld_graph.proofs.AffectedLemmas.{found-few, found-more}
use Rattle.ld_graph.proofs.SoughtLemmas.{Contains-read, beyond}
use Rattle.ld_graph.proofs.affected.expand.Goals as goal

pub find_near-requires-clause-ends : goal.find_near-requires-clause-ends
find_near-requires-clause-ends g c = λ x n. c.requires.ends (get_or c.args.search.now.found c.args.done 0) x
    (subst (λ l. Contains l x) c.requires.near n)

pub returns-then-ends_at-clause-found : goal.returns-then-ends_at-clause-found
returns-then-ends_at-clause-found g c =
    found-more _ _ _ _ _ _ _ _ _ c.requires.near c.requires.ends c.requires.waits c.requires.found c.find_near.ensures.reached c.find_near.ensures.taken

pub returns-clause-found : goal.returns-clause-found
returns-clause-found g c =
    found-more _ _ _ _ _ _ _ _ _ c.requires.near c.requires.ends c.requires.waits c.requires.found c.find_near.ensures.reached c.find_near.ensures.taken

pub neighbours_of-requires-clause-class : goal.neighbours_of-requires-clause-class
neighbours_of-requires-clause-class g c =
    let h = found-more _ _ _ _ _ _ _ _ _ c.requires.near c.requires.ends c.requires.waits c.requires.found c.find_near.ensures.reached c.find_near.ensures.taken in
    let w = beyond (c.args.done + 1) c.find_near.new.search.found c.ends_at.result c.ends_at.ensures c.if-ends_at.false in
    let b = (h.within c.class-class.result (Contains-read c.find_near.new.search.found (c.args.done + 1) c.class-class.result w c.class-class.ensures.class)).0 in
    omega (arith, b, c.requires.lists)

pub returns-then-ends_at-clause-most : goal.returns-then-ends_at-clause-most
returns-then-ends_at-clause-most g c = found-few (found-more _ _ _ _ _ _ _ _ _ c.requires.near c.requires.ends c.requires.waits c.requires.found
    c.find_near.ensures.reached c.find_near.ensures.taken) c.found.ensures.once

pub returns-clause-most : goal.returns-clause-most
returns-clause-most g c = found-few (found-more _ _ _ _ _ _ _ _ _ c.requires.near c.requires.ends c.requires.waits c.requires.found
    c.find_near.ensures.reached c.find_near.ensures.taken) c.found.ensures.once
