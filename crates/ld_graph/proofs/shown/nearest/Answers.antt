use Rattle.std.proofs.Common.{arith, get_or, subst}
use Rattle.std.proofs.lemmas.List.Elements.{Contains-get_or}
use Rattle.ld_graph.proofs.ShownLemmas.{IsLeastOf, IsLeastOf-all}
use Rattle.ld_graph.proofs.shown.nearest.Goals as goal

pub returns : goal.returns
returns c = IsLeastOf-all c.args.near.now c.args.level c.args.levels.now c.args.places.now
    c.loop-x.x-index c.loop-x.least (omega arith) c.loop-x.invariant

pub level_of-requires : goal.level_of-requires
level_of-requires c = c.requires.levels (get_or c.args.near.now c.loop-x.x-index 0) (Contains-get_or
    c.args.near.now c.loop-x.x-index 0 c.loop-x-test.true)

pub comes_before-requires-clause-x : goal.comes_before-requires-clause-x
comes_before-requires-clause-x c = c.requires.places (get_or c.args.near.now c.loop-x.x-index 0)
    (Contains-get_or c.args.near.now c.loop-x.x-index 0 c.loop-x-test.true)

pub comes_before-requires-clause-y : goal.comes_before-requires-clause-y
comes_before-requires-clause-y c =
    let h = subst (λ o. IsLeastOf c.args.near.now c.loop-x.x-index c.args.level c.args.levels.now
    c.args.places.now o) c.in-Some.is c.loop-x.invariant in
    c.requires.places c.in-Some.old h.0
