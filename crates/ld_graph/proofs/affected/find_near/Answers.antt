use Rattle.std.proofs.Common.{Contains, below_more, arith, get_or, subst, sym, ◌∙◌}
use Rattle.std.proofs.lemmas.List.{get_or_default}
use Rattle.std.proofs.lemmas.List.Elements.{Contains-get_or}
use Rattle.ld_graph.specs.Inner.Affected.{IsIn}
use Rattle.ld_graph.proofs.SoughtLemmas.{added_has, added_keeps}
use Rattle.ld_graph.proofs.AffectedLemmas.{IsReached-added}
use Rattle.std.proofs.lemmas.Bool.{both_ways}
use Rattle.ld_graph.proofs.affected.find_near.Goals as goal
use Rattle.ld_graph.proofs.affected.find_near.Goals.{then-is_in, else-is_in}

pub bounds-labels-x : goal.bounds-labels-x
bounds-labels-x c = c.requires.ends (get_or c.args.near.now c.loop-x.x-index 0)
    (Contains-get_or c.args.near.now c.loop-x.x-index 0 c.loop-x-test.true)

pub add-requires : goal.add-requires
add-requires c =
    let e = c.requires.ends (get_or c.args.near.now c.loop-x.x-index 0)
    (Contains-get_or c.args.near.now c.loop-x.x-index 0 c.loop-x-test.true) in
    omega (arith, e, c.requires.size, c.loop-x.invariant.size)

pub loop-x-preserved : goal.loop-x-preserved
loop-x-preserved c =
    let i = c.loop-x.invariant in
    elim c.if-is_in.branch [
      | then-is_in w ↦ rw w.search-is (record {
        size = w.add.ensures.size ∙ i.size;
        reached = IsReached-added (Contains c.args.near.now) (λ y. get_or c.args.labels.now y 0) c.args.low c.args.high
            c.args.search.now.found c.loop-x.search.found w.add.new.self.found (get_or c.args.near.now c.loop-x.x-index 0)
            i.reached (Contains-get_or c.args.near.now c.loop-x.x-index 0 c.loop-x-test.true) (c.is_in.ensures.0 w.if-is_in.true) w.add.ensures.found;
        taken = below_more _ _
            (λ k b inside. added_keeps c.loop-x.search.found w.add.new.self.found (get_or c.args.near.now c.loop-x.x-index 0)
            _ w.add.ensures.found (i.taken k b inside))
            (λ inside. added_has c.loop-x.search.found w.add.new.self.found (get_or c.args.near.now c.loop-x.x-index 0) w.add.ensures.found);
      })
      | else-is_in w ↦ rw w.search-is (record {
        size = i.size;
        reached = i.reached;
        taken = below_more _ _ i.taken (λ inside. absurd (both_ways c.is_in.result w.if-is_in.false (c.is_in.ensures.1 inside)));
      })
    ]

pub returns-clause-taken : goal.returns-clause-taken
returns-clause-taken c = λ x n inside.
    let l = n.1 in
    let e = get_or_default c.args.near.now n.0 0 x l ∙ n.2 in
    subst (Contains c.loop-x.search.found) e
    (c.loop-x.invariant.taken n.0 (omega arith)
    (subst (λ z. IsIn c.args.low c.args.high (get_or c.args.labels.now z 0)) (sym e) inside))
