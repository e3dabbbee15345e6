use Rattle.std.proofs.Common.{arith, subst, sym}
use Rattle.ld_graph.specs.Inner.Trails.{IsTrail, shown}
use Rattle.ld_graph.proofs.TrailLemmas.{entered-is}
use Rattle.ld_graph.proofs.WorkLemmas.{ended_known, known-components}
use Rattle.ld_graph.proofs.components.components_of.Goals as goal

pub explore-requires-clause-trail : goal.explore-requires-clause-trail
explore-requires-clause-trail c =
    let lists = c.args.lists.now.after.lists in
    let t = shown c.loop-root.trail in
    let h = c.loop-root.invariant.trail in
    let none = h.none c.loop-root.invariant.path in
    subst (IsTrail lists) (sym c.in_ok-enter.ensures)
    (entered-is lists t h c.loop-root.root (omega (arith, c.loop-root-test.true, c.requires.classes))
    (c.is_fresh.ensures.0 c.if-is_fresh.true) (λ j b. absurd (omega (arith, none, b))))

pub explore-requires-clause-ends : goal.explore-requires-clause-ends
explore-requires-clause-ends c = λ x y n. let e = c.requires.ends x y n in omega (arith, e, c.requires.classes)

pub known-requires : goal.known-requires
known-requires c = λ x b.
    let i = c.loop-root.invariant in
    let l = i.trail.stages_len in
    ended_known c.args.lists.now.after.lists (shown c.loop-root.trail) i.trail i.path x
    (i.met x (omega (arith, l, b, c.requires.classes, c.loop-root-test.false)))

pub returns : goal.returns
returns c =
    let i = c.loop-root.invariant in
    let l = i.trail.stages_len in
    known-components c.args.lists.now.after.lists (shown c.loop-root.trail) c.args.classes c.in_ok-components.components.items i.trail
    (λ x b. c.in_ok-components.ensures.each x (omega (arith, l, b, c.requires.classes)))
    (omega (arith, l, c.in_ok-components.ensures.len, c.requires.classes))
