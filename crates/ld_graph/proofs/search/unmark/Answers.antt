use Rattle.std.proofs.Common.{arith, get_or, refl}
use Rattle.std.proofs.lemmas.List.Elements.{Contains-get_or}
use Rattle.ld_graph.proofs.MarkLemmas.{AreLeft-next, AreLeft-all}
use Rattle.ld_graph.proofs.search.unmark.Goals as goal

pub bounds-marks-class : goal.bounds-marks-class
bounds-marks-class c =
    let n = c.requires (get_or c.args.found.now c.loop-class.class-index 0)
    (Contains-get_or c.args.found.now c.loop-class.class-index 0 c.loop-class-test.true) in
    let l = c.loop-class.auto.marks in
    omega (arith, n, l)

pub loop-class-preserved : goal.loop-class-preserved
loop-class-preserved c =
    let n = c.requires (get_or c.args.found.now c.loop-class.class-index 0)
    (Contains-get_or c.args.found.now c.loop-class.class-index 0 c.loop-class-test.true) in
    let l = c.loop-class.auto.marks in
    AreLeft-next c.args.marks.now c.loop-class.marks c.args.found.now c.loop-class.class-index
    (get_or c.args.found.now c.loop-class.class-index 0) c.loop-class.invariant refl
    (omega (arith, n, l))

pub returns : goal.returns
returns c = AreLeft-all c.args.marks.now c.loop-class.marks c.args.found.now
    c.loop-class.class-index c.loop-class.invariant (omega arith)
