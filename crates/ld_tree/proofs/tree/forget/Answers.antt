use Rattle.std.proofs.Common.{None, ◌∙◌, arith, get_or, refl}
use Rattle.std.proofs.lemmas.List.{get_or_default, length-set}
use Rattle.std.proofs.lemmas.List.Elements.{Contains-get_or}
use Rattle.ld_graph.proofs.TouchedLemmas.{none_left, taken}
use Rattle.ld_tree.proofs.tree.forget.Goals as goal

pub loop-class-init : goal.loop-class-init
loop-class-init c = record {
  size = refl;
  left = λ x k e. let n = c.requires.all x k e in let b = n.1 in (n.0, (omega arith, (b, get_or_default c.args.found.now n.0 0 x b ∙ n.2)));
}

pub loop-class-preserved : goal.loop-class-preserved
loop-class-preserved c =
    let w = c.requires.within (get_or c.args.found.now c.loop-class.class-index 0) (Contains-get_or c.args.found.now c.loop-class.class-index 0 c.loop-class-test.true) in
    let s = length-set c.loop-class.numbers.items (get_or c.args.found.now c.loop-class.class-index 0) None in
    record {
      size = omega (arith, s, c.loop-class.invariant.size);
      left = taken c.loop-class.numbers.items c.args.found.now c.loop-class.class-index (omega (arith, w, c.loop-class.invariant.size)) c.loop-class.invariant.left;
    }

pub returns-clause-none : goal.returns-clause-none
returns-clause-none c = λ x. none_left c.loop-class.numbers.items x (λ k e. let q = c.loop-class.invariant.left x k e in let a = q.1.0 in let b = q.1.1.0 in omega (arith, a, b, c.loop-class-test.false))

pub index_mut-requires : goal.index_mut-requires
index_mut-requires c =
    let w = c.requires.within (get_or c.args.found.now c.loop-class.class-index 0) (Contains-get_or c.args.found.now c.loop-class.class-index 0 c.loop-class-test.true) in
    omega (arith, w, c.loop-class.invariant.size, c.loop-class.numbers.ok.0)
