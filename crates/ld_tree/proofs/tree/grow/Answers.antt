use Rattle.std.proofs.Common.{◌<◌, ◌+◌, ◌∙◌, [], ap, arith, get_or, length, sym}
use Rattle.std.proofs.lemmas.List.{get_or_default}
use Rattle.std.proofs.lemmas.List.Elements.{Contains-get_or}
use Rattle.ld_graph.specs.Lists.{list_at}
use Rattle.ld_tree.proofs.PartLemmas.{place_after, part_begin, part_end, part_near, part_next}
use Rattle.ld_tree.proofs.tree.grow.Goals as goal

pub expand-requires-clause-part : goal.expand-requires-clause-part
expand-requires-clause-part c = part_begin c.args.leading.now c.args.start c.of.result.now c.args.found.now.items c.args.from.now.items c.args.numbers.now.items c.requires.empty.0 c.requires.empty.1

pub loop-done-init : goal.loop-done-init
loop-done-init c = record {
  size = c.expand.ensures.size;
  upto = omega arith;
  touched = c.expand.ensures.touched;
  part = part_next c.args.leading.now c.args.start 0 c.of.result.now c.expand.new.found.items c.expand.new.from.items c.expand.new.numbers.items c.of.ensures.near c.in_ok-expand.ensures.part;
}

pub of-requires-in-loop-done : goal.of-requires-in-loop-done
of-requires-in-loop-done c =
    let low : c.loop-done.done < length c.loop-done.found.items = omega (arith, c.loop-done-test.true, c.len.ensures, c.loop-done.found.ok.0) in
    let here = get_or_default c.loop-done.found.items c.loop-done.done 0 c.index-class.result.now low ∙ sym c.index-class.ensures in
    let w = c.loop-done.invariant.touched.within (get_or c.loop-done.found.items c.loop-done.done 0) (Contains-get_or c.loop-done.found.items c.loop-done.done 0 low) in
    omega (arith, w, here, c.loop-done.invariant.size, c.requires.size)

pub expand-requires-in-loop-done-clause-near : goal.expand-requires-in-loop-done-clause-near
expand-requires-in-loop-done-clause-near c =
    let low : c.loop-done.done < length c.loop-done.found.items = omega (arith, c.loop-done-test.true, c.len.ensures, c.loop-done.found.ok.0) in
    let here = get_or_default c.loop-done.found.items c.loop-done.done 0 c.index-class.result.now low ∙ sym c.index-class.ensures in
    c.of-in-loop-done.ensures.near ∙ ap (list_at c.args.leading.now.lists) (sym (place_after c.args.start c.loop-done.found.items c.loop-done.done ∙ here))

pub expand-requires-in-loop-done-clause-part : goal.expand-requires-in-loop-done-clause-part
expand-requires-in-loop-done-clause-part c =
    part_near c.args.leading.now c.args.start (c.loop-done.done + 1) c.of-in-loop-done.result.now c.loop-done.found.items c.loop-done.from.items c.loop-done.numbers.items [] c.loop-done.invariant.part

pub loop-done-preserved : goal.loop-done-preserved
loop-done-preserved c =
    let low : c.loop-done.done < length c.loop-done.found.items = omega (arith, c.loop-done-test.true, c.len.ensures, c.loop-done.found.ok.0) in
    let here = get_or_default c.loop-done.found.items c.loop-done.done 0 c.index-class.result.now low ∙ sym c.index-class.ensures in
    let at = c.expand-in-loop-done.ensures.at in
    record {
      size = c.expand-in-loop-done.ensures.size ∙ c.loop-done.invariant.size;
      upto = omega (arith, low, c.expand-in-loop-done.ensures.longer);
      touched = c.expand-in-loop-done.ensures.touched;
      part = part_next c.args.leading.now c.args.start (c.loop-done.done + 1) c.of-in-loop-done.result.now c.expand-in-loop-done.new.found.items c.expand-in-loop-done.new.from.items
          c.expand-in-loop-done.new.numbers.items
          (c.of-in-loop-done.ensures.near ∙ ap (list_at c.args.leading.now.lists) (sym (at ∙ place_after c.args.start c.loop-done.found.items c.loop-done.done ∙ here)))
          c.in_ok-expand-2.ensures.part;
    }

pub returns-clause-tree : goal.returns-clause-tree
returns-clause-tree c =
    part_end c.args.leading.now c.args.start c.loop-done.done [] c.loop-done.found.items c.loop-done.from.items c.loop-done.numbers.items
    (omega (arith, c.loop-done-test.false, c.len.ensures, c.loop-done.found.ok.0)) c.loop-done.invariant.part
