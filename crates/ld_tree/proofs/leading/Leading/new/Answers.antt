use Rattle.std.proofs.Common.{◌≡◌, ◌<◌, ◌∙◌, None, Vec, Contains, ap, arith, get_or, is_some, length, refl, subst, sym, true≢false}
use Rattle.std.proofs.lemmas.List.{get_or_default, length-map}
use Rattle.ld_graph.specs.Lists.{list_at}
use Rattle.ld_tree.specs.Inner.{items_of}
use Rattle.ld_tree.proofs.BuiltLemmas.{built_leading, built_lists, built_pass, built_push}
use Rattle.ld_tree.proofs.leading.Leading.new.Goals as goal
use Rattle.ld_tree.proofs.leading.Leading.new.Goals.{then-is_some+in_ok-push_each, else-is_some}

pub push_each-requires-clause-within : goal.push_each-requires-clause-within
push_each-requires-clause-within c = λ x m.
    let class = get_or c.args.numbers.now c.loop-class.class-index 0 in
    let near = subst (λ l. Contains l x) (c.before-then-is_some.ensures.near ∙ ap (λ l. list_at l.before.lists class) c.new.ensures.lists) m in
    let e = (c.lists-sides.ensures.ends x class ((c.lists-sides.ensures.before class x).0 near)).0 in
    omega (arith, e, c.loop-class.invariant.size)

pub loop-class-preserved : goal.loop-class-preserved
loop-class-preserved c =
    let numbers = c.args.numbers.now in
    let places = c.args.places.now in
    let edges = c.args.graph.now.edges in
    let marks = c.in_ok-marks.marks.items in
    let k = c.loop-class.class-index in
    let class = get_or numbers k 0 in
    let low = c.requires.order.within k c.loop-class-test.true in
    let within : class < length marks = omega (arith, low, c.in_ok-marks.ensures.len) in
    let read : get_or marks class None ≡ c.index.result.now = get_or_default marks class None c.index.result.now within ∙ sym c.index.ensures in
    elim c.if-is_some.branch [
      | then-is_some+in_ok-push_each w ↦
          let pushed = w.in_ok-push_each.ensures.pushed in
          let near = w.before-then-is_some.result.now in
          let is = w.before-then-is_some.ensures.near ∙ ap (λ l. list_at l.before.lists class) w.new.ensures.lists in
          rw w.lists-is (record {
            size = let a = pushed.len in let b = length-map c.loop-class.lists.items (λ (v : Vec _ _). v.items) in let d = length-map w.push_each.new.lists.items (λ (v : Vec _ _). v.items) in
                omega (arith, a, b, d, c.loop-class.invariant.size);
            built = built_push edges numbers places marks k (items_of c.loop-class.lists.items) c.loop-class.invariant.built c.args.graph.now.classes c.requires.order c.loop-class-test.true near class refl
                (λ x m. (c.lists-sides.ensures.before class x).0 (subst (λ l. Contains l x) is m))
                (λ x edge. subst (λ l. Contains l x) (sym is) ((c.lists-sides.ensures.before class x).1 edge))
                (items_of w.push_each.new.lists.items) pushed;
          })
      | else-is_some w ↦
          rw w.lists-is (record {
            size = c.loop-class.invariant.size;
            built = built_pass edges numbers places marks k (items_of c.loop-class.lists.items) c.loop-class.invariant.built
                (λ h. true≢false (ap (λ o. is_some o) (sym h.1 ∙ read) ∙ sym c.is_some.ensures ∙ w.if-is_some.false));
          })
    ]

pub invariant_of-result : goal.invariant_of-result
invariant_of-result c =
    built_lists c.args.graph.now.edges c.args.graph.now.classes c.args.ends.now c.in_ok-marks.marks.items c.in_ok-marks.ensures c.args.numbers.now c.args.places.now c.requires.order
    (items_of c.loop-class.lists.items) c.loop-class.class-index c.loop-class-test.false c.loop-class.auto.class-index-end c.loop-class.invariant.built
    (length-map c.loop-class.lists.items (λ (v : Vec _ _). v.items) ∙ c.loop-class.invariant.size)

pub returns-clause-leading : goal.returns-clause-leading
returns-clause-leading c =
    built_leading c.args.graph.now.edges c.args.graph.now.classes c.args.ends.now c.in_ok-marks.marks.items c.in_ok-marks.ensures c.args.numbers.now c.args.places.now c.requires.order
    (items_of c.loop-class.lists.items) c.loop-class.class-index c.loop-class-test.false c.loop-class.auto.class-index-end c.loop-class.invariant.built
    c.lists-sides.ensures.ends
