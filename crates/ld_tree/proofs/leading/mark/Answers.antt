use Rattle.std.proofs.Common.{◌≡◌, ◌<◌, ◌∙◌, ◌∷◌, ◌++◌, [], None, Some, Vec, ap, arith, below_more, get_or, is_some, length, not, set, subst, sym}
use Rattle.std.proofs.lemmas.List.{get_or_append_left, get_or_default, get_or-set_same, length-set, length_push}
use Rattle.std.proofs.lemmas.List.Elements.{Contains-get_or}
use Rattle.ld_graph.specs.Inner.Levels.{HasLevel}
use Rattle.ld_graph.proofs.SpreadLemmas.{count_marked, kept_marked, none_is, some_is}
use Rattle.ld_graph.proofs.TouchedLemmas.{touched_more}
use Rattle.ld_tree.proofs.leading.mark.Goals as goal
use Rattle.ld_tree.proofs.leading.mark.Goals.{then-is_none+in_ok-push, else-is_none}

pub index-requires : goal.index-requires
index-requires c =
    let w = c.requires.within (get_or c.args.near.now c.loop-x.x-index 0) (Contains-get_or c.args.near.now c.loop-x.x-index 0 c.loop-x-test.true) in
    omega (arith, w, c.loop-x.invariant.size, c.loop-x.marks.ok.0)

pub index_mut-requires : goal.index_mut-requires
index_mut-requires c =
    let w = c.requires.within (get_or c.args.near.now c.loop-x.x-index 0) (Contains-get_or c.args.near.now c.loop-x.x-index 0 c.loop-x-test.true) in
    omega (arith, w, c.loop-x.invariant.size, c.loop-x.marks.ok.0)

pub loop-x-preserved : goal.loop-x-preserved
loop-x-preserved c =
    let i = c.loop-x.invariant in
    let near = c.args.near.now in
    let k = c.loop-x.x-index in
    let x = get_or near k 0 in
    let found = c.loop-x.found.items in
    let marks = c.loop-x.marks.items in
    let low = c.requires.within x (Contains-get_or near k 0 c.loop-x-test.true) in
    let within : x < length marks = omega (arith, low, i.size) in
    let read : get_or marks x None ≡ c.index.result.now = get_or_default marks x None c.index.result.now within ∙ sym c.index.ensures in
    let is : is_some (get_or marks x None) ≡ not c.is_none.result = ap (λ o. is_some o) read ∙ c.is_none.ensures in
    elim c.if-is_none.branch [
      | then-is_none+in_ok-push w ↦
          let free : get_or marks x None ≡ None = none_is (get_or marks x None) (is ∙ ap not w.if-is_none.true) in
          let marks' : c.if-is_none.marks.items ≡ set marks x (Some 0) = ap (λ (v : Vec _ _). v.items) w.marks-is in
          let found' : c.if-is_none.found.items ≡ found ++ x ∷ [] = ap (λ (v : Vec _ _). v.items) w.found-is ∙ w.in_ok-push.ensures.items in
          let m = count_marked marks x 0 within free in
          let p = length_push found x in
          let s = length-set marks x (Some 0) in
          rw (marks', found') (record {
            size = omega (arith, s, i.size);
            count = omega (arith, m, p, i.count);
            touched = touched_more marks found x 0 within i.touched;
            longer = omega (arith, p, i.longer);
            front = λ j l. get_or_append_left found (x ∷ []) 0 j (omega (arith, l, i.longer)) ∙ i.front j l;
            kept = λ y h. let g = i.kept y h in (g.0, kept_marked marks x 0 free y g.0 g.1);
            all = below_more (λ j. HasLevel (set marks x (Some 0)) (get_or near j 0)) _
                (λ j l. let g = i.all j l in (g.0, kept_marked marks x 0 free (get_or near j 0) g.0 g.1))
                (0, get_or-set_same marks x (Some 0) None within);
          })
      | else-is_none w ↦
          rw (w.marks-is, w.found-is) (record {
            size = i.size;
            count = i.count;
            touched = i.touched;
            longer = i.longer;
            front = i.front;
            kept = i.kept;
            all = below_more (λ j. HasLevel marks (get_or near j 0)) _ i.all (some_is (get_or marks x None) (is ∙ ap not w.if-is_none.false));
          })
    ]

pub returns : goal.returns
returns c = record {
  size = c.loop-x.invariant.size;
  marked = record {
    count = c.loop-x.invariant.count;
    touched = c.loop-x.invariant.touched;
    longer = c.loop-x.invariant.longer;
    front = c.loop-x.invariant.front;
    kept = c.loop-x.invariant.kept;
    all = λ x m.
        let b = m.1 in
        subst (HasLevel c.loop-x.marks.items) (get_or_default c.args.near.now m.0 0 x b ∙ m.2) (c.loop-x.invariant.all m.0 (omega (arith, b, c.loop-x-test.false)));
  };
}
