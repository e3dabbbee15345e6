use Rattle.std.proofs.Common.{◌≡◌, ◌⊎◌, inl, inr, ◌<◌, ◌≤◌, ◌+◌, ◌∙◌, ℕ, Contains, ap, arith, length, subst, sym}
use Rattle.std.proofs.lemmas.Bool.{cases_lt}
use Rattle.std.proofs.lemmas.List.{get_or_default}
use Rattle.std.proofs.lemmas.List.Elements.{Contains-get_or}
use Rattle.ld_graph.specs.Edges.{IsEdge}
use Rattle.ld_graph.specs.Inner.Levels.{HasLevel}
use Rattle.ld_graph.specs.Lists.{list_at}
use Rattle.ld_tree.specs.Trees.{nth}
use Rattle.ld_tree.proofs.leading.leading_to.Goals as goal

pub mark-requires-clause-within : goal.mark-requires-clause-within
mark-requires-clause-within c = λ x m. let e = c.requires.ends x m in omega (arith, e, c.in_ok-marks.ensures.len, c.len.ensures.count, c.in_ok-marks.marks.ok.0)

pub before-requires-clause-class : goal.before-requires-clause-class
before-requires-clause-class c =
    let low : c.loop-done.done < length c.loop-done.found.items = omega (arith, c.loop-done-test.true, c.len-in-loop-done.ensures, c.loop-done.found.ok.0) in
    let here : nth c.loop-done.found.items c.loop-done.done ≡ c.index-class.result.now = get_or_default c.loop-done.found.items c.loop-done.done 0 c.index-class.result.now low ∙ sym c.index-class.ensures in
    let w = c.loop-done.invariant.touched.within (nth c.loop-done.found.items c.loop-done.done) (Contains-get_or c.loop-done.found.items c.loop-done.done 0 low) in
    let same = ap (λ l. length l.before.lists) c.new.ensures.lists in
    omega (arith, w, here, c.loop-done.invariant.size, same, c.lists.ensures.classes.1)

pub mark-requires-in-loop-done-clause-within : goal.mark-requires-in-loop-done-clause-within
mark-requires-in-loop-done-clause-within c = λ x m.
    let class = c.index-class.result.now in
    let near = subst (λ l. Contains l x) (c.before-in-loop-done.ensures.near ∙ ap (λ l. list_at l.before.lists class) c.new.ensures.lists) m in
    let e = (c.lists.ensures.ends x class ((c.lists.ensures.before class x).0 near)).0 in
    omega (arith, e, c.loop-done.invariant.size)

pub loop-done-preserved : goal.loop-done-preserved
loop-done-preserved c =
    let low : c.loop-done.done < length c.loop-done.found.items = omega (arith, c.loop-done-test.true, c.len-in-loop-done.ensures, c.loop-done.found.ok.0) in
    let here : nth c.loop-done.found.items c.loop-done.done ≡ c.index-class.result.now = get_or_default c.loop-done.found.items c.loop-done.done 0 c.index-class.result.now low ∙ sym c.index-class.ensures in
    let class = c.index-class.result.now in
    let i = c.loop-done.invariant in
    let marked = c.in_ok-mark-2.ensures.marked in
    record {
      size = c.mark-in-loop-done.ensures.size ∙ i.size;
      upto = omega (arith, low, marked.longer);
      touched = marked.touched;
      ends = λ e m. marked.kept e (i.ends e m);
      closed = λ k x l edge. closed c k x edge (cases_lt k c.loop-done.done) l;
    }
  where
    closed : (c : goal.In_ok-mark-2) (k x : ℕ) → IsEdge c.args.graph.now.edges x (nth c.mark-in-loop-done.new.found.items k) → (k < c.loop-done.done) ⊎ (c.loop-done.done ≤ k) → k < c.loop-done.done + 1
        → HasLevel c.mark-in-loop-done.new.marks.items x
    closed c k x edge (inl less) l =
        let marked = c.in_ok-mark-2.ensures.marked in
        marked.kept x (c.loop-done.invariant.closed k x less (subst (IsEdge c.args.graph.now.edges x) (marked.front k (omega (arith, less, c.loop-done.invariant.upto))) edge))
    closed c k x edge (inr past) l =
        let marked = c.in_ok-mark-2.ensures.marked in
        let low : c.loop-done.done < length c.loop-done.found.items = omega (arith, c.loop-done-test.true, c.len-in-loop-done.ensures, c.loop-done.found.ok.0) in
        let here : nth c.loop-done.found.items c.loop-done.done ≡ c.index-class.result.now = get_or_default c.loop-done.found.items c.loop-done.done 0 c.index-class.result.now low ∙ sym c.index-class.ensures in
        let same : k ≡ c.loop-done.done = omega (arith, past, l) in
        let class = c.index-class.result.now in
        let to_class = subst (IsEdge c.args.graph.now.edges x) (ap (nth c.mark-in-loop-done.new.found.items) same ∙ marked.front c.loop-done.done low ∙ here) edge in
        marked.all x (subst (λ l. Contains l x) (sym (c.before-in-loop-done.ensures.near ∙ ap (λ l. list_at l.before.lists class) c.new.ensures.lists)) ((c.lists.ensures.before class x).1 to_class))

pub returns : goal.returns
returns c = record {
  len = c.loop-done.invariant.size;
  first = c.loop-done.invariant.ends;
  closed = λ x y edge h.
      let m = c.loop-done.invariant.touched.all y h.0 h.1 in
      let b = m.1 in
      c.loop-done.invariant.closed m.0 x (omega (arith, b, c.loop-done-test.false, c.len-in-loop-done.ensures, c.loop-done.found.ok.0))
      (subst (IsEdge c.args.graph.now.edges x) (sym (get_or_default c.loop-done.found.items m.0 0 y b ∙ m.2)) edge);
}
