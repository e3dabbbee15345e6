use Rattle.std.proofs.Common.{◌≡◌, ◌+◌, ◌∙◌, arith, inr, length, refl, subst, sym}
use Rattle.std.proofs.lemmas.List.Sums.{count_by-le-length}
use Rattle.ld_graph.specs.Lists.{IsNear}
use Rattle.ld_graph.specs.Inner.KeptReach.{IsSpread, none_ahead}
use Rattle.ld_graph.proofs.ReachLemmas.{expanded-then, spread-passed, spread-popped}
use Rattle.ld_graph.proofs.reach.spread.Goals as goal

pub loop-done-init : goal.loop-done-init
loop-done-init c = record {
  within = (omega arith, c.requires.known);
  expanded = record {
    lists = refl;
    read = refl;
    counted = c.requires.counted;
    len_marks = refl;
    room_marks = refl;
    stays = λ x on. on;
    len = refl;
    room = refl;
    longer = omega arith;
    front = λ n within. refl;
  };
  spread = λ seeds first. first;
}

pub is_on-requires : goal.is_on-requires
is_on-requires c =
    let e = c.loop-done.invariant.expanded in
    omega (arith, c.reached_at-class.ensures.within, c.requires.same, e.len, e.len_marks)

pub expand-requires-clause-ends : goal.expand-requires-clause-ends
expand-requires-clause-ends c = λ x y h.
    let e = c.requires.ends x y (subst (λ l. IsNear l.after.lists x y) c.loop-done.invariant.expanded.lists h) in
    omega (arith, e, c.loop-done.invariant.expanded.len_marks)

pub expand-requires-clause-few : goal.expand-requires-clause-few
expand-requires-clause-few c =
    let e = c.loop-done.invariant.expanded in
    let few = count_by-le-length (λ m. m) c.loop-done.marks.each in
    omega (arith, few, e.counted, e.read, e.len_marks, c.requires.steps)

pub loop-done-preserved-then-not-is_on : goal.loop-done-preserved-then-not-is_on
loop-done-preserved-then-not-is_on c =
    let i = c.loop-done.invariant in
    let class = c.reached_at-class.result in
    record {
      within = (omega (arith, i.within.0), omega (arith, c.expand.ensures.expanded.longer, c.loop-done-test.true, c.count.ensures.count));
      expanded = expanded-then c.args.reader.now c.args.marks.now c.args.sources.now c.loop-done.reader c.loop-done.marks c.loop-done.sources
          c.expand.new.reader c.expand.new.marks c.expand.new.sources i.expanded c.expand.ensures.expanded;
      spread = λ seeds first.
          let near = IsNear c.loop-done.reader.lists.after.lists in
          let before : IsSpread near seeds none_ahead c.loop-done.sources.each c.loop-done.marks.each c.loop-done.sources.reached c.loop-done.done =
          subst (λ l. IsSpread (IsNear l.after.lists) seeds none_ahead c.loop-done.sources.each c.loop-done.marks.each
          c.loop-done.sources.reached c.loop-done.done) (sym i.expanded.lists) (i.spread seeds first) in
          let source = before.sound class c.in-Some.from (sym c.in-Some.ensures) in
          subst (λ l. IsSpread (IsNear l.after.lists) seeds none_ahead c.expand.new.sources.each c.expand.new.marks.each
          c.expand.new.sources.reached (c.loop-done.done + 1)) i.expanded.lists
          (c.expand.ensures.spread (c.loop-done.done + 1) seeds (omega (arith, c.loop-done-test.true, c.count.ensures.count))
          (spread-popped near seeds class c.loop-done.sources.each c.loop-done.marks.each c.loop-done.sources.reached c.loop-done.done c.reached_at-class.ensures.class
          (omega (arith, c.reached_at-class.ensures.within, c.requires.same, i.expanded.len, i.expanded.len_marks)) c.reached_at-class.ensures.has before)
          (source.0, inr source.1));
    }

pub loop-done-preserved : goal.loop-done-preserved
loop-done-preserved c =
    let i = c.loop-done.invariant in
    record {
      within = (omega (arith, i.within.0), omega (arith, c.loop-done-test.true, c.count.ensures.count));
      expanded = i.expanded;
      spread = λ seeds first. spread-passed (IsNear c.args.reader.now.lists.after.lists) seeds c.reached_at-class.result c.loop-done.sources.each c.loop-done.marks.each
          c.loop-done.sources.reached c.loop-done.done c.reached_at-class.ensures.class (sym c.is_on.ensures ∙ c.if-not-is_on.false) (i.spread seeds first);
    }

pub returns-clause-spread : goal.returns-clause-spread
returns-clause-spread c = λ seeds first.
    let all : c.loop-done.done ≡ length c.loop-done.sources.reached = omega (arith, c.loop-done.invariant.within.1, c.loop-done-test.false, c.count.ensures.count) in
    subst (IsSpread (IsNear c.args.reader.now.lists.after.lists) seeds none_ahead c.loop-done.sources.each c.loop-done.marks.each c.loop-done.sources.reached) all
    (c.loop-done.invariant.spread seeds first)
