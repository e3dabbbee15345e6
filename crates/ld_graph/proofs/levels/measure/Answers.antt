use Rattle.std.proofs.Common.{inl, inr, ◌≡◌, ◌+◌, ◌∙◌, ℕ, [], None, Contains, ap, arith, get_or, length, subst, sym}
use Rattle.std.proofs.lemmas.List.{get_or_default}
use Rattle.ld_graph.specs.Lists.{list_at}
use Rattle.ld_graph.specs.Inner.Insides.{AreLevelsFor, IsInsideOf, IsNearInside}
use Rattle.ld_graph.specs.Inner.Levels.{HasLevel, Spreads}
use Rattle.ld_graph.proofs.SpreadLemmas.{count_none}
use Rattle.ld_graph.proofs.SearchLemmas.{IsPartial-begun, IsPartial-next, IsPartial-levels, IsPartial-touched}
use Rattle.ld_graph.proofs.SearchLemmas.{next_within, next_small, next_level}
use Rattle.ld_graph.proofs.TouchedLemmas.{within_if}
use Rattle.ld_graph.proofs.levels.measure.Goals as goal

pub loop-done-init : goal.loop-done-init
loop-done-init c =
    let component = c.component_of-component.result in
    let spreads : Spreads (IsNearInside c.args.lists.now.before.lists c.args.components component c.args.end) 1
    c.args.levels.now [] c.expand.new.levels c.expand.new.queue.items =
    subst (λ q. Spreads (IsNearInside c.args.lists.now.before.lists c.args.components component c.args.end) 1
    c.args.levels.now q c.expand.new.levels c.expand.new.queue.items) c.requires.empty
    (subst (λ n. Spreads (IsInsideOf c.args.components component n) 1 c.args.levels.now c.args.queue.now.items
    c.expand.new.levels c.expand.new.queue.items) (c.before-2.ensures.near ∙ ap (λ l. list_at l.before.lists c.args.end) c.new.ensures.lists) c.expand.ensures.spreads) in
    let few = count_none c.args.levels.now in
    let none : length c.args.queue.now.items ≡ 0 = ap length c.requires.empty in
    record {
      count = omega (arith, few, none, c.args.queue.now.ok.0, c.expand.ensures.count, c.requires.classes);
      capacity = omega (arith, c.expand.ensures.capacity);
      partial = IsPartial-begun (IsNearInside c.args.lists.now.before.lists c.args.components c.component_of-component.result) c.args.end c.args.levels.now
          c.expand.new.levels c.expand.new.queue.items c.requires.none spreads
          (subst (λ n. (x : ℕ) → IsInsideOf c.args.components component n x → HasLevel c.expand.new.levels x)
          (c.before-2.ensures.near ∙ ap (λ l. list_at l.before.lists c.args.end) c.new.ensures.lists) c.expand.ensures.reached);
      known = λ i l. absurd (omega (arith, l));
    }

pub loop-done-preserved : goal.loop-done-preserved
loop-done-preserved c =
    record {
      count = omega (arith, c.expand-in-loop-done.ensures.count, c.loop-done.invariant.count);
      capacity = omega (arith, c.expand-in-loop-done.ensures.capacity, c.loop-done.invariant.capacity);
      partial = IsPartial-next _ _ _ _ _ c.loop-done.invariant.partial (omega (arith, c.loop-done-test.true, c.len.ensures)) _
          c.index-class.ensures _ _ c.in-Some.level
          (get_or_default c.loop-done.levels c.index-class.result.now None c.index-levels-class.result (next_within _ _ _ _ _ c.loop-done.invariant.partial (omega (arith, c.loop-done-test.true, c.len.ensures)) _ c.index-class.ensures) ∙ sym c.get.ensures ∙ c.in-Some.is)
          (subst (λ n. Spreads (IsInsideOf c.args.components c.component_of-component.result n) (c.in-Some.level + 1) c.loop-done.levels
          c.loop-done.queue.items c.expand-in-loop-done.new.levels
          c.expand-in-loop-done.new.queue.items) (c.before-in-loop-done.ensures.near ∙ ap (λ l. list_at l.before.lists c.index-class.result.now) c.new-in-loop-done.ensures.lists)
          c.expand-in-loop-done.ensures.spreads)
          (subst (λ n. (x : ℕ) → IsInsideOf c.args.components c.component_of-component.result n x → HasLevel c.expand-in-loop-done.new.levels x)
          (c.before-in-loop-done.ensures.near ∙ ap (λ l. list_at l.before.lists c.index-class.result.now) c.new-in-loop-done.ensures.lists) c.expand-in-loop-done.ensures.reached);
      known = λ i l. let r = c.known_front-known.ensures.known i l in (r.0, c.expand-in-loop-done.ensures.spreads.kept (get_or c.args.wanted.now i 0) r.0 r.1);
    }

pub loop-done-smaller : goal.loop-done-smaller
loop-done-smaller c = omega (arith, c.expand-in-loop-done.ensures.count, c.loop-done-test.true, c.len.ensures)

pub bounds-levels-class : goal.bounds-levels-class
bounds-levels-class c =
    next_within _ _ _ _ _ c.loop-done.invariant.partial (omega (arith, c.loop-done-test.true, c.len.ensures)) _ c.index-class.ensures

pub overflow_add-level : goal.overflow_add-level
overflow_add-level c =
    let small = next_small _ _ _ _ _ c.loop-done.invariant.partial (omega (arith, c.loop-done-test.true, c.len.ensures)) _
    c.index-class.ensures c.in-Some.level (get_or_default c.loop-done.levels c.index-class.result.now None c.index-levels-class.result (next_within _ _ _ _ _ c.loop-done.invariant.partial (omega (arith, c.loop-done-test.true, c.len.ensures)) _ c.index-class.ensures) ∙ sym c.get.ensures ∙ c.in-Some.is) in
    omega (arith, small)

pub unreachable-requires : goal.unreachable-requires
unreachable-requires c =
    let next = next_level _ _ _ _ _ c.loop-done.invariant.partial (omega (arith, c.loop-done-test.true, c.len.ensures)) _ c.index-class.ensures in
    c.in_default.not-Some next.0 (c.get.ensures ∙ sym (get_or_default c.loop-done.levels c.index-class.result.now None c.index-levels-class.result (next_within _ _ _ _ _ c.loop-done.invariant.partial (omega (arith, c.loop-done-test.true, c.len.ensures)) _ c.index-class.ensures)) ∙ next.1.0)

pub returns-clause-levels : goal.returns-clause-levels
returns-clause-levels c = λ i d within.
    subst (λ k. AreLevelsFor (λ a b. IsNearInside c.args.lists.now.before.lists c.args.components k b a) (get_or c.args.wanted.now i d) c.args.end c.loop-done.levels)
    c.component_of-component.ensures (IsPartial-levels _ _ _ _ _ c.loop-done.invariant.partial (get_or c.args.wanted.now i d)
    (inr (omega (arith, c.loop-done-test.false, c.len.ensures))))

pub expand-requires-clause-ends : goal.expand-requires-clause-ends
expand-requires-clause-ends c = λ x n.
    let e = c.requires.ends c.args.end x (subst (λ l. Contains l x) (c.before-2.ensures.near ∙ ap (λ l. list_at l.before.lists c.args.end) c.new.ensures.lists) n)
    in omega (arith, e, c.requires.classes)

pub expand-requires-in-loop-done-clause-ends : goal.expand-requires-in-loop-done-clause-ends
expand-requires-in-loop-done-clause-ends c = λ x n.
    let e = c.requires.ends c.index-class.result.now x
    (subst (λ l. Contains l x) (c.before-in-loop-done.ensures.near ∙ ap (λ l. list_at l.before.lists c.index-class.result.now) c.new-in-loop-done.ensures.lists) n)
    in omega (arith, e, c.requires.classes, c.loop-done.auto.levels)

pub returns-clause-touched : goal.returns-clause-touched
returns-clause-touched c =
    IsPartial-touched _ _ _ _ _ c.loop-done.invariant.partial

pub returns-then-known-wanted-clause-touched : goal.returns-then-known-wanted-clause-touched
returns-then-known-wanted-clause-touched c =
    IsPartial-touched _ _ _ _ _ c.loop-done.invariant.partial

pub returns-then-known-wanted-clause-levels : goal.returns-then-known-wanted-clause-levels
returns-then-known-wanted-clause-levels c = λ i d within.
    subst (λ k. AreLevelsFor (λ a b. IsNearInside c.args.lists.now.before.lists c.args.components k b a) (get_or c.args.wanted.now i d) c.args.end c.loop-done.levels)
    c.component_of-component.ensures (IsPartial-levels _ _ _ _ _ c.loop-done.invariant.partial (get_or c.args.wanted.now i d)
    (inl (subst (HasLevel c.loop-done.levels) (get_or_default c.args.wanted.now i 0 d within) (c.known_front-known.ensures.known i (omega (arith, within, c.if-known-wanted.true))))))

pub before-requires-in-loop-done-clause-class : goal.before-requires-in-loop-done-clause-class
before-requires-in-loop-done-clause-class c =
    let within = next_within _ _ _ _ _ c.loop-done.invariant.partial (omega (arith, c.loop-done-test.true, c.len.ensures)) _ c.index-class.ensures in
    let same = ap (λ l. length l.before.lists) c.new-in-loop-done.ensures.lists in
    omega (arith, same, within, c.requires.classes, c.loop-done.auto.levels)

pub component_of-component-requires : goal.component_of-component-requires
component_of-component-requires c =
    within_if c.args.components (length c.args.lists.now.before.lists) c.args.end c.requires.components c.requires.end
