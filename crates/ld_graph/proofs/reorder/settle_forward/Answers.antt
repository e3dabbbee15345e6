use Rattle.std.proofs.Common.{◌+◌, ◌∙◌, true≢false, arith, get_or, Contains, subst, sym, refl}
use Rattle.ld_graph.specs.Inner.Repairs.{IsOrReaches}
use Rattle.ld_graph.specs.Lists.{IsNear}
use Rattle.ld_graph.proofs.RepairLemmas.{differs, mended_forward}
use Rattle.ld_order.specs.Orders.{HaveMoved}
use Rattle.ld_graph.proofs.reorder.settle_forward.Goals as goal

pub move_behind-requires-clause-classes : goal.move_behind-requires-clause-classes
move_behind-requires-clause-classes g c = λ x n. (c.requires.found.within x (subst (λ l. Contains l x) c.found.ensures.found n)).0

pub move_behind-requires-clause-below : goal.move_behind-requires-clause-below
move_behind-requires-clause-below g c = λ x n.
    let m = subst (λ l. Contains l x) c.found.ensures.found n in
    let w = c.requires.found.within x m in
    let q = differs _ (IsNear c.args.lists.now.after.lists) _ c.args.order.now.ranks _ _ _ c.requires.ends c.requires.rises
    c.requires.a c.requires.b c.requires.found c.requires.ranks c.args.a c.requires.a
    (λ h. true≢false (sym (c.has.ensures.1 h) ∙ c.if-has.false)) x m in
    omega (arith, w.1.1, q)

pub returns-then-has-clause-met : goal.returns-then-has-clause-met
returns-then-has-clause-met g c = (
  refl,
  subst (λ z. IsOrReaches (IsNear c.args.lists.now.after.lists) z c.args.a) c.requires.first
      (c.requires.found.reached c.args.a (c.has.ensures.0 c.if-has.true)),
)

pub returns-clause-mended : goal.returns-clause-mended
returns-clause-mended g c =
    mended_forward _ (IsNear c.args.lists.now.after.lists) _ c.move_behind.new.self.ranks _ _ _ c.requires.ends c.requires.rises
    c.requires.a c.requires.b c.requires.found (λ x y n. n) c.requires.first
    (λ h. true≢false (sym (c.has.ensures.1 h) ∙ c.if-has.false))
    (subst (λ l. HaveMoved (Contains l) (get_or c.args.order.now.ranks c.args.a 0 + 1) c.args.order.now.ranks c.move_behind.new.self.ranks)
    c.found.ensures.found c.move_behind.ensures.moved)

pub returns-clause-apart : goal.returns-clause-apart
returns-clause-apart g c = λ h. true≢false (sym (c.has.ensures.1 h) ∙ c.if-has.false)
