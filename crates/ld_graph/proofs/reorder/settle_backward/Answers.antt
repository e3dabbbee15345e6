use Rattle.std.proofs.Common.{◌∙◌, true≢false, arith, get_or, Contains, subst, sym, refl}
use Rattle.ld_graph.specs.Inner.Repairs.{IsOrReaches}
use Rattle.ld_graph.specs.Lists.{IsNear}
use Rattle.ld_graph.proofs.ApartLemmas.{met_backward}
use Rattle.ld_graph.proofs.RepairLemmas.{differs, mended_backward}
use Rattle.ld_order.specs.Orders.{HaveMoved}
use Rattle.ld_graph.proofs.reorder.settle_backward.Goals as goal

pub move_before-requires-clause-classes : goal.move_before-requires-clause-classes
move_before-requires-clause-classes g c = λ x n. (c.requires.found.within x (subst (λ l. Contains l x) c.found.ensures.found n)).0

pub move_before-requires-clause-above : goal.move_before-requires-clause-above
move_before-requires-clause-above g c = λ x n.
    let m = subst (λ l. Contains l x) c.found.ensures.found n in
    let w = c.requires.found.within x m in
    let q = differs _ (IsNear c.args.lists.now.before.lists) _ c.args.order.now.ranks _ _ _ c.requires.ends c.requires.rises
    c.requires.a c.requires.b c.requires.found c.requires.ranks c.args.b c.requires.b
    (λ h. true≢false (sym (c.has.ensures.1 h) ∙ c.if-has.false)) x m in
    omega (arith, w.1.0, q)

pub returns-then-has-clause-met : goal.returns-then-has-clause-met
returns-then-has-clause-met g c = (
  refl,
  met_backward (IsNear c.args.lists.now.after.lists) (IsNear c.args.lists.now.before.lists)
      (λ x y n. (c.requires.turned y x).1 n) c.args.a c.args.b
      (subst (λ z. IsOrReaches (IsNear c.args.lists.now.before.lists) z c.args.b) c.requires.first
      (c.requires.found.reached c.args.b (c.has.ensures.0 c.if-has.true))),
)

pub returns-clause-mended : goal.returns-clause-mended
returns-clause-mended g c =
    mended_backward _ (IsNear c.args.lists.now.before.lists) _ c.move_before.new.self.ranks _ _ _ c.requires.ends c.requires.rises
    c.requires.a c.requires.b c.requires.found (λ x y n. (c.requires.turned x y).0 n) c.requires.first
    (λ h. true≢false (sym (c.has.ensures.1 h) ∙ c.if-has.false))
    (subst (λ l. HaveMoved (Contains l) (get_or c.args.order.now.ranks c.args.b 0) c.args.order.now.ranks c.move_before.new.self.ranks)
    c.found.ensures.found c.move_before.ensures.moved)

pub returns-clause-apart : goal.returns-clause-apart
returns-clause-apart g c = λ h. true≢false (sym (c.has.ensures.1 h) ∙ c.if-has.false)
