use Rattle.std.proofs.Common.{ap, arith, length, sym, subst}
use Rattle.ld_graph.specs.Lists.{IsNear}
use Rattle.ld_graph.specs.Inner.Sides.{HasEachOnce}
use Rattle.ld_graph.proofs.OnceLemmas.{HasEachOnce-push}
use Rattle.ld_graph.proofs.lists.Lists.push.Goals as goal

pub invariant_of-self : goal.invariant_of-self
invariant_of-self g c =
    let after = ap (λ l. length l.after.lists) c.self.view_is in
    let before = ap (λ l. length l.before.lists) c.self.view_is in (
      subst HasEachOnce (sym c.push.ensures.lists)
          (HasEachOnce-push c.self.inside.after.lists c.args.a c.args.b
          (omega (arith, after, c.requires.a))
          (λ n. c.requires.after_fresh (subst (λ l. IsNear l.after.lists c.args.a c.args.b)
          c.self.view_is n)) c.self.invariant.0),
      subst HasEachOnce (sym c.push-2.ensures.lists)
          (HasEachOnce-push c.self.inside.before.lists c.args.b c.args.a
          (omega (arith, before, c.requires.b))
          (λ n. c.requires.before_fresh (subst (λ l. IsNear l.before.lists c.args.b c.args.a)
          c.self.view_is n)) c.self.invariant.1),
    )
