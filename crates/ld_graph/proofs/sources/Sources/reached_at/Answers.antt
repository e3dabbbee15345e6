use Rattle.std.proofs.Common.{IsSome, None, ap, arith, get_or, length, subst, sym}
use Rattle.ld_graph.specs.Inner.Sources.{Sourced}
use Rattle.ld_graph.proofs.ReachLemmas.{AreReached-has}
use Rattle.ld_graph.proofs.sources.Sources.reached_at.Goals as goal

pub returns-clause-within : goal.returns-clause-within
returns-clause-within c =
    let n = ap (λ (s : Sourced). length s.reached) c.self.view_is in
    let has = AreReached-has c.self.inside.each.items c.self.inside.reached.items c.self.invariant.listed c.args.number c.index.result.now (omega (arith, c.requires, n)) in
    omega (arith, has.1, c.index.ensures, ap (λ (s : Sourced). length s.each) c.self.view_is)

pub returns-clause-has : goal.returns-clause-has
returns-clause-has c =
    let n = ap (λ (s : Sourced). length s.reached) c.self.view_is in
    let has = AreReached-has c.self.inside.each.items c.self.inside.reached.items c.self.invariant.listed c.args.number c.index.result.now (omega (arith, c.requires, n)) in
    subst (λ (s : Sourced). IsSome (get_or s.each c.index.result.now None)) c.self.view_is
    (subst (λ k. IsSome (get_or c.self.inside.each.items k None)) (sym c.index.ensures) has.0)
