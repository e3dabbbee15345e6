use Rattle.std.proofs.Common.{◌<◌, All, length, subst}
use Rattle.ld_trace.specs.declared.event.State.TheVariants.{Hard, Soft}
use Rattle.ld_union.specs.Inner.Union.{edges_of}
use Rattle.ld_union.specs.Usage.{bits_of}
use Rattle.ld_union.proofs.ReachedLemmas.{source_some, source_there}
use Rattle.ld_union.proofs.union.Union.reached.Goals as goal

pub returns-in-Hard-clause-within : goal.returns-in-Hard-clause-within
returns-in-Hard-clause-within c = rw (← c.self.view_is, c.in-Hard.is)
    (subst (λ n. All (λ class. class < n) c.self.inside.dependencies.reach.hard.reached) (c.self.invariant.reached Hard).once.count c.reached.ensures.within)

pub returns-in-Hard-clause-each : goal.returns-in-Hard-clause-each
returns-in-Hard-clause-each c = rw (← c.self.view_is, c.in-Hard.is) (λ class.
    let union = c.self.inside in
    let is = c.self.invariant.reached Hard in
    let edges = edges_of union.dependencies.rows.items in
    let usage = bits_of union.usage.items in (
      (λ there. source_some (length union.classes) edges usage Hard union.dependencies.reach.hard is class ((c.reached.ensures.each class).0 there)),
      (λ any. (c.reached.ensures.each class).1 (source_there (length union.classes) edges usage Hard union.dependencies.reach.hard is class any.0 any.1)),
    ))

pub returns-in-Soft-clause-within : goal.returns-in-Soft-clause-within
returns-in-Soft-clause-within c = rw (← c.self.view_is, c.in-Soft.is)
    (subst (λ n. All (λ class. class < n) c.self.inside.dependencies.reach.soft.reached) (c.self.invariant.reached Soft).once.count c.reached-in-Soft.ensures.within)

pub returns-in-Soft-clause-each : goal.returns-in-Soft-clause-each
returns-in-Soft-clause-each c = rw (← c.self.view_is, c.in-Soft.is) (λ class.
    let union = c.self.inside in
    let is = c.self.invariant.reached Soft in
    let edges = edges_of union.dependencies.rows.items in
    let usage = bits_of union.usage.items in (
      (λ there. source_some (length union.classes) edges usage Soft union.dependencies.reach.soft is class ((c.reached-in-Soft.ensures.each class).0 there)),
      (λ any. (c.reached-in-Soft.ensures.each class).1 (source_there (length union.classes) edges usage Soft union.dependencies.reach.soft is class any.0 any.1)),
    ))
