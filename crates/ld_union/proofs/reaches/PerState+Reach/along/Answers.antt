use Rattle.std.proofs.Common.{◌∙◌, ap, arith, length, subst, sym}
use Rattle.ld_graph.specs.Reach.{AreSuccessors}
use Rattle.ld_trace.specs.declared.event.State.TheVariants.{Hard, Soft}
use Rattle.ld_union.proofs.reaches.PerState+Reach.along.Goals as goal

pub along-requires-clause-classes : goal.along-requires-clause-classes
along-requires-clause-classes c =
    ap (λ l. length l.after.lists) c.new.ensures.lists ∙ c.lists.ensures.classes.0 ∙ sym (c.requires.classes Hard).count

pub along-requires-clause-ends : goal.along-requires-clause-ends
along-requires-clause-ends c = rw (c.new.ensures.lists) (λ x y n.
    let e = c.lists.ensures.ends x y ((c.lists.ensures.after x y).0 n) in let k = (c.requires.classes Hard).count in omega (arith, e, k))

pub along-requires-clause-from : goal.along-requires-clause-from
along-requires-clause-from c = let k = (c.requires.classes Hard).count in omega (arith, k, c.requires.from)

pub along-requires-clause-to : goal.along-requires-clause-to
along-requires-clause-to c = let k = (c.requires.classes Hard).count in omega (arith, k, c.requires.to)

pub along-requires-2-clause-classes : goal.along-requires-2-clause-classes
along-requires-2-clause-classes c =
    ap (λ l. length l.after.lists) c.new-2.ensures.lists ∙ c.lists-2.ensures.classes.0 ∙ sym (c.requires.classes Soft).count

pub along-requires-2-clause-ends : goal.along-requires-2-clause-ends
along-requires-2-clause-ends c = rw (c.new-2.ensures.lists) (λ x y n.
    let e = c.lists-2.ensures.ends x y ((c.lists-2.ensures.after x y).0 n) in let k = (c.requires.classes Soft).count in omega (arith, e, k))

pub along-requires-2-clause-from : goal.along-requires-2-clause-from
along-requires-2-clause-from c = let k = (c.requires.classes Soft).count in omega (arith, k, c.requires.from)

pub along-requires-2-clause-to : goal.along-requires-2-clause-to
along-requires-2-clause-to c = let k = (c.requires.classes Soft).count in omega (arith, k, c.requires.to)

pub returns-clause-classes : goal.returns-clause-classes
returns-clause-classes c Hard = record { count = c.along.ensures.len ∙ (c.requires.classes Hard).count; each = c.along.ensures.each_once }
returns-clause-classes c Soft = record { count = c.along-2.ensures.len ∙ (c.requires.classes Soft).count; each = c.along-2.ensures.each_once }

pub returns-clause-exact : goal.returns-clause-exact
returns-clause-exact c before is Hard seeds reach =
    let there = subst (λ l. AreSuccessors l c.args.graph.now.edges) (sym c.new.ensures.lists) c.lists.ensures.after in
    rw is (c.along.ensures.exact before seeds (subst (AreSuccessors c.new.result.lists) is there) reach)
returns-clause-exact c before is Soft seeds reach =
    let there = subst (λ l. AreSuccessors l c.args.graph.now.edges) (sym c.new-2.ensures.lists) c.lists-2.ensures.after in
    rw is (c.along-2.ensures.exact before seeds (subst (AreSuccessors c.new-2.result.lists) is there) reach)
