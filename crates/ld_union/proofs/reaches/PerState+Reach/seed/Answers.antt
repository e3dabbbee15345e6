use Rattle.std.proofs.Common.{rules, ◌≡◌, ◌∙◌, ap, arith, length, subst, sym}
use Rattle.ld_graph.specs.Reach.{AreSuccessors}
use Rattle.ld_trace.specs.declared.event.State.TheVariants.{Hard, Soft}
use Rattle.ld_rules.specs.Usage.{usage_of}
use Rattle.ld_rules.specs.Usage.Bit.{In}
use Rattle.ld_union.proofs.ReachedLemmas.{hard≢soft, seeded-other, seeded-seed}
use Rattle.ld_union.proofs.reaches.PerState+Reach.seed.Goals as goal

pub seed-requires-clause-classes : goal.seed-requires-clause-classes
seed-requires-clause-classes c =
    ap (λ l. length l.after.lists) c.new.ensures.lists ∙ c.lists.ensures.classes.0 ∙ sym (c.requires.classes Hard).count

pub seed-requires-clause-ends : goal.seed-requires-clause-ends
seed-requires-clause-ends c = rw (c.new.ensures.lists) (λ x y n.
    let e = c.lists.ensures.ends x y ((c.lists.ensures.after x y).0 n) in let k = (c.requires.classes Hard).count in omega (arith, e, k))

pub seed-requires-clause-class : goal.seed-requires-clause-class
seed-requires-clause-class c = let k = (c.requires.classes Hard).count in omega (arith, k, c.requires.within)

pub seed-requires-then-eq-2-clause-classes : goal.seed-requires-then-eq-2-clause-classes
seed-requires-then-eq-2-clause-classes c =
    ap (λ l. length l.after.lists) c.new-then-eq-2.ensures.lists ∙ c.lists-then-eq-2.ensures.classes.0 ∙ sym (c.requires.classes Soft).count

pub seed-requires-then-eq-2-clause-ends : goal.seed-requires-then-eq-2-clause-ends
seed-requires-then-eq-2-clause-ends c = rw (c.new-then-eq-2.ensures.lists) (λ x y n.
    let e = c.lists-then-eq-2.ensures.ends x y ((c.lists-then-eq-2.ensures.after x y).0 n) in let k = (c.requires.classes Soft).count in omega (arith, e, k))

pub seed-requires-then-eq-2-clause-class : goal.seed-requires-then-eq-2-clause-class
seed-requires-then-eq-2-clause-class c = let k = (c.requires.classes Soft).count in omega (arith, k, c.requires.within)

pub returns-then-eq-clause-classes : goal.returns-then-eq-clause-classes
returns-then-eq-clause-classes c Hard = record { count = c.seed.ensures.len ∙ (c.requires.classes Hard).count; each = c.seed.ensures.each_once }
returns-then-eq-clause-classes c Soft = c.requires.classes Soft

pub returns-then-eq-clause-exact : goal.returns-then-eq-clause-exact
returns-then-eq-clause-exact c Hard seeds before is =
    let acquired : c.args.told.bit ≡ usage_of (In Hard) = search rules in
    seeded-seed c.args.graph.now.edges seeds Hard before c.args.told c.args.self.now.hard c.seed.new.self acquired
    (λ seeds. c.seed.ensures.exact c.args.graph.now.edges seeds (subst (λ l. AreSuccessors l c.args.graph.now.edges) (sym c.new.ensures.lists) c.lists.ensures.after)) is
returns-then-eq-clause-exact c Soft seeds before is =
    let acquired : c.args.told.bit ≡ usage_of (In Hard) = search rules in
    seeded-other c.args.graph.now.edges seeds Soft before c.args.told c.args.self.now.soft (hard≢soft c.args.told.bit acquired) is

pub returns-then-eq-2-clause-classes : goal.returns-then-eq-2-clause-classes
returns-then-eq-2-clause-classes c Hard = c.requires.classes Hard
returns-then-eq-2-clause-classes c Soft = record { count = c.seed-then-eq-2.ensures.len ∙ (c.requires.classes Soft).count; each = c.seed-then-eq-2.ensures.each_once }

pub returns-then-eq-2-clause-exact : goal.returns-then-eq-2-clause-exact
returns-then-eq-2-clause-exact c Hard seeds before is =
    let acquired : c.args.told.bit ≡ usage_of (In Soft) = search rules in
    seeded-other c.args.graph.now.edges seeds Hard before c.args.told c.args.self.now.hard (λ hard. hard≢soft c.args.told.bit hard acquired) is
returns-then-eq-2-clause-exact c Soft seeds before is =
    let acquired : c.args.told.bit ≡ usage_of (In Soft) = search rules in
    seeded-seed c.args.graph.now.edges seeds Soft before c.args.told c.args.self.now.soft c.seed-then-eq-2.new.self acquired
    (λ seeds. c.seed-then-eq-2.ensures.exact c.args.graph.now.edges seeds
    (subst (λ l. AreSuccessors l c.args.graph.now.edges) (sym c.new-then-eq-2.ensures.lists) c.lists-then-eq-2.ensures.after)) is

pub returns-else-eq-2-clause-exact : goal.returns-else-eq-2-clause-exact
returns-else-eq-2-clause-exact c Hard seeds before is =
    seeded-other c.args.graph.now.edges seeds Hard before c.args.told c.args.self.now.hard (search rules) is
returns-else-eq-2-clause-exact c Soft seeds before is =
    seeded-other c.args.graph.now.edges seeds Soft before c.args.told c.args.self.now.soft (search rules) is
