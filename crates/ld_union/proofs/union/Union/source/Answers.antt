use Rattle.std.proofs.Common.{◌∙◌, ◌<◌, ap, length, subst, sym}
use Rattle.ld_trace.specs.declared.event.State.TheVariants.{Hard, Soft}
use Rattle.ld_union.specs.Inner.Union.{PlainUnion, edges_of}
use Rattle.ld_union.specs.Usage.{bits_of}
use Rattle.ld_union.proofs.ReachedLemmas.{source_at}
use Rattle.ld_union.proofs.union.Union.source.Goals as goal

pub source-requires : goal.source-requires
source-requires c = subst (λ n. c.args.class < n) (ap (λ (union : PlainUnion). length union.classes) (sym c.self.view_is) ∙ sym (c.self.invariant.reached Hard).once.count) c.requires

pub source-requires-in-Soft : goal.source-requires-in-Soft
source-requires-in-Soft c = subst (λ n. c.args.class < n) (ap (λ (union : PlainUnion). length union.classes) (sym c.self.view_is) ∙ sym (c.self.invariant.reached Soft).once.count) c.requires

pub returns-in-Hard : goal.returns-in-Hard
returns-in-Hard c = rw (← c.self.view_is, c.in-Hard.is)
    (let union = c.self.inside in
    source_at (length union.classes) (edges_of union.dependencies.rows.items) (bits_of union.usage.items) Hard union.dependencies.reach.hard (c.self.invariant.reached Hard)
    c.args.class c.source.result c.source.ensures)

pub returns-in-Soft : goal.returns-in-Soft
returns-in-Soft c = rw (← c.self.view_is, c.in-Soft.is)
    (let union = c.self.inside in
    source_at (length union.classes) (edges_of union.dependencies.rows.items) (bits_of union.usage.items) Soft union.dependencies.reach.soft (c.self.invariant.reached Soft)
    c.args.class c.source-in-Soft.result c.source-in-Soft.ensures)
