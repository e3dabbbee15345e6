use Rattle.std.proofs.Common.{◌++◌, ◌∙◌, List, ap, sym}
use Rattle.ld_trace.specs.Sources.{PlainSource}
use Rattle.ld_batch.specs.Batch.{PlainBatch}
use Rattle.ld_work.proofs.SeenLemmas.{noted, on-ok, still-kept}
use Rattle.ld_work.proofs.kept.Kept.submit_from.Goals as goal

pub invariant_of-self : goal.invariant_of-self
invariant_of-self g c =
    still-kept g.H.Room.history c.self.inside.keeper c.self.inside.locked c.submit_from-answer.new.self c.submit_from-answer.result c.submit_from-answer.ensures.added.err
    (sym c.is_err.ensures.value ∙ c.if-is_err.true) c.self.invariant

pub invariant_of-self-2 : goal.invariant_of-self-2
invariant_of-self-2 g c =
    let added = on-ok c.submit_from-answer.result c.submit_from-answer.ensures.added.ok (sym c.is_err.ensures.value ∙ c.if-is_err.false) in
    noted g.H.Room.history c.self.inside.keeper c.note.new.keeper c.self.inside.locked c.submit_from-answer.new.self _ c.self.invariant c.note.ensures
    (added.listed ∙ ap (λ (these : List PlainSource). c.self.inside.locked ++ these) (sym (c.listed.ensures.sources ∙ ap (λ (b : PlainBatch). b.sources) c.submit_from-answer.ensures.batch)))
