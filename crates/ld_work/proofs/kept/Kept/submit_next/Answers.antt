use Rattle.std.proofs.Common.{◌++◌, ◌∙◌, List, ap, sym}
use Rattle.ld_trace.specs.Sources.{PlainSource}
use Rattle.ld_batch.specs.Batch.{PlainShown}
use Rattle.ld_work.specs.Inner.Seen.{entries_of}
use Rattle.ld_work.proofs.SeenLemmas.{front-all, front-is, none-ok, noted, on-ok, seen-kept, seen-through, some-kept, some-ok, still-kept}
use Rattle.ld_work.proofs.kept.Kept.submit_next.Goals as goal

pub compare-requires : goal.compare-requires
compare-requires g c = some-kept g.H.Room.history c.self.inside.keeper c.self.inside.locked c.requires.history c.self.invariant

pub submit_next-answer-requires-clause-seen : goal.submit_next-answer-requires-clause-seen
submit_next-answer-requires-clause-seen g c =
    seen-through (entries_of c.self.inside.locked) c.args.front.now (entries_of c.args.series.now.behind)
    (seen-kept g.H.Room.history c.self.inside.keeper c.self.inside.locked c.args.front.now c.requires.history c.self.invariant c.compare.ensures.seen)
    c.requires.seen

pub show-requires : goal.show-requires
show-requires g c =
    let added = on-ok c.submit_next-answer.result c.submit_next-answer.ensures.added.ok (sym c.is_err.ensures.value ∙ c.if-is_err.false) in
    some-kept g.H.Room.history c.note.new.keeper c.submit_next-answer.new.self c.requires.history
    (noted g.H.Room.history c.compare.new.keeper c.note.new.keeper c.self.inside.locked c.submit_next-answer.new.self _ (c.compare.ensures.same ∙ c.self.invariant) c.note.ensures
    (added.listed ∙ ap (λ (these : List PlainSource). c.self.inside.locked ++ these) (sym (c.listed.ensures.sources ∙ ap (λ (s : PlainShown). s.sources) c.submit_next-answer.ensures.series))))

pub returns-then-is_err-clause-seen : goal.returns-then-is_err-clause-seen
returns-then-is_err-clause-seen g c = none-ok _ c.submit_next-answer.result (sym c.is_err.ensures.value ∙ c.if-is_err.true)

pub returns-clause-seen : goal.returns-clause-seen
returns-clause-seen g c =
    let added = on-ok c.submit_next-answer.result c.submit_next-answer.ensures.added.ok (sym c.is_err.ensures.value ∙ c.if-is_err.false) in
    let kept = noted g.H.Room.history c.compare.new.keeper c.note.new.keeper c.self.inside.locked c.submit_next-answer.new.self _ (c.compare.ensures.same ∙ c.self.invariant) c.note.ensures
    (added.listed ∙ ap (λ (these : List PlainSource). c.self.inside.locked ++ these) (sym (c.listed.ensures.sources ∙ ap (λ (s : PlainShown). s.sources) c.submit_next-answer.ensures.series))) in
    some-ok c.submit_next-answer.result
    (front-all c.self.inside.locked c.args.series.now.sources c.args.series.now.behind c.show.result
    (seen-through (entries_of c.self.inside.locked) c.args.front.now (entries_of c.args.series.now.behind)
    (seen-kept g.H.Room.history c.self.inside.keeper c.self.inside.locked c.args.front.now c.requires.history c.self.invariant c.compare.ensures.seen)
    c.requires.seen)
    (front-is g.H.Room.history c.note.new.keeper c.show.result c.submit_next-answer.new.self c.requires.history kept c.show.ensures.front ∙ ap entries_of added.listed))

pub invariant_of-self : goal.invariant_of-self
invariant_of-self g c =
    still-kept g.H.Room.history c.compare.new.keeper c.self.inside.locked c.submit_next-answer.new.self c.submit_next-answer.result c.submit_next-answer.ensures.added.err
    (sym c.is_err.ensures.value ∙ c.if-is_err.true) (c.compare.ensures.same ∙ c.self.invariant)

pub invariant_of-self-2 : goal.invariant_of-self-2
invariant_of-self-2 g c =
    let added = on-ok c.submit_next-answer.result c.submit_next-answer.ensures.added.ok (sym c.is_err.ensures.value ∙ c.if-is_err.false) in
    c.show.ensures.same
    ∙ noted g.H.Room.history c.compare.new.keeper c.note.new.keeper c.self.inside.locked c.submit_next-answer.new.self _ (c.compare.ensures.same ∙ c.self.invariant) c.note.ensures
    (added.listed ∙ ap (λ (these : List PlainSource). c.self.inside.locked ++ these) (sym (c.listed.ensures.sources ∙ ap (λ (s : PlainShown). s.sources) c.submit_next-answer.ensures.series)))
