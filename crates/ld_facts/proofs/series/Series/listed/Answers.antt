use Rattle.std.proofs.Common.{ap, refl, subst, sym, ◌∙◌, None}
use Rattle.std.specs.List.{last_or}
use Rattle.ld_batch.specs.Batch.{IsShown, PlainShown, sources_of}
use Rattle.ld_facts.proofs.ListedLemmas.{last_source}
use Rattle.ld_facts.proofs.RowLemmas.{slice_is}
use Rattle.ld_facts.proofs.SeriesLemmas.{series-exact}
use Rattle.ld_facts.proofs.series.Series.listed.Goals as goal

pub returns-clause-last : goal.returns-clause-last
returns-clause-last c l some =
    let n = c.self.inside.passed.traces in
    ap (λ (s : PlainShown). last_or None s.sources) (sym c.self.view_is)
    ∙ ap (λ ls. last_or None (sources_of ls)) (sym (slice_is c.deref.result.now c.self.inside.listed.items n n c.deref.ensures.value refl))
    ∙ last_source l _ some

pub returns-clause-exact : goal.returns-clause-exact
returns-clause-exact c = subst IsShown c.self.view_is (series-exact _ c.self.invariant)
